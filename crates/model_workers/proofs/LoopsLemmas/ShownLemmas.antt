-- Rounds of one history seen as rounds of another, of which it is a picture.
use Rattle.std.proofs.Common.{◌≡◌, ◌⊎◌, ◌∙◌, refl, sym, ap, subst, inl, inr, ℕ, Bool, true, false, List, [], ◌∷◌, ◌++◌}
use Rattle.std.proofs.Common.{Option, Some, None, if◌then◌else◌, append_assoc, append-nil}
use Rattle.std.specs.Io.KnownBytes.{Consumes}
use Rattle.redis_connection.specs.Link.{Link}
use Rattle.redis_connection.specs.Passing.{AwaitsAnswer}
use Rattle.redis_connection.specs.declared.error.ConnectionError.TheVariants.{Memory as OutOfMemory}
use Rattle.redis_wire.specs.Reply as wire
use Rattle.model_server.specs.Group.Worker.{Id, Verdict, Machine, after, begins_again, entries_in, told_in}
use Rattle.stream_in_place.specs.Sent.{Pairs}
use Rattle.worker.specs.Answered.{Failed, IsNoAnswer}
use Rattle.worker.specs.Answers.{Heard, told, no_group, group_made, group_after, hears}
use Rattle.worker.specs.Gathered.{Doings, done_too, committed_too}
use Rattle.worker.specs.Handling.{with_all}
use Rattle.worker.specs.Life.{deleted_told, deleted_at}
use Rattle.worker.specs.Machine.{commits, at_request, history_at_request}
use Rattle.worker.specs.Pipelined.{FailsPipelined, WentPipelined}
use Rattle.worker.specs.Questions.{asks}
use Rattle.worker.specs.Requested.{Unasked}
use Rattle.worker.specs.Session.{Standing, Turn, Turned, Breaks, Fails, after_failure, after_turn, asking}
use Rattle.worker.specs.Session.{having_heard, FailsUnanswered, IsAsked}
use Rattle.worker.specs.declared.error.RequestError.{RequestError}
use Rattle.worker.specs.declared.error.RequestError.TheVariants.{NotCommitted, TooLong, Memory}
use Rattle.worker.specs.declared.error.RunError.{RunError}
use Rattle.worker.specs.declared.error.RunError.TheVariants as causes
use Rattle.worker.specs.declared.error.WorkerError.{WorkerError}
use Rattle.worker.specs.declared.error.WorkerError.TheVariants as faults
use Rattle.worker.specs.declared.state.Asked.{Asked}
use Rattle.worker.specs.declared.state.Asked.TheVariants.{Acknowledgement, Nothing}
use Rattle.worker.specs.declared.state.GroupState.{GroupState}
use Rattle.worker.specs.declared.state.Settings.{Settings}
use Rattle.worker.specs.declared.worker.Progress.{Progress}
use Rattle.worker.specs.declared.worker.Progress.TheVariants.{GoesOn, Stopped}
use Rattle.worker.specs.DeadLetters.Besides.{Besides, BreaksBesides, BreaksLooking, Looks, nothing}
use Rattle.worker.proofs.DeadLettersLemmas.BesidesLemmas.{no_more, one_look}
use Rattle.model_workers.specs.Loops.Loop.{Loops, Stops, Drains, IsLeft, ends, besides, turns, breaks, stops, fails}
use Rattle.model_workers.specs.Loops.Shown.{IsPicture, Leads, LeadsSo, Way, with_doings}
use Rattle.worker.proofs.SessionLemmas.{failing}
use Rattle.model_workers.proofs.LoopsLemmas.LivedLemmas.{loops_both, loops_stop}

nothing_consumed : (c : Option (List ℕ)) → Consumes c c []
nothing_consumed None = tt
nothing_consumed (Some bytes) = refl

-- nothing came in
nothing_came : (l : Link) → AwaitsAnswer l l
nothing_came l = record {
  count = 0;
  between = l;
  passes = refl;
  waits = (
    [],
    record {
      consumes = nothing_consumed l.coming;
      bytes = sym (append-nil l.held.bytes);
      limits = refl;
      written = refl;
      passed = refl;
    },
  );
}

-- the state of a worker
abbrev standing : {H : Type 0} → Machine → GroupState → Asked → H → Standing H
standing m g a h = record { machine = m; group = g; asked = a; history = h }

module _ {R S : Type 0} (vR : R → List ℕ × Pairs → Verdict → R) (cR : R → R) (vS : S → List ℕ × Pairs → Verdict → S)
    (cS : S → S) (f : R → S) (verdicts_map : (r : R) (e : List ℕ × Pairs) (v : Verdict) → f (vR r e v) ≡ vS (f r) e v)
    (commits_map : (r : R) → f (cR r) ≡ cS (f r)) (settings : Settings) where
  -- its state, seen by the picture of its history
  abbrev seen : Standing R → Standing S
  seen w = standing w.machine w.group w.asked (f w.history)

  all_map : (r : R) (ts : List ((List ℕ × Pairs) × Verdict)) → with_all vS (f r) ts ≡ f (with_all vR r ts)
  all_map r [] = refl
  all_map r (t ∷ ts) = ap (λ (s : S). with_all vS s ts) (sym (verdicts_map r t.0 t.1)) ∙ all_map (vR r t.0 t.1) ts

  commit_map : (m : Machine) (r : R) → history_at_request cS m (f r) ≡ f (history_at_request cR m r)
  commit_map m r = by (commits m)
    where
      by : (b : Bool) → (if b then cS (f r) else f r) ≡ f (if b then cR r else r)
      by true = sym (commits_map r)
      by false = refl

  asking_map : (w : Standing R) → asking cS settings (seen w) ≡ seen (asking cR settings w)
  asking_map w = ap (standing (at_request w.machine) w.group
      (asks w.group (at_request w.machine).phase (at_request w.machine).to_acknowledge)) (commit_map w.machine w.history)

  heard_map : (w : Standing R) (g : GroupState) (o : Option Heard) (vs : List Verdict)
      → having_heard vS (seen w) g o vs ≡ seen (having_heard vR w g o vs)
  heard_map w g None vs = refl
  heard_map w g (Some (told answer)) vs =
      ap (standing (after w.machine answer vs) g Nothing) (all_map w.history (told_in (entries_in answer) vs))
  heard_map w g (Some no_group) vs = refl
  heard_map w g (Some group_made) vs = refl

  turn_map : (w : Standing R) (t : Turn) → after_turn vS cS settings (seen w) t ≡ seen (after_turn vR cR settings w t)
  turn_map w t =
      ap (λ (x : Standing S). having_heard vS x (group_after settings x.group x.asked t.answer)
      (hears settings x.asked t.answer) t.verdicts) (asking_map w)
      ∙ heard_map (asking cR settings w) _ _ t.verdicts

  no_answer_back : (a : wire.Answer) → IsNoAnswer vS a → IsNoAnswer vR a
  no_answer_back (wire.value t) h = absurd h
  no_answer_back (wire.refused text) h = absurd h
  no_answer_back (wire.group kind members) h = tt
  no_answer_back (wire.pushed kind payload) h = tt

  failed_back : (q : Asked) (a : wire.Answer) (m n : Machine) (r : R) (s : S) (e : WorkerError)
      → Failed vS settings q a m n (f r) s e → (t : R) × (s ≡ f t) × Failed vR settings q a m n r t e
  failed_back q a m n r s faults.NotAsked h = (r, h.2, (h.0, h.1, refl))
  failed_back q a m n r s (faults.Server e) h = (r, h.5, (h.0, h.1, h.2, h.3, h.4, refl))
  failed_back q a m n r s (faults.GroupIsGone e) h = (r, h.4, (h.0, h.1, h.2, h.3, refl))
  failed_back q a m n r s faults.NotAnAnswer h = (r, h.3, (no_answer_back a h.0, h.1, h.2, refl))
  failed_back q a m n r s (faults.Parsing e) h = (r, h.3, (h.0, h.1, h.2, refl))
  failed_back q a m n r s faults.OtherStream h = (r, h.3, (h.0, h.1, h.2, refl))
  failed_back q a m n r s (faults.NilFields id) h = (r, h.3, (h.0, h.1, h.2, refl))
  failed_back q a m n r s faults.Memory h = elim h.2 [
    | inl p ↦ (r, p.1, (h.0, h.1, inl (p.0, refl)))
    | inr c ↦ (
      with_all vR r (told_in (entries_in c.answer) c.took.verdicts),
      c.took.history ∙ all_map r (told_in (entries_in c.answer) c.took.verdicts),
      (
        h.0,
        h.1,
        inr (record {
          answer = c.answer;
          said = c.said;
          took = record {
            verdicts = c.took.verdicts;
            machine = c.took.machine;
            history = refl;
            ended = c.took.ended;
          };
        }),
      ),
    )
  ]

  unasked_back : (m n : Machine) (r : R) (s : S) (e : RequestError) → Unasked cS m n (f r) s e
      → (t : R) × (s ≡ f t) × Unasked cR m n r t e
  unasked_back m n r s NotCommitted h = (r, h.2, (h.0, h.1, refl))
  unasked_back m n r s TooLong h = (history_at_request cR m r, h.1 ∙ commit_map m r, (h.0, refl))
  unasked_back m n r s Memory h = (history_at_request cR m r, h.1 ∙ commit_map m r, (h.0, refl))

  breaks_back : (old new : Link) (w : Standing R) (y : Standing S) (e : RunError)
      → Breaks vS cS settings old new (seen w) y e
      → (z : Standing R) × (y ≡ seen z) × Breaks vR cR settings old new w z e
  breaks_back old new w y (causes.Request e) h =
      let b = unasked_back w.machine y.machine w.history y.history e h.1 in
      (standing y.machine y.group y.asked b.0, ap (standing y.machine y.group y.asked) b.1, (h.0, b.2, h.2, h.3))
  breaks_back old new w y (causes.Send e) h = (asking cR settings w, h.0 ∙ asking_map w, (refl, h.1, h.2))
  breaks_back old new w y (causes.Receive named e) h = (
    asking cR settings w,
    h.0 ∙ asking_map w,
    (refl, h.1, h.2, h.3, h.4 ∙ ap (λ (v : Standing S). v.asked) h.0),
  )
  breaks_back old new w y (causes.Answer e) h =
      let q = (asking cR settings w).asked in
      let failed = subst (λ (r : S). Failed vS settings q h.0 (at_request w.machine) y.machine r y.history e.error)
      (commit_map w.machine w.history) h.2 in
      let b = failed_back q h.0 (at_request w.machine) y.machine (history_at_request cR w.machine w.history) y.history e.error
      failed in
      (standing y.machine y.group y.asked b.0, ap (standing y.machine y.group y.asked) b.1, (h.0, h.1, b.2, h.3, h.4, h.5))

  pub fails_back : (old new : Link) (w : Standing R) (x : Standing S) (e : RunError)
      → Fails vS cS settings old new (seen w) x e
      → (z : Standing R) × (x ≡ seen z) × Fails vR cR settings old new w z e
  fails_back old new w x e h =
      let b = breaks_back old new w h.0 e h.1 in
      (after_failure e b.0, h.2 ∙ ap (after_failure e) b.1, (b.0, b.2, refl))

  pub turned_back : (old new : Link) (w : Standing R) (x : Standing S) (q : Asked) (p : Progress)
      → Turned vS cS settings old new (seen w) x q p
      → (z : Standing R) × (x ≡ seen z) × Turned vR cR settings old new w z q p
  turned_back old new w x q p h = (
    after_turn vR cR settings w h.turn,
    h.stands ∙ turn_map w h.turn,
    record { turn = h.turn; asked = h.asked; exchanges = h.exchanges; stands = refl; ends = h.ends },
  )

-- ---- of what a handler keeps

module _ {H P : Type 0} (vH : H → List ℕ × Pairs → Verdict → H) (cH : H → H) (shown : P → Doings → H)
    (pic : IsPicture shown vH cH) where
  -- a picture of the state of a worker
  abbrev drawn_by : P → Standing Doings → Standing H
  drawn_by p v = standing v.machine v.group v.asked (shown p v.history)

  -- what is kept as a worker sends its request
  pub commit_of : (settings : Settings) (p : P) (m : Machine) (d : Doings)
      → history_at_request cH m (shown p d) ≡ shown p (history_at_request committed_too m d)
  commit_of settings p m d =
      commit_map done_too committed_too vH cH (shown p) (pic.verdict p) (pic.commit p) settings m d

  -- where this leads to is where these doings are drawn
  leads_so : (p : P) (way : Way) (old new : Link) (w x : Standing H) (d : Doings) (z : Standing Doings) (gone : List Id)
      → x ≡ drawn_by p z → way old (with_doings w d) new z gone → LeadsSo shown way old new w x p d
  leads_so p way old new w x d z gone is q = record {
    doings = z.history;
    told = gone;
    leads = subst (λ (u : Standing Doings). way old (with_doings w d) new u gone)
        (sym (ap (λ (s : Standing H). with_doings s z.history) is)) q;
    drawn = ap (λ (s : Standing H). s.history) is;
  }

  drawn_is : (p : P) (w : Standing H) (d : Doings) → w.history ≡ shown p d → w ≡ drawn_by p (with_doings w d)
  drawn_is p w d is = ap (standing w.machine w.group w.asked) is

  -- a round of what is kept is one of the doings
  turned_so : (settings : Settings) (p : P) (old new : Link) (w x : Standing H) (d : Doings) (q : Asked) (r : Progress)
      → w.history ≡ shown p d → Turned vH cH settings old new w x q r
      → (z : Standing Doings) × (x ≡ drawn_by p z)
      × Turned done_too committed_too settings old new (with_doings w d) z q r
  turned_so settings p old new w x d q r is t =
      turned_back done_too committed_too vH cH (shown p) (pic.verdict p) (pic.commit p) settings
      old new (with_doings w d) x q r
      (subst (λ (s : Standing H). Turned vH cH settings old new s x q r) (drawn_is p w d is) t)

  failed_so : (settings : Settings) (p : P) (old new : Link) (w x : Standing H) (d : Doings) (e : RunError)
      → w.history ≡ shown p d → Fails vH cH settings old new w x e
      → (z : Standing Doings) × (x ≡ drawn_by p z) × Fails done_too committed_too settings old new (with_doings w d) z e
  failed_so settings p old new w x d e is f =
      fails_back done_too committed_too vH cH (shown p) (pic.verdict p) (pic.commit p) settings
      old new (with_doings w d) x e
      (subst (λ (s : Standing H). Fails vH cH settings old new s x e) (drawn_is p w d is) f)

  pub leads_both : (settings : Settings) (old m new : Link) (w x y : Standing H) → Leads shown (Loops settings) old m w x
      → Leads shown (Loops settings) m new x y → Leads shown (Loops settings) old new w y
  leads_both settings old m new w x y a b p d is =
      let g = a p d is in
      let h = b p g.doings g.drawn in
      record {
        doings = h.doings;
        told = g.told ++ h.told;
        leads = loops_both settings old m new _ _ _ g.told h.told g.leads h.leads;
        drawn = h.drawn;
      }

  pub leads_stop : (settings : Settings) (old m new : Link) (w x y : Standing H) → Leads shown (Loops settings) old m w x
      → Leads shown (Stops settings) m new x y → Leads shown (Stops settings) old new w y
  leads_stop settings old m new w x y a b p d is =
      let g = a p d is in
      let h = b p g.doings g.drawn in
      record {
        doings = h.doings;
        told = g.told ++ h.told;
        leads = loops_stop settings old m new _ _ _ g.told h.told g.leads h.leads;
        drawn = h.drawn;
      }

  -- nothing happened
  pub leads_same : (settings : Settings) (l : Link) (w : Standing H) → Leads shown (Loops settings) l l w w
  leads_same settings l w p d is = record { doings = d; told = []; leads = ends l (with_doings w d); drawn = is }

  -- other commands went out
  pub leads_besides : (settings : Settings) (old new : Link) (w : Standing H) → Besides old new
      → Leads shown (Loops settings) old new w w
  leads_besides settings old new w b p d is =
      let v = with_doings w d in
      record { doings = d; told = []; leads = besides old new new v v [] b (ends new v); drawn = is }

  pub leads_breaks : (settings : Settings) (old new : Link) (w : Standing H) → BreaksBesides old new
      → Leads shown (Stops settings) old new w w
  leads_breaks settings old new w b p d is =
      let v = with_doings w d in
      record { doings = d; told = []; leads = breaks old old new v v [] (ends old v) b; drawn = is }

  -- the rounds end, and nothing more goes out
  pub leads_end : (settings : Settings) (old new : Link) (w x : Standing H) → Leads shown (Loops settings) old new w x
      → Leads shown (Stops settings) old new w x
  leads_end settings old new w x a = leads_stop settings old new new w x x a (leads_breaks settings new new x (no_more new))

  -- ---- a round

  pub round_goes_on : (settings : Settings) (old new : Link) (w x : Standing H) (asked : Asked)
      → Turned vH cH settings old new w x asked GoesOn → Leads shown (Loops settings) old new w x
  round_goes_on settings old new w x asked h p d is =
      let v = with_doings w d in
      let t = turned_so settings p old new w x d asked GoesOn is h in
      leads_so p (Loops settings) old new w x d t.0 (deleted_told settings v t.2.turn.answer ++ []) t.1
      (turns old new new v t.0 t.0 asked [] t.2 (ends new t.0))

  -- it stops, and other commands went out then
  stops_besides : (settings : Settings) (old m new : Link) (w x : Standing H) (asked : Asked)
      → Turned vH cH settings old m w x asked Stopped → Besides m new → Leads shown (Stops settings) old new w x
  stops_besides settings old m new w x asked h b p d is =
      let v = with_doings w d in
      let t = turned_so settings p old m w x d asked Stopped is h in
      leads_so p (Stops settings) old new w x d t.0 (deleted_told settings v t.2.turn.answer) t.1
      (stops old old m new v v t.0 asked [] (ends old v) t.2 b)

  pub round_stops : (settings : Settings) (old new : Link) (w x : Standing H) (asked : Asked)
      → Turned vH cH settings old new w x asked Stopped → Leads shown (Stops settings) old new w x
  round_stops settings old new w x asked h = stops_besides settings old new new w x asked h (nothing new)

  -- it fails, and this part of what was sent is left
  fails_leaving : (settings : Settings) (old k new : Link) (w x : Standing H) (e : RunError)
      → Fails vH cH settings old k w x e
      → ((d : Doings) → IsLeft settings k new (with_doings w d)) → Leads shown (Stops settings) old new w x
  fails_leaving settings old k new w x e h left p d is =
      let v = with_doings w d in
      let f = failed_so settings p old k w x d e is h in
      leads_so p (Stops settings) old new w x d f.0 (deleted_at settings old k v f.0 e f.2) f.1
      (fails old old k new v v f.0 e [] (ends old v) f.2 (left d))

  pub round_fails : (settings : Settings) (old new : Link) (w x : Standing H) (e : RunError)
      → Fails vH cH settings old new w x e → Leads shown (Stops settings) old new w x
  round_fails settings old new w x e h = fails_leaving settings old new new w x e h (λ d. inl refl)

  -- one round, or two with one write
  pub pipelined_goes_on : (settings : Settings) (old new : Link) (w x : Standing H) (both : Bool) (asked : Asked)
      → WentPipelined vH cH settings old new w x both asked GoesOn → Leads shown (Loops settings) old new w x
  pipelined_goes_on settings old new w x false asked t = round_goes_on settings old new w x asked t
  pipelined_goes_on settings old new w x true asked (m, y, first, second) =
      leads_both settings old m new w y x (round_goes_on settings old m w y Acknowledgement first)
      (round_goes_on settings m new y x asked second)

  pub pipelined_stops : (settings : Settings) (old new : Link) (w x : Standing H) (both : Bool) (asked : Asked)
      → WentPipelined vH cH settings old new w x both asked Stopped
      → Leads shown (Stops settings) old new w x
  pipelined_stops settings old new w x false asked t = round_stops settings old new w x asked t
  pipelined_stops settings old new w x true asked (m, y, first, second) =
      leads_stop settings old m new w y x (round_goes_on settings old m w y Acknowledgement first)
      (round_stops settings m new y x asked second)

  -- the same of a round that came to this
  pub round_ok : (settings : Settings) (old new : Link) (w x : Standing H) (asked : Asked) (r : Progress)
      → r ≡ GoesOn → Turned vH cH settings old new w x asked r → Leads shown (Loops settings) old new w x
  round_ok settings old new w x asked r is t = round_goes_on settings old new w x asked
      (subst (λ (k : Progress). Turned vH cH settings old new w x asked k) is t)

  pub round_stopped : (settings : Settings) (old new : Link) (w x : Standing H) (asked : Asked) (r : Progress)
      → r ≡ Stopped → Turned vH cH settings old new w x asked r → Leads shown (Stops settings) old new w x
  round_stopped settings old new w x asked r is t = round_stops settings old new w x asked
      (subst (λ (k : Progress). Turned vH cH settings old new w x asked k) is t)

  pub pipelined_ok : (settings : Settings) (old new : Link) (w x : Standing H) (both : Bool) (asked : Asked)
      (r : Progress) → r ≡ GoesOn → WentPipelined vH cH settings old new w x both asked r
      → Leads shown (Loops settings) old new w x
  pipelined_ok settings old new w x both asked r is t = pipelined_goes_on settings old new w x both asked
      (subst (λ (k : Progress). WentPipelined vH cH settings old new w x both asked k) is t)

  pub pipelined_stopped : (settings : Settings) (old new : Link) (w x : Standing H) (both : Bool) (asked : Asked)
      (r : Progress) → r ≡ Stopped → WentPipelined vH cH settings old new w x both asked r
      → Leads shown (Stops settings) old new w x
  pipelined_stopped settings old new w x both asked r is t = pipelined_stops settings old new w x both asked
      (subst (λ (k : Progress). WentPipelined vH cH settings old new w x both asked k) is t)

  pub pipelined_fails : (settings : Settings) (old new : Link) (w x : Standing H) (e : RunError)
      → FailsPipelined vH cH settings old new w x e → Leads shown (Stops settings) old new w x
  pipelined_fails settings old new w x e (inl f) = round_fails settings old new w x e f
  pipelined_fails settings old new w x e (inr (inl (m, c, f, leaves, names))) =
      fails_leaving settings old m new w x c f (λ d. inr (inl (c, e, leaves)))
  pipelined_fails settings old new w x e (inr (inr (m, y, t, f))) =
      leads_stop settings old m new w y x (round_goes_on settings old m w y Acknowledgement t)
      (round_fails settings m new y x e f)

  -- ---- a round, and a command after it that only looks

  pub looked_ok : (settings : Settings) (old m new : Link) (w x : Standing H) (asked : Asked) (r : Progress)
      → r ≡ GoesOn → Turned vH cH settings old m w x asked r → Looks m new → Leads shown (Loops settings) old new w x
  looked_ok settings old m new w x asked r is t l =
      leads_both settings old m new w x x (round_ok settings old m w x asked r is t)
      (leads_besides settings m new x (one_look m new l))

  pub looked_stopped : (settings : Settings) (old m new : Link) (w x : Standing H) (asked : Asked) (r : Progress)
      → r ≡ Stopped → Turned vH cH settings old m w x asked r → Looks m new → Leads shown (Stops settings) old new w x
  looked_stopped settings old m new w x asked r is t l =
      stops_besides settings old m new w x asked
      (subst (λ (k : Progress). Turned vH cH settings old m w x asked k) is t) (one_look m new l)

  pub looked_fails : (settings : Settings) (old m new : Link) (w x : Standing H) (e : RunError)
      → Fails vH cH settings old m w x e → Looks m new → Leads shown (Stops settings) old new w x
  looked_fails settings old m new w x e f l =
      fails_leaving settings old m new w x e f
      (λ d. inr (inr (record { link = m; passed = inl refl; looked = inl l })))

  -- no reply came
  pub unanswered_fails : (settings : Settings) (old new : Link) (w x : Standing H) (e : RunError)
      → FailsUnanswered cH settings old new w x e → Leads shown (Stops settings) old new w x
  unanswered_fails settings old new w x e f =
      round_fails settings old new w x e (f.0, failing vH cH settings old new w f.0 e f.1, f.2)

  -- it sent its request, and its reply was skipped: for the worker it is as if none had arrived
  pub passed_over : (settings : Settings) (old m new : Link) (w y x : Standing H) (a : wire.Answer)
      → IsAsked cH settings old m w y a → x ≡ record y { machine = begins_again y.machine }
      → Looks m new ⊎ BreaksLooking m new → Leads shown (Stops settings) old new w x
  passed_over settings old m new w y x a asked is l =
      let sent : Link = asked.1.between in
      fails_leaving settings old sent new w x (causes.Receive y.asked OutOfMemory)
      (y, (asked.0, (sent, asked.1.sends, nothing_came sent), tt, tt, refl), is)
      (λ d. inr (inr (record { link = m; passed = inr (a, asked.1.receives); looked = l })))
