-- What is acknowledged was replied `done`.
use Rattle.std.proofs.Common.{◌≡◌, ◌∙◌, ◌⊎◌, refl, sym, ap, subst, inl, inr, ⊎_elim, ℕ, Bool, true, false, List, [], ◌∷◌, ◌++◌}
use Rattle.std.proofs.Common.{flat_map, Option, Some, None, if◌then◌else◌, append_assoc, append-nil}
use Rattle.std.specs.List.{AllByRecursion}
use Rattle.std.proofs.lemmas.List.{flat_map_more}
use Rattle.redis_connection.specs.Link.{Link}
use Rattle.model_server.specs.Group.Law.{Among}
use Rattle.model_server.specs.Group.Worker.{Entry, Id, Verdict, done, left_pending, stop, entries_in, told_in}
use Rattle.stream_in_place.specs.Sent.{Pairs}
use Rattle.worker_jobs.specs.Acknowledged.{AcknowledgedWasReplied, AreReplied, Exchange, IsTalk, Reaches, Stands, WasDone, acknowledges, begins, deleted_told, lines_of, newborn_over, replies_of, turns}
use Rattle.worker_jobs.specs.LineOf.{line_of}
use Rattle.worker_jobs.specs.Lines.{HasNoEnd}
use Rattle.worker_jobs.specs.Talk.{Pipes, Talk, by_line, by_reply, committed, ended, first_line, goes_on, over, talk_of, talked, wrong}
use Rattle.worker_jobs.specs.VerdictOf.{verdict_of}
use Rattle.worker_jobs.specs.declared.reply.Reply.{Reply}
use Rattle.worker_jobs.specs.declared.reply.Reply.TheVariants.{Done, Later, Dead, Stop}
use Rattle.worker_jobs.proofs.TalkLemmas.{first_is}
use Rattle.worker.proofs.LifeLemmas.{only_committed}
use Rattle.worker.specs.Answers.{Heard, told, no_group, group_made, group_after, hears}
use Rattle.worker.specs.Gathered.{Doings, committed_too, done_too}
use Rattle.worker.specs.Handling.{with_all}
use Rattle.worker.specs.Life as life
use Rattle.worker.specs.Life.{Lives}
use Rattle.worker.specs.Machine.{commits, history_at_request}
use Rattle.worker.specs.Session.{Standing, Turn, Turned, after_turn, asking, having_heard}
use Rattle.worker.specs.declared.state.Asked.{Asked}
use Rattle.worker.specs.declared.state.GroupState.{GroupState}
use Rattle.worker.specs.declared.state.Settings.{Settings}
use Rattle.worker.specs.declared.worker.Progress.{Progress}

among_both : {A : Type 0} (a b : List A) (x : A) → Among x (a ++ b) → Among x a ⊎ Among x b
among_both [] b x among = inr among
among_both (y ∷ a) b x (inl is) = inl (inl is)
among_both (y ∷ a) b x (inr later) = ⊎_elim (λ first. inl (inr first)) inr (among_both a b x later)

among_front : {A : Type 0} (a b : List A) (x : A) → Among x a → Among x (a ++ b)
among_front [] b x among = absurd among
among_front (y ∷ a) b x (inl is) = inl is
among_front (y ∷ a) b x (inr later) = inr (among_front a b x later)

among_last : {A : Type 0} (a : List A) (x : A) → Among x (a ++ x ∷ [])
among_last [] x = inl refl
among_last (y ∷ a) x = inr (among_last a x)

all_more : (xs : List Exchange) (x : Exchange) → AllByRecursion (λ y. HasNoEnd y.reply) xs → HasNoEnd x.reply
    → AllByRecursion (λ y. HasNoEnd y.reply) (xs ++ x ∷ [])
all_more [] x all one = (one, tt)
all_more (y ∷ ys) x all one = (all.0, all_more ys x all.1 one)

-- what was done stays so
still_done : (xs : List Exchange) (x : Exchange) (id : Id) → WasDone xs id → WasDone (xs ++ x ∷ []) id
still_done xs x id (y, among, is, says) = (y, among_front xs (x ∷ []) y among, is, says)

-- ---- talks

talk_before : (t : Talk) (e : Entry Pairs) (v : Verdict) → IsTalk (talked t e v) → IsTalk t
talk_before wrong e v is = is
talk_before over e v is = tt
talk_before (goes_on p) e v is = tt

talks_before : (t : Talk) (us : List (Entry Pairs × Verdict)) → IsTalk (with_all talked t us) → IsTalk t
talks_before t [] is = is
talks_before t (u ∷ us) is = talk_before t u.0 u.1 (talks_before (talked t u.0 u.1) us is)

talk_heard : (w : Standing Talk) (g : GroupState) (o : Option Heard) (vs : List Verdict)
    → IsTalk (having_heard talked w g o vs).history → IsTalk w.history
talk_heard w g None vs is = is
talk_heard w g (Some (told answer)) vs is = talks_before w.history (told_in (entries_in answer) vs) is
talk_heard w g (Some no_group) vs is = is
talk_heard w g (Some group_made) vs is = is

talk_asking : (b : Bool) (t : Talk) → IsTalk (if b then committed t else t) → IsTalk t
talk_asking true t is = is
talk_asking false t is = is

-- a worker that stands so, with these doings in place of its talk
abbrev with_doings : Standing Talk → Doings → Standing Doings
with_doings w d = record { machine = w.machine; group = w.group; asked = w.asked; history = d }

module _ (stream sent coming : List ℕ) where
  -- these exchanges were made, of which the doings are those whose reply was `done`
  record Drawn (t : Talk) (d : Doings) : Type 0 where
    exchanges : List Exchange
    rest : List ℕ
    came : coming ≡ replies_of exchanges ++ rest
    whole : AllByRecursion (λ x. HasNoEnd x.reply) exchanges
    stands : Stands t stream (sent ++ lines_of stream exchanges) rest
    loose : (e : Entry Pairs) → Among e d.loose → WasDone exchanges e.0
    settled : (e : Entry Pairs) → Among e d.committed → WasDone exchanges e.0

  -- what is on the pipes after these exchanges
  abbrev now : List Exchange → List ℕ → Pipes
  now xs rest = record { stream = stream; sent = Some (sent ++ lines_of stream xs); coming = Some rest }

  -- and after the line of one more entry
  abbrev asked_of : List Exchange → List ℕ → Entry Pairs → Pipes
  asked_of xs rest e = record {
    stream = stream;
    sent = Some ((sent ++ lines_of stream xs) ++ ended (line_of stream e));
    coming = Some rest;
  }

  lines_more : (xs : List Exchange) (x : Exchange)
      → (sent ++ lines_of stream xs) ++ ended (line_of stream x.entry) ≡ sent ++ lines_of stream (xs ++ x ∷ [])
  lines_more xs x = flat_map_more (λ (y : Exchange). ended (line_of stream y.entry)) sent xs x

  replies_more : (xs : List Exchange) (x : Exchange) (rest left : List ℕ) → coming ≡ replies_of xs ++ rest
      → rest ≡ ended x.reply ++ left → coming ≡ replies_of (xs ++ x ∷ []) ++ left
  replies_more xs x rest left came is =
      came ∙ ap (λ (ls : List ℕ). replies_of xs ++ ls) is
      ∙ sym (append_assoc (replies_of xs) (ended x.reply) left)
      ∙ ap (λ (ls : List ℕ). ls ++ left) (flat_map_more (λ (y : Exchange). ended y.reply) [] xs x)

  -- one more exchange, after which the talk goes on, and these are the doings
  more : (t : Talk) (d f : Doings) (x : Drawn t d) (e : Entry Pairs) (line left : List ℕ)
      → first_line x.rest ≡ Some (line, left)
      → ((g : Entry Pairs) → Among g f.loose → Among g d.loose ⊎ ((g ≡ e) × (verdict_of line ≡ Some Done)))
      → f.committed ≡ d.committed
      → Drawn (goes_on (record (asked_of x.exchanges x.rest e) { coming = Some left })) f
  more t d f x e line left first new same =
      let y : Exchange = record { entry = e; reply = line } in
      let is = first_is x.rest line left first in
      record {
        exchanges = x.exchanges ++ y ∷ [];
        rest = left;
        came = replies_more x.exchanges y x.rest left x.came is.is;
        whole = all_more x.exchanges y x.whole is.one_line;
        stands = ap (λ (ls : List ℕ). record { stream = stream; sent = Some ls; coming = Some left })
            (lines_more x.exchanges y);
        loose = λ g among. ⊎_elim (λ old. still_done x.exchanges y g.0 (x.loose g old))
            (λ last. (y, among_last x.exchanges y, ap (λ (h : Entry Pairs). h.0) (sym last.0), last.1))
            (new g among);
        settled = λ g among. still_done x.exchanges y g.0
            (x.settled g (subst (λ (es : List (Entry Pairs)). Among g es) same among));
      }

  old_or_last : (d : Doings) (e : Entry Pairs) (line : List ℕ) → verdict_of line ≡ Some Done → (g : Entry Pairs)
      → Among g (d.loose ++ e ∷ []) → Among g d.loose ⊎ ((g ≡ e) × (verdict_of line ≡ Some Done))
  old_or_last d e line says g among =
      ⊎_elim inl (⊎_elim (λ is. inr (sym is, says)) (λ none. absurd none)) (among_both d.loose (e ∷ []) g among)

  -- ---- one entry, where the talk went on before

  after_done : (t : Talk) (d : Doings) (x : Drawn t d) (e : Entry Pairs) (o : Option (List ℕ × List ℕ))
      → first_line x.rest ≡ o → IsTalk (by_line (asked_of x.exchanges x.rest e) o done)
      → Drawn (by_line (asked_of x.exchanges x.rest e) o done) (done_too d e done)
  after_done t d x e None first is = absurd is
  after_done t d x e (Some l) first is = by (verdict_of l.0) refl is
    where
      q : Pipes
      q = record (asked_of x.exchanges x.rest e) { coming = Some l.1 }

      by : (r : Option Reply) → verdict_of l.0 ≡ r → IsTalk (by_reply q r done) → Drawn (by_reply q r done) (done_too d e done)
      by None says is = absurd is
      by (Some Done) says is =
          more t d (done_too d e done) x e l.0 l.1 first (old_or_last d e l.0 says) refl
      by (Some Later) says is = absurd is
      by (Some Dead) says is = absurd is
      by (Some Stop) says is = absurd is

  after_left : (t : Talk) (d : Doings) (x : Drawn t d) (e : Entry Pairs) (o : Option (List ℕ × List ℕ))
      → first_line x.rest ≡ o → IsTalk (by_line (asked_of x.exchanges x.rest e) o left_pending)
      → Drawn (by_line (asked_of x.exchanges x.rest e) o left_pending) d
  after_left t d x e None first is = absurd is
  after_left t d x e (Some l) first is = by (verdict_of l.0) refl is
    where
      q : Pipes
      q = record (asked_of x.exchanges x.rest e) { coming = Some l.1 }

      by : (r : Option Reply) → verdict_of l.0 ≡ r → IsTalk (by_reply q r left_pending) → Drawn (by_reply q r left_pending) d
      by None says is = absurd is
      by (Some Done) says is = absurd is
      by (Some Later) says is = more t d d x e l.0 l.1 first (λ g among. inl among) refl
      by (Some Dead) says is = more t d d x e l.0 l.1 first (λ g among. inl among) refl
      by (Some Stop) says is = absurd is

  -- ---- one entry

  one : (t : Talk) (d : Doings) (e : Entry Pairs) (v : Verdict) → IsTalk (talked t e v) → Drawn t d
      → Drawn (talked t e v) (done_too d e v)
  one wrong d e v is x = absurd is
  one over d e done is x = absurd is
  one over d e left_pending is x = absurd is
  one over d e stop is x = x
  one (goes_on p) d e stop is x = record {
    exchanges = x.exchanges;
    rest = x.rest;
    came = x.came;
    whole = x.whole;
    stands = tt;
    loose = x.loose;
    settled = x.settled;
  }
  one (goes_on p) d e done is x =
      subst (λ (q : Pipes). Drawn (talked (goes_on q) e done) (done_too d e done)) (sym x.stands)
      (after_done (goes_on p) d x e (first_line x.rest) refl
      (subst (λ (q : Pipes). IsTalk (talked (goes_on q) e done)) x.stands is))
  one (goes_on p) d e left_pending is x =
      subst (λ (q : Pipes). Drawn (talked (goes_on q) e left_pending) d) (sym x.stands)
      (after_left (goes_on p) d x e (first_line x.rest) refl
      (subst (λ (q : Pipes). IsTalk (talked (goes_on q) e left_pending)) x.stands is))

  each : (t : Talk) (d : Doings) (us : List (Entry Pairs × Verdict)) → IsTalk (with_all talked t us) → Drawn t d
      → Drawn (with_all talked t us) (with_all done_too d us)
  each t d [] is x = x
  each t d (u ∷ us) is x =
      each (talked t u.0 u.1) (done_too d u.0 u.1) us is
      (one t d u.0 u.1 (talks_before (talked t u.0 u.1) us is) x)

  heard : (w : Standing Talk) (d : Doings) (g : GroupState) (o : Option Heard) (vs : List Verdict)
      → IsTalk (having_heard talked w g o vs).history → Drawn w.history d
      → Drawn (having_heard talked w g o vs).history (having_heard done_too (with_doings w d) g o vs).history
  heard w d g None vs is x = x
  heard w d g (Some (told answer)) vs is x = each w.history d (told_in (entries_in answer) vs) is x
  heard w d g (Some no_group) vs is x = x
  heard w d g (Some group_made) vs is x = x

  -- it commits as it asks, or not
  asks : (b : Bool) (t : Talk) (d : Doings) → Drawn t d
      → Drawn (if b then committed t else t) (if b then committed_too d else d)
  asks true t d x = record {
    exchanges = x.exchanges;
    rest = x.rest;
    came = x.came;
    whole = x.whole;
    stands = x.stands;
    loose = λ e none. absurd none;
    settled = λ e among. ⊎_elim (x.settled e) (x.loose e) (among_both d.committed d.loose e among);
  }
  asks false t d x = x

  -- what is committed as it asks was done
  asked_done : (b : Bool) (t : Talk) (d : Doings) (x : Drawn t d) (e : Entry Pairs)
      → Among e (if b then committed_too d else d).committed → WasDone x.exchanges e.0
  asked_done true t d x e among = ⊎_elim (x.settled e) (x.loose e) (among_both d.committed d.loose e among)
  asked_done false t d x e among = x.settled e among

-- where the doings stand, the talk does
same_place : (w : Standing Talk) (d : Doings) (g : GroupState) (o : Option Heard) (vs : List Verdict)
    → having_heard done_too (with_doings w d) g o vs
    ≡ with_doings (having_heard talked w g o vs) (having_heard done_too (with_doings w d) g o vs).history
same_place w d g None vs = refl
same_place w d g (Some (told answer)) vs = refl
same_place w d g (Some no_group) vs = refl
same_place w d g (Some group_made) vs = refl

module _ (settings : Settings) (stream sent coming : List ℕ) where
  -- the worker lives so, and its doings are drawn
  record IsLived (w : Standing Talk) (deleted : List Id) : Type 0 where
    doings : Doings
    lives : Lives settings (with_doings w doings) deleted
    drawn : Drawn stream sent coming w.history doings

  after_round : (w : Standing Talk) (deleted : List Id) (t : Turn) → IsLived w deleted
      → IsTalk (after_turn talked committed settings w t).history
      → IsLived (after_turn talked committed settings w t) (deleted ++ deleted_told settings w t.answer)
  after_round w deleted t i is =
      let a = asking committed settings w in
      let d = history_at_request committed_too w.machine i.doings in
      let g = group_after settings a.group a.asked t.answer in
      let o = hears settings a.asked t.answer in
      record {
        doings = (having_heard done_too (with_doings a d) g o t.verdicts).history;
        lives = subst (λ (v : Standing Doings). Lives settings v (deleted ++ deleted_told settings w t.answer))
            (same_place a d g o t.verdicts)
            (life.goes_on (with_doings w i.doings) deleted t i.lives);
        drawn = heard stream sent coming a d g o t.verdicts is (asks stream sent coming (commits w.machine) w.history i.doings i.drawn);
      }

  lived : (w : Standing Talk) (deleted : List Id) → Reaches settings stream sent coming w deleted → IsTalk w.history
      → IsLived w deleted
  lived w deleted begins is = record {
    doings = record { loose = []; committed = [] };
    lives = life.begins;
    drawn = record {
      exchanges = [];
      rest = coming;
      came = refl;
      whole = tt;
      stands = ap (λ (bytes : List ℕ). record { stream = stream; sent = Some bytes; coming = Some coming })
          (sym (append-nil sent));
      loose = λ e none. absurd none;
      settled = λ e none. absurd none;
    };
  }
  lived w deleted (turns v x before old new q p r t) is =
      let y = after_turn talked committed settings v t.turn in
      let talk : IsTalk y.history = subst (λ (s : Standing Talk). IsTalk s.history) t.stands is in
      let a = asking committed settings v in
      let was = talk_asking (commits v.machine) v.history
      (talk_heard a (group_after settings a.group a.asked t.turn.answer) (hears settings a.asked t.turn.answer) t.turn.verdicts talk) in
      subst (λ (s : Standing Talk). IsLived s (before ++ deleted_told settings v t.turn.answer)) (sym t.stands)
      (after_round v before t.turn (lived v before r was) talk)

  replied : (w : Standing Talk) (deleted : List Id) → Reaches settings stream sent coming w deleted → IsTalk w.history
      → AreReplied settings stream sent coming w deleted
  replied w deleted r is =
      let i = lived w deleted r is in
      record {
        exchanges = i.drawn.exchanges;
        rest = i.drawn.rest;
        came = i.drawn.came;
        whole = i.drawn.whole;
        stands = i.drawn.stands;
        done = λ id among. ⊎_elim
            (λ c. inl (asked_done stream sent coming (commits w.machine) w.history i.doings i.drawn (id, c.0) c.1))
            inr (only_committed settings (with_doings w i.doings) deleted i.lives id among);
      }

pub of_handlers : (is_over : Bool) (stream : List ℕ) (sent coming : Option (List ℕ))
    → IsTalk (talk_of is_over stream sent coming)
of_handlers true stream sent coming = tt
of_handlers false stream sent coming = tt

pub law_holds : AcknowledgedWasReplied
law_holds = record { replied = replied; of_handlers = of_handlers }
