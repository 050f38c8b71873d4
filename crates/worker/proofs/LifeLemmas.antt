-- What a worker acknowledges was committed, or deleted.
use Rattle.std.proofs.Common.{◌≡◌, ◌⊎◌, inl, inr, sym, ap, subst, ◌∙◌, ℕ, Bool, true, false, List, []}
use Rattle.std.proofs.Common.{◌∷◌, ◌++◌, Option, Some, None, if◌then◌else◌, append_assoc}
use Rattle.redis_resp.specs.Tree.{Tree}
use Rattle.redis_wire.specs.Reply as wire
use Rattle.redis_connection.specs.Link.{Link}
use Rattle.model_server.specs.Group.Law.{Among}
use Rattle.model_server.specs.Group.Worker.{Id, Delivered, Entry, Verdict, done, left_pending, stop, follows, Machine, Answer}
use Rattle.model_server.specs.Group.Worker.{acknowledged, own_pending, taken_over, news, entries_in, acks_one, acks_in}
use Rattle.model_server.specs.Group.Worker.{handled_one, handled_in, told_in, still, after, after_commit, begins_again}
use Rattle.model_server.specs.Group.Worker.{Ending}
use Rattle.model_server.proofs.GroupLemmas.Among.{among_left, among_right, among_split}
use Rattle.stream_in_place.specs.Sent.{Pairs}
use Rattle.worker.specs.Answers.{Heard, told, no_group, group_made, hears}
use Rattle.worker.specs.Answered.{Took, Failed, WasCut}
use Rattle.worker.specs.Gathered.{Doings, done_too, committed_too}
use Rattle.worker.specs.Handling.{with_all}
use Rattle.worker.specs.Life.{deleted_one, deleted_in, deleted_by, deleted_told, deleted_at, deleted_turns}
use Rattle.worker.specs.Life.{Lives, begins, resumes, goes_on, fails}
use Rattle.worker.specs.Life.{OnlyCommittedIsAcknowledged, SessionsAreLived}
use Rattle.worker.specs.Machine.{commits, at_request, history_at_request}
use Rattle.worker.specs.Requested.{Unasked}
use Rattle.worker.specs.Session.{Standing, Turn, asking, having_heard, after_turn, after_turns}
use Rattle.worker.specs.Session.{Rounds, Breaks, Fails, after_failure}
use Rattle.worker.specs.declared.error.RequestError.{RequestError}
use Rattle.worker.specs.declared.error.RequestError.TheVariants.{NotCommitted, TooLong, Memory}
use Rattle.worker.specs.declared.error.RunError.{RunError}
use Rattle.worker.specs.declared.error.RunError.TheVariants as causes
use Rattle.worker.specs.declared.error.WorkerError.{WorkerError}
use Rattle.worker.specs.declared.error.WorkerError.TheVariants as faults
use Rattle.worker.specs.declared.state.Asked.{Asked}
use Rattle.worker.specs.declared.state.GroupState.{GroupState}
use Rattle.worker.specs.declared.state.Settings.{Settings}
use Rattle.worker.specs.declared.worker.Progress.{Progress}
use Rattle.worker.specs.declared.worker.Progress.TheVariants.{GoesOn}
use Rattle.worker.proofs.StepLemmas.{nothing_behind, more, all_done}

-- the id is one of these entries', or of those that were deleted
abbrev IsOf : List (Entry Pairs) → List Id → Id → Type 0
IsOf es deleted id = ((fields : Pairs) × Among (id, fields) es) ⊎ Among id deleted

-- what is to be acknowledged is committed, and what is to be committed is done
record IsSound (m : Machine) (d : Doings) (deleted : List Id) : Type 0 where
  held : (id : Id) → Among id m.to_acknowledge → IsOf d.committed deleted id
  loose : (id : Id) → Among id m.to_commit → IsOf d.loose deleted id

-- ---- more entries, and more that were deleted

of_left : (es fs : List (Entry Pairs)) (deleted gone : List Id) (id : Id) → IsOf es deleted id
    → IsOf (es ++ fs) (deleted ++ gone) id
of_left es fs deleted gone id (inl p) = inl (p.0, among_left (id, p.0) es fs p.1)
of_left es fs deleted gone id (inr q) = inr (among_left id deleted gone q)

of_right : (es fs : List (Entry Pairs)) (deleted gone : List Id) (id : Id) → IsOf fs gone id
    → IsOf (es ++ fs) (deleted ++ gone) id
of_right es fs deleted gone id (inl p) = inl (p.0, among_right (id, p.0) es fs p.1)
of_right es fs deleted gone id (inr q) = inr (among_right id deleted gone q)

of_later : (es : List (Entry Pairs)) (deleted gone : List Id) (id : Id) → IsOf es deleted id
    → IsOf es (deleted ++ gone) id
of_later es deleted gone id (inl p) = inl p
of_later es deleted gone id (inr q) = inr (among_left id deleted gone q)

-- ---- what is to be acknowledged of entries was done, or was deleted

one_of : (e : Id) (o : Option Pairs) (v : Verdict) (id : Id) → Among id (acks_one e o v)
    → IsOf (handled_one e o v) (deleted_one e o) id
one_of e None v id h = inr h
one_of e (Some f) done id (inl same) = inl (f, inl (ap (λ i. (i, f)) same))
one_of e (Some f) done id (inr h) = absurd h
one_of e (Some f) left_pending id h = absurd h
one_of e (Some f) stop id h = absurd h

all_of : (es : List (Delivered Pairs)) (vs : List Verdict) (id : Id) → Among id (acks_in es vs)
    → IsOf (handled_in es vs) (deleted_in es) id
all_of [] vs id h = absurd h
all_of (e ∷ es) [] id h = absurd h
all_of (e ∷ es) (v ∷ vs) id h =
    let rest : (b : Bool) → Among id (if b then acks_in es vs else [])
    → IsOf (if b then handled_in es vs else []) (deleted_in es) id
    = λ b. elim b as (λ c. Among id (if c then acks_in es vs else [])
    → IsOf (if c then handled_in es vs else []) (deleted_in es) id)
    [ true ↦ all_of es vs id | false ↦ λ n. absurd n ] in
    let later : List (Entry Pairs) = if follows e.1 v then handled_in es vs else [] in
    elim (among_split id (acks_one e.0 e.1 v) (if follows e.1 v then acks_in es vs else []) h) [
      | inl a ↦ of_left (handled_one e.0 e.1 v) later (deleted_one e.0 e.1) (deleted_in es) id (one_of e.0 e.1 v id a)
      | inr a ↦ of_right (handled_one e.0 e.1 v) later (deleted_one e.0 e.1) (deleted_in es) id
          (rest (follows e.1 v) a)
    ]

-- ---- each thing that happens keeps it

sound_later : (m : Machine) (d : Doings) (deleted gone : List Id) → IsSound m d deleted
    → IsSound m d (deleted ++ gone)
sound_later m d deleted gone s = record {
  held = λ id h. of_later d.committed deleted gone id (s.held id h);
  loose = λ id h. of_later d.loose deleted gone id (s.loose id h);
}

sound_commit : (m : Machine) (d : Doings) (deleted : List Id) → IsSound m d deleted
    → IsSound (after_commit m) (committed_too d) deleted
sound_commit m d deleted s = record {
  held = λ id h. elim (among_split id m.to_acknowledge m.to_commit h) [
    | inl a ↦ elim (s.held id a) [
      | inl p ↦ inl (p.0, among_left (id, p.0) d.committed d.loose p.1)
      | inr q ↦ inr q
    ]
    | inr a ↦ elim (s.loose id a) [
      | inl p ↦ inl (p.0, among_right (id, p.0) d.committed d.loose p.1)
      | inr q ↦ inr q
    ]
  ];
  loose = λ id h. absurd h;
}

sound_asking : (m : Machine) (d : Doings) (deleted : List Id) → IsSound m d deleted
    → IsSound (at_request m) (history_at_request committed_too m d) deleted
sound_asking m d deleted s =
    let case : (b : Bool) → IsSound (if b then after_commit m else m) (if b then committed_too d else d) deleted
    = λ b. elim b as (λ c. IsSound (if c then after_commit m else m) (if c then committed_too d else d) deleted)
    [ true ↦ sound_commit m d deleted s | false ↦ s ] in
    case (commits m)

still_among : (ids : List Id) (a : Answer Pairs) (id : Id) → Among id (still ids a) → Among id ids
still_among ids acknowledged id h = absurd h
still_among ids (own_pending es) id h = h
still_among ids (taken_over next es) id h = h
still_among ids (news es) id h = h

sound_told : (m : Machine) (d : Doings) (deleted : List Id) (a : Answer Pairs) (vs : List Verdict)
    → IsSound m d deleted
    → IsSound (after m a vs) (with_all done_too d (told_in (entries_in a) vs)) (deleted ++ deleted_in (entries_in a))
sound_told m d deleted a vs s =
    let gone : List Id = deleted_in (entries_in a) in
    let handled : List (Entry Pairs) = handled_in (entries_in a) vs in
    let is : IsSound (after m a vs) (more d handled) (deleted ++ gone) = record {
      held = λ id h. of_later d.committed deleted gone id (s.held id (still_among m.to_acknowledge a id h));
      loose = λ id h. elim (among_split id m.to_commit (acks_in (entries_in a) vs) h) [
        | inl b ↦ of_left d.loose handled deleted gone id (s.loose id b)
        | inr b ↦ of_right d.loose handled deleted gone id (all_of (entries_in a) vs id b)
      ];
    } in
    subst (λ (x : Doings). IsSound (after m a vs) x (deleted ++ gone)) (sym (all_done d (entries_in a) vs)) is

sound_took : (m n : Machine) (d now : Doings) (deleted : List Id) (a : Answer Pairs) (how : Ending)
    → IsSound m d deleted → Took done_too a m n d now how → IsSound n now (deleted ++ deleted_in (entries_in a))
sound_took m n d now deleted a how s t =
    subst (λ (x : Machine). IsSound x now (deleted ++ deleted_in (entries_in a))) (sym t.machine)
    (subst (λ (x : Doings). IsSound (after m a t.verdicts) x (deleted ++ deleted_in (entries_in a))) (sym t.history)
    (sound_told m d deleted a t.verdicts s))

sound_again : (m : Machine) (d : Doings) (deleted : List Id) → IsSound m d deleted
    → IsSound (begins_again m) d deleted
sound_again m d deleted s = record { held = s.held; loose = s.loose }

-- where a worker stands, it is sound
abbrev Stands : Standing Doings → List Id → Type 0
Stands w deleted = IsSound w.machine w.history deleted

stands_heard : (w : Standing Doings) (k : GroupState) (deleted : List Id) (o : Option Heard) (vs : List Verdict)
    → Stands w deleted → Stands (having_heard done_too w k o vs) (deleted ++ deleted_by o)
stands_heard w k deleted None vs s = sound_later w.machine w.history deleted [] s
stands_heard w k deleted (Some (told a)) vs s = sound_told w.machine w.history deleted a vs s
stands_heard w k deleted (Some no_group) vs s = sound_later w.machine w.history deleted [] s
stands_heard w k deleted (Some group_made) vs s = sound_later w.machine w.history deleted [] s

-- where the machine and the history are these
sound_as : (m n : Machine) (d now : Doings) (deleted : List Id) → n ≡ m → now ≡ d → IsSound m d deleted
    → IsSound n now deleted
sound_as m n d now deleted em ed s =
    subst (λ (x : Machine). IsSound x now deleted) (sym em) (subst (λ (x : Doings). IsSound m x deleted) (sym ed) s)

module _ (settings : Settings) where
  asking_stands : (w : Standing Doings) (deleted : List Id) → Stands w deleted
      → Stands (asking committed_too settings w) deleted
  asking_stands w deleted s = sound_asking w.machine w.history deleted s

  -- where it is as it asked
  as_asking : (w x : Standing Doings) (deleted : List Id) → Stands w deleted → x ≡ asking committed_too settings w
      → Stands x (deleted ++ [])
  as_asking w x deleted s is =
      subst (λ (v : Standing Doings). Stands v (deleted ++ [])) (sym is)
      (sound_later _ _ deleted [] (asking_stands w deleted s))

  unasked_stands : (w x : Standing Doings) (deleted : List Id) (e : RequestError) → Stands w deleted
      → Unasked committed_too w.machine x.machine w.history x.history e → Stands x (deleted ++ [])
  unasked_stands w x deleted NotCommitted s u =
      sound_as w.machine x.machine w.history x.history (deleted ++ []) u.1 u.2 (sound_later _ _ deleted [] s)
  unasked_stands w x deleted TooLong s u =
      sound_as (at_request w.machine) x.machine (history_at_request committed_too w.machine w.history) x.history
      (deleted ++ []) u.0 u.1 (sound_later _ _ deleted [] (asking_stands w deleted s))
  unasked_stands w x deleted Memory s u =
      sound_as (at_request w.machine) x.machine (history_at_request committed_too w.machine w.history) x.history
      (deleted ++ []) u.0 u.1 (sound_later _ _ deleted [] (asking_stands w deleted s))

  -- an answer that did not bring the machine on
  module _ (question : Asked) (a : wire.Answer) (m n : Machine) (d now : Doings) (deleted : List Id)
      (s : IsSound m d deleted) where
    abbrev Result : Type 0
    Result = IsSound n now (deleted ++ deleted_by (hears settings question a))

    stays : n ≡ m → now ≡ d → Result
    stays em ed = sound_as m n d now _ em ed (sound_later m d deleted _ s)

    starts_over : n ≡ begins_again m → now ≡ d → Result
    starts_over em ed = sound_as (begins_again m) n d now _ em ed
        (sound_later (begins_again m) d deleted _ (sound_again m d deleted s))

    was_cut : (t : Tree) → a ≡ wire.value t → WasCut done_too settings question t m n d now → Result
    was_cut t is c =
        subst (λ (o : Option Heard). IsSound n now (deleted ++ deleted_by o))
        (sym (ap (hears settings question) is ∙ c.said))
        (sound_took m n d now deleted c.answer _ s c.took)

    failed_sound : (e : WorkerError) → Failed done_too settings question a m n d now e → Result
    failed_sound faults.NotAsked f = stays f.1 f.2
    failed_sound (faults.Server e) f = stays f.4 f.5
    failed_sound (faults.GroupIsGone e) f = stays f.3 f.4
    failed_sound faults.NotAnAnswer f = stays f.2 f.3
    failed_sound (faults.Parsing e) f = starts_over f.2 f.3
    failed_sound faults.OtherStream f = starts_over f.2 f.3
    failed_sound (faults.NilFields id) f = starts_over f.2 f.3
    failed_sound faults.Memory f = elim f.2 [
      | inl p ↦ starts_over p.0 p.1
      | inr c ↦ was_cut f.0 f.1 c
    ]

  -- after an error
  stands_after : (e : RunError) (y x : Standing Doings) (deleted : List Id) → Stands y deleted → x ≡ after_failure e y
      → Stands x deleted
  stands_after e y x deleted s is =
      subst (λ (v : Standing Doings). Stands v deleted) (sym is) (by e)
    where
      by : (e : RunError) → Stands (after_failure e y) deleted
      by (causes.Request e) = s
      by (causes.Send e) = sound_again y.machine y.history deleted s
      by (causes.Receive named e) = sound_again y.machine y.history deleted s
      by (causes.Answer e) = sound_again y.machine y.history deleted s

  broken_stands : (old new : Link) (w y : Standing Doings) (deleted : List Id) (e : RunError) → Stands w deleted
      → (f : Breaks done_too committed_too settings old new w y e) (x : Standing Doings) (is : x ≡ after_failure e y)
      → Stands y (deleted ++ deleted_at settings old new w x e (y, f, is))
  broken_stands old new w y deleted (causes.Request e) s f x is = unasked_stands w y deleted e s f.1
  broken_stands old new w y deleted (causes.Send e) s f x is = as_asking w y deleted s f.0
  broken_stands old new w y deleted (causes.Receive named e) s f x is = as_asking w y deleted s f.0
  broken_stands old new w y deleted (causes.Answer e) s f x is =
      failed_sound (asking committed_too settings w).asked f.0 (at_request w.machine) y.machine
      (asking committed_too settings w).history y.history deleted (asking_stands w deleted s) e.error f.2

  failed_stands : (old new : Link) (w x : Standing Doings) (deleted : List Id) (e : RunError) → Stands w deleted
      → (f : Fails done_too committed_too settings old new w x e)
      → Stands x (deleted ++ deleted_at settings old new w x e f)
  failed_stands old new w x deleted e s f =
      stands_after e f.0 x _ (broken_stands old new w f.0 deleted e s f.1 x f.2) f.2

  lives_stands : (w : Standing Doings) (deleted : List Id) → Lives settings w deleted → Stands w deleted
  lives_stands w deleted begins = record { held = λ id h. absurd h; loose = λ id h. absurd h }
  lives_stands w deleted (resumes ids before each) = record {
    held = λ id h. inl (each id h);
    loose = λ id h. absurd h;
  }
  lives_stands w deleted (goes_on v before t lived) =
      stands_heard (asking committed_too settings v) _ before
      (hears settings (asking committed_too settings v).asked t.answer) t.verdicts
      (asking_stands v before (lives_stands v before lived))
  lives_stands w deleted (fails v x before old new e f lived) =
      failed_stands old new v x before e (lives_stands v before lived) f

  turns_lived : (w : Standing Doings) (turns : List Turn) (deleted : List Id) → Lives settings w deleted
      → Lives settings (after_turns done_too committed_too settings w turns) (deleted ++ deleted_turns settings w turns)
  turns_lived w [] deleted l =
      subst (λ (ids : List Id). Lives settings w ids) (sym (nothing_behind deleted)) l
  turns_lived w (t ∷ turns) deleted l =
      let x : Standing Doings = after_turn done_too committed_too settings w t in
      let first : List Id = deleted_told settings w t.answer in
      subst (λ (ids : List Id). Lives settings (after_turns done_too committed_too settings x turns) ids)
      (append_assoc deleted first (deleted_turns settings x turns))
      (turns_lived x turns (deleted ++ first) (goes_on w deleted t l))

pub only_committed : OnlyCommittedIsAcknowledged
only_committed settings w deleted l id h =
    let s = asking_stands settings w deleted (lives_stands settings w deleted l) in s.held id h

rounds_lived : (settings : Settings) (old new : Link) (w x : Standing Doings) (n : ℕ) (p : Progress)
    (deleted : List Id) → Lives settings w deleted → (r : Rounds done_too committed_too settings old new w x n p)
    → Lives settings x (deleted ++ deleted_turns settings w r.turns)
rounds_lived settings old new w x n p deleted l r =
    subst (λ (v : Standing Doings). Lives settings v (deleted ++ deleted_turns settings w r.turns)) (sym r.stands)
    (turns_lived settings w r.turns deleted l)

pub sessions_lived : SessionsAreLived
sessions_lived settings old new w x rounds deleted l = (
  λ p r. rounds_lived settings old new w x r.0 p deleted l r.2,
  λ e b. fails b.before x _ b.link new e b.fails
      (rounds_lived settings old b.link w b.before b.n GoesOn deleted l b.made),
)
