-- What `answered` and `request` promise are steps of the model.
use Rattle.std.proofs.Common.{◌≡◌, refl, sym, ap, subst, ◌∙◌, ℕ, Bool, true, false, List, [], ◌∷◌, ◌++◌, append_assoc}
use Rattle.std.proofs.Common.{Option, Some, None, if◌then◌else◌}
use Rattle.std.proofs.lemmas.Slice.Eq.{bytes_eq-Decides}
use Rattle.std.specs.Str.{bytes_eq}
use Rattle.model_server.specs.Group.Worker.{Verdict, done, left_pending, stop, follows, Machine, Entry, Delivered, Answer}
use Rattle.model_server.specs.Group.Worker.{Ending, entries_in, handled_one, handled_in, told_one, told_in, after}
use Rattle.model_server.specs.Group.Worker.{after_commit}
use Rattle.model_server.specs.Group.Group.{Name}
use Rattle.model_server.specs.Group.World.{World, Reply, Comes, Commit, comes, happens, with_one, item}
use Rattle.stream_in_place.specs.Sent.{Pairs}
use Rattle.worker.specs.Handling.{with_all}
use Rattle.worker.specs.Answers.{Heard, told}
use Rattle.worker.specs.Answered.{Took, GoesBy}
use Rattle.worker.specs.Gathered.{Doings, done_too, committed_too}
use Rattle.worker.specs.Machine.{ending_of, commits}
use Rattle.worker.specs.Step.{Steps, AnswersStayInStep, CutsStayInStep, RequestsStayInStep, as_it_asks}
use Rattle.worker.specs.Step.{doings_in}

pub nothing_behind : {A : Type 0} (xs : List A) → xs ++ [] ≡ xs
nothing_behind [] = refl
nothing_behind (x ∷ xs) = ap (λ r. x ∷ r) (nothing_behind xs)

-- what was done, with these behind it
abbrev pub more : Doings → List (Entry Pairs) → Doings
more d es = record d { loose = d.loose ++ es }

more_none : (d : Doings) → more d [] ≡ d
more_none d = ap (λ l. let x : Doings = record d { loose = l } in x) (nothing_behind d.loose)

more_more : (d : Doings) (xs ys : List (Entry Pairs)) → more (more d xs) ys ≡ more d (xs ++ ys)
more_more d xs ys = ap (λ l. let x : Doings = record d { loose = l } in x) (append_assoc d.loose xs ys)

with_append : (d : Doings) (xs ys : List (Entry Pairs × Verdict))
    → with_all done_too d (xs ++ ys) ≡ with_all done_too (with_all done_too d xs) ys
with_append d [] ys = refl
with_append d (x ∷ xs) ys = with_append (done_too d x.0 x.1) xs ys

one_done : (d : Doings) (id : List ℕ) (o : Option Pairs) (v : Verdict)
    → with_all done_too d (told_one id o v) ≡ more d (handled_one id o v)
one_done d id None v = sym (more_none d)
one_done d id (Some f) done = refl
one_done d id (Some f) left_pending = sym (more_none d)
one_done d id (Some f) stop = sym (more_none d)

pub all_done : (d : Doings) (es : List (Delivered Pairs)) (vs : List Verdict)
    → with_all done_too d (told_in es vs) ≡ more d (handled_in es vs)
all_done d [] vs = sym (more_none d)
all_done d (e ∷ es) [] = sym (more_none d)
all_done d (e ∷ es) (v ∷ vs) =
    let first : Doings = more d (handled_one e.0 e.1 v) in
    let rest : (b : Bool) → with_all done_too first (if b then told_in es vs else [])
    ≡ more first (if b then handled_in es vs else [])
    = λ b. elim b as (λ c. with_all done_too first (if c then told_in es vs else [])
    ≡ more first (if c then handled_in es vs else []))
    [ true ↦ all_done first es vs | false ↦ sym (more_none first) ] in
    with_append d (told_one e.0 e.1 v) (if follows e.1 v then told_in es vs else [])
    ∙ (ap (λ x. with_all done_too x (if follows e.1 v then told_in es vs else [])) (one_done d e.0 e.1 v)
    ∙ (rest (follows e.1 v) ∙ more_more d (handled_one e.0 e.1 v) (if follows e.1 v then handled_in es vs else [])))

of_the_one : {A : Type 0} (each : Name → A) (name : Name) (a : A) → with_one each name a name ≡ a
of_the_one each name a =
    let same : bytes_eq name name ≡ true = (bytes_eq-Decides name name).1 refl in
    ap (λ b. if b then a else each name) same

steps : (w : World Pairs) (k : ℕ) (r : Reply Pairs) → item w.replies k ≡ Some r
    → (n : Machine) (now : Doings) (how : Ending)
    → Took done_too r.answer (w.workers r.consumer) n (doings_in w r.consumer) now how → Steps w k r n now
steps w k r here n now how t =
    let there : happens w (Comes k t.verdicts) ≡ comes w k (Some r) t.verdicts =
    ap (λ o. comes w k o t.verdicts) here in
    let did : now ≡ more (doings_in w r.consumer) (handled_in (entries_in r.answer) t.verdicts)
    = t.history ∙ all_done (doings_in w r.consumer) (entries_in r.answer) t.verdicts in
    record {
      verdicts = t.verdicts;
      worker = ap (λ (v : World Pairs). v.workers r.consumer) there
          ∙ (of_the_one w.workers r.consumer (after (w.workers r.consumer) r.answer t.verdicts) ∙ sym t.machine);
      done = ap (λ (v : World Pairs). v.loose r.consumer) there
          ∙ (of_the_one w.loose r.consumer (w.loose r.consumer ++ handled_in (entries_in r.answer) t.verdicts)
          ∙ sym (ap (λ (d : Doings). d.loose) did));
      committed = ap (λ (v : World Pairs). v.committed) there ∙ sym (ap (λ (d : Doings). d.committed) did);
    }

pub cuts_stay : CutsStayInStep
cuts_stay w k r here settings question t said n now g =
    let one : g.answer ≡ r.answer = let e : Some (told g.answer) ≡ Some (told r.answer) = sym g.said ∙ said in cc in
    let P : Answer Pairs → Type 0 = λ x. (how : Ending)
    → Took done_too x (w.workers r.consumer) n (doings_in w r.consumer) now how → Steps w k r n now in
    let Q : (how : Ending) → Took done_too g.answer (w.workers r.consumer) n (doings_in w r.consumer) now how
    → Steps w k r n now
    = subst P (sym one) (λ how. steps w k r here n now how) in
    Q _ g.took

pub answers_stay : AnswersStayInStep
answers_stay w k r here settings question a said n now p g =
    let one : g.heard ≡ told r.answer = let e : Some g.heard ≡ Some (told r.answer) = sym g.said ∙ said in cc in
    let P : Heard → Type 0 = λ h. GoesBy done_too h (w.workers r.consumer) n (doings_in w r.consumer) now p in
    let took : Took done_too r.answer (w.workers r.consumer) n (doings_in w r.consumer) now (ending_of p) =
    subst P one g.goes in
    steps w k r here n now (ending_of p) took

pub requests_stay : RequestsStayInStep
requests_stay w c =
    let m : Machine = w.workers c in
    let worker : (b : Bool) → (if b then happens w (Commit c) else w).workers c ≡ (if b then after_commit m else m)
    = λ b. elim b as (λ v. (if v then happens w (Commit c) else w).workers c ≡ (if v then after_commit m else m))
    [ true ↦ of_the_one w.workers c (after_commit m) | false ↦ refl ] in
    let done : (b : Bool) → doings_in (if b then happens w (Commit c) else w) c
    ≡ (if b then committed_too (doings_in w c) else doings_in w c)
    = λ b. elim b as (λ v. doings_in (if v then happens w (Commit c) else w) c
    ≡ (if v then committed_too (doings_in w c) else doings_in w c)) [
      | true ↦ ap (λ l. let x : Doings = record { loose = l; committed = w.committed ++ w.loose c } in x)
          (of_the_one w.loose c [])
      | false ↦ refl
    ] in
    record {
      worker = worker (commits m);
      done = done (commits m);
      sent = ap (λ (x : Machine). (c, x.to_acknowledge) ∷ (as_it_asks w c).acks) (worker (commits m));
    }
