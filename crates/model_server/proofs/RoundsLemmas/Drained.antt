-- After enough rounds all is drained.
use Rattle.std.proofs.Common.{◌≡◌, refl, sym, subst, ◌∙◌, ℕ, zero, suc, ◌+◌, ◌-◌, ◌≤◌, arith, nat_lt}
use Rattle.std.proofs.Common.{Bool, true, false, List, [], ◌∷◌, ◌++◌, length, codes}
use Rattle.model_server.specs.Group.Worker.{Id, Entry, Machine, Phase, claiming, reading}
use Rattle.model_server.specs.Group.Worker as worker
use Rattle.model_server.specs.Group.Group.{Name, Pending, listed, ids_of, own, pending_ids}
use Rattle.model_server.specs.Group.World.{World, Event, run, empty_world}
use Rattle.model_server.proofs.GroupLemmas.Among.{listed_among, among_of_map, among_left}
use Rattle.model_server.specs.Rounds.Page.{from_id, behind_id, how_many}
use Rattle.model_server.specs.Rounds.Rounds.{events_of_round, round, rounds, events_of_rounds}
use Rattle.model_server.specs.Rounds.Bound.{pages, own_for, claims_for, reads_for, reads_before, from_phase, enough_rounds}
use Rattle.model_server.specs.Rounds.Law.{IsDrained, AllIsDrained, RoundsAreASchedule}
use Rattle.model_server.proofs.RoundsLemmas.Lists as lists
use Rattle.model_server.proofs.RoundsLemmas.Lists.{clash, not_true}
use Rattle.model_server.proofs.RoundsLemmas.Measure as measure
use Rattle.model_server.proofs.RoundsLemmas.Measure.{pages_less}
use Rattle.model_server.proofs.RoundsLemmas.View.{View, view, step, run_more, round_seen}
use Rattle.model_server.proofs.RoundsLemmas.Good.{IsGood, always_good}
use Rattle.model_server.proofs.RoundsLemmas.Parts as parts
use Rattle.model_server.proofs.RoundsLemmas.Left.{left, measure_of, measure_at, NoEnd, after_commit_acked, acked}
use Rattle.model_server.proofs.RoundsLemmas.Still.{still_pending, still_mine, held_not, mine_not}
use Rattle.model_server.proofs.RoundsLemmas.OwnStep.{own_step}
use Rattle.model_server.proofs.RoundsLemmas.ClaimStep.{claim_step}
use Rattle.model_server.proofs.RoundsLemmas.ReadStep.{read_step}

module _ {F : Type 0} (n : ℕ) (name : Name) (some : 1 ≤ n) where
  pub no_end_seen : (ps : List Pending) (seen fresh : List (Entry F)) → IsGood ps seen fresh → NoEnd {F = F} n name seen
  no_end_seen ps seen fresh good =
      not_true (listed (ids_of seen) (codes "0-0")) (λ h.
      let s = among_of_map (λ (e : Entry F). e.0) (codes "0-0") seen (listed_among (ids_of seen) (codes "0-0") h) in
      good.no_end s.x (among_left s.x seen fresh s.within) s.is)

  lowers : (every : ℕ) (phase : Phase) (to_commit to_acknowledge : List Id) (ps : List Pending)
      (seen fresh : List (Entry F)) (deleted : List Id) (handled : List (Entry F)) (acknowledged_ids : List Id)
      → IsGood ps seen fresh →
      let v : View F = record {
        machine = record {
          every = every;
          phase = phase;
          to_commit = to_commit;
          to_acknowledge = to_acknowledge;
        };
        pending = ps;
        seen = seen;
        fresh = fresh;
        deleted = deleted;
        handled = handled;
        acknowledged_ids = acknowledged_ids;
      } in
      measure_at n name (step n name v) ≤ measure_at n name v - 1
  lowers every (worker.own id) [] [] ps seen fresh deleted handled acknowledged_ids good =
      own_step n name some every ps seen fresh deleted (no_end_seen ps seen fresh good) id
  lowers every (claiming id) [] [] ps seen fresh deleted handled acknowledged_ids good =
      claim_step n name some every ps seen fresh deleted (no_end_seen ps seen fresh good)
      (parts.distinct_left seen fresh good.distinct) id
  lowers every (reading rounds) [] [] ps seen fresh deleted handled acknowledged_ids good =
      read_step n name some every ps seen fresh deleted good rounds
  lowers every phase (i ∷ ids) [] ps seen fresh deleted handled acknowledged_ids good = after_commit_acked n name every phase i ids ps seen fresh
  lowers every phase to_commit (i ∷ ids) ps seen fresh deleted handled acknowledged_ids good =
      acked n name every phase i ids to_commit ps seen fresh

  abbrev measure_in : World F → ℕ
  measure_in w = measure_at n name (view name w)

  -- each round of a world that a schedule leads to lowers it
  round_lowers : (es : List (Event F)) →
      let w : World F = run es empty_world in measure_in (round n name w) ≤ measure_in w - 1
  round_lowers es =
      let w : World F = run es empty_world in
      let m : Machine = w.workers name in
      subst (λ (v : View F). measure_at n name v ≤ measure_in w - 1) (sym (round_seen n name w))
      (lowers m.every m.phase m.to_commit m.to_acknowledge w.pending w.seen w.fresh w.deleted w.handled w.acknowledged_ids (always_good es))

  pub round_reached : (es : List (Event F)) →
      let w : World F = run es empty_world in
      round n name w ≡ run (es ++ events_of_round n name w) empty_world
  round_reached es = sym (run_more es (events_of_round n name (run es empty_world)) empty_world)

  -- so after this number of rounds none is left
  none_left : (k : ℕ) (es : List (Event F)) →
      let w : World F = run es empty_world in
      measure_in w ≤ k
      → (more : List (Event F)) × (rounds k n name w ≡ run more empty_world) × (measure_in (rounds k n name w) ≡ 0)
  none_left zero es l = (es, refl, omega (arith, l))
  none_left (suc k) es l =
      let w : World F = run es empty_world in
      let further : List (Event F) = es ++ events_of_round n name w in
      let e : round n name w ≡ run further empty_world = round_reached es in
      let less : measure_in (run further empty_world) ≤ k =
      subst (λ (v : World F). measure_in v ≤ k) e (omega (arith, round_lowers es, l)) in
      subst (λ (v : World F). (more : List (Event F)) × (rounds k n name v ≡ run more empty_world)
      × (measure_in (rounds k n name v) ≡ 0)) (sym e) (none_left k further less)

-- if no round is left, nothing is
unless_none : (k f x : ℕ) → 1 ≤ x → measure.unless_drained k f x ≡ 0 → (k ≡ 0) × (f ≡ 0)
unless_none zero zero x l h = (refl, refl)
unless_none zero (suc f) x l h = absurd (omega (arith, l, h))
unless_none (suc k) f x l h = absurd (omega (arith, l, h))

one_claim : (k : ℕ) → 1 ≤ claims_for k
one_claim zero = omega arith
one_claim (suc k) = omega arith

reading_none : (every r k f : ℕ) → measure.left_reading every r k f ≡ 0 → (k ≡ 0) × (f ≡ 0)
reading_none every r zero zero h = (refl, refl)
reading_none every r zero (suc f) h = absurd (omega (arith, h))
reading_none every r (suc k) f h = absurd (omega (arith, h))

claiming_none : (every : ℕ) (only : Bool) (these k f : ℕ) → measure.left_claiming every only these k f ≡ 0
    → (k ≡ 0) × (f ≡ 0)
claiming_none every false these k f h = unless_none k f (claims_for k + reads_for every f) (omega (arith, one_claim k)) h
claiming_none every true these k f h =
    unless_none k f (claims_for these + reads_before every + claims_for k + reads_for every f) (omega arith) h

empty_list : {A : Type 0} (xs : List A) → length xs ≡ 0 → xs ≡ []
empty_list [] h = refl
empty_list (x ∷ xs) h = absurd (omega (arith, h))

module _ {F : Type 0} (n : ℕ) (name : Name) (some : 1 ≤ n) where
  none_by_phase : (every : ℕ) (phase : Phase) (all mine : Id → Bool) (seen fresh : List (Entry F))
      → left n name every phase all mine seen fresh ≡ 0
      → (pages n (how_many all seen) ≡ 0) × (pages n (length fresh) ≡ 0)
  none_by_phase every (worker.own id) all mine seen fresh h =
      unless_none (pages n (how_many all seen)) (pages n (length fresh))
      (own_for (pages n (how_many mine (behind_id id seen))) + claims_for (pages n (how_many all seen))
      + reads_for every (pages n (length fresh))) (omega arith) h
  none_by_phase every (claiming id) all mine seen fresh h =
      claiming_none every (nat_lt (how_many all (from_id id seen)) (how_many all seen))
      (pages n (how_many all (from_id id seen))) (pages n (how_many all seen)) (pages n (length fresh)) h
  none_by_phase every (reading r) all mine seen fresh h =
      reading_none every r (pages n (how_many all seen)) (pages n (length fresh)) h

  none_pending : (ps : List Pending) (seen fresh : List (Entry F)) → IsGood ps seen fresh
      → how_many (listed (pending_ids ps)) seen ≡ 0 → ps ≡ []
  none_pending [] seen fresh good h = refl
  none_pending (p ∷ ps) seen fresh good h =
      let here : listed (pending_ids (p ∷ ps)) p.id ≡ true = lists.listed_here p.id (pending_ids ps) in
      absurd (omega (arith, h, lists.count_some (listed (pending_ids (p ∷ ps))) seen p.id (good.handed_out p.id here) here))

  drained_at : (every : ℕ) (phase : Phase) (to_acknowledge to_commit : List Id) (ps : List Pending)
      (seen fresh : List (Entry F)) → IsGood ps seen fresh
      → measure_of n name every phase to_acknowledge to_commit ps seen fresh ≡ 0 → (ps ≡ []) × (fresh ≡ [])
  drained_at every phase [] [] ps seen fresh good h =
      let none = none_by_phase every phase (listed (pending_ids ps)) (listed (own name ps)) seen fresh (omega (arith, h)) in (
        none_pending ps seen fresh good (measure.pages_none n (how_many (listed (pending_ids ps)) seen) some none.0),
        empty_list fresh (measure.pages_none n (length fresh) some none.1),
      )
  drained_at every phase [] (i ∷ ids) ps seen fresh good h = absurd (omega (arith, h))
  drained_at every phase (i ∷ ids) [] ps seen fresh good h = absurd (omega (arith, h))
  drained_at every phase (i ∷ ids) (j ∷ more) ps seen fresh good h = absurd (omega (arith, h))

  -- what is left is no more than the bound
  left_within : (every : ℕ) (phase : Phase) (p q all mine : Id → Bool) (seen fresh : List (Entry F))
      → ((x : Id) → p x ≡ true → all x ≡ true) → ((x : Id) → q x ≡ true → mine x ≡ true)
      → left n name every phase p q seen fresh
      ≤ from_phase every phase (pages n (how_many mine seen)) (pages n (how_many all seen)) (pages n (length fresh))
  left_within every (worker.own id) p q all mine seen fresh h k =
      let here : List (Entry F) = behind_id id seen in
      let o : ℕ = pages n (how_many q here) in
      let a : ℕ = pages n (how_many p seen) in
      let f : ℕ = pages n (length fresh) in
      let fewer : o ≤ pages n (how_many mine seen) =
      pages_less n (how_many q here) (how_many mine seen) some
      (omega (arith, lists.count_less q mine here k, lists.end_count mine here seen (lists.behind_end id seen))) in
      let less : a ≤ pages n (how_many all seen) =
      pages_less n (how_many p seen) (how_many all seen) some (lists.count_less p all seen h) in
      omega (
        arith,
        measure.at_most a f (own_for o + claims_for a + reads_for every f),
        fewer,
        measure.claims_less a (pages n (how_many all seen)) less,
      )
  left_within every (claiming id) p q all mine seen fresh h k =
      let here : List (Entry F) = from_id id seen in
      let t : ℕ = pages n (how_many p here) in
      let a : ℕ = pages n (how_many p seen) in
      let b : ℕ = pages n (how_many all seen) in
      let f : ℕ = pages n (length fresh) in
      let less : a ≤ b = pages_less n (how_many p seen) (how_many all seen) some (lists.count_less p all seen h) in
      let part : t ≤ a = pages_less n (how_many p here) (how_many p seen) some
      (lists.end_count p here seen (lists.from_end id seen)) in
      let by_only : (only : Bool) → measure.left_claiming every only t a f
      ≤ claims_for b + reads_before every + claims_for b + reads_for every f
      = λ only. elim only as (λ v. measure.left_claiming every v t a f
      ≤ claims_for b + reads_before every + claims_for b + reads_for every f) [
        | true ↦ omega (
          arith,
          measure.at_most a f (claims_for t + reads_before every + claims_for a + reads_for every f),
          measure.claims_less a b less,
          measure.claims_less t b (omega (arith, part, less)),
        )
        | false ↦ omega (arith, measure.at_most a f (claims_for a + reads_for every f), measure.claims_less a b less)
      ] in
      by_only (nat_lt (how_many p here) (how_many p seen))
  left_within every (reading r) p q all mine seen fresh h k =
      reads_within every r (pages n (how_many p seen)) (pages n (how_many all seen)) (pages n (length fresh))
      (pages_less n (how_many p seen) (how_many all seen) some (lists.count_less p all seen h))
    where
      reads_within : (every r a b f : ℕ) → a ≤ b
          → measure.left_reading every r a f ≤ reads_before every + claims_for b + reads_for every f
      reads_within every r zero b f l = omega (arith, measure.at_near every r f)
      reads_within every r (suc a) b f l = omega (arith, measure.claims_less (suc a) b l)

  measure_within : (w : World F) → measure_at n name (view name w) ≤ enough_rounds n name w
  measure_within w =
      let m : Machine = w.workers name in
      let held : List Id = m.to_acknowledge ++ m.to_commit in
      omega (
        arith,
        left_within m.every m.phase (still_pending held w.pending) (still_mine held name w.pending)
            (listed (pending_ids w.pending)) (listed (own name w.pending)) w.seen w.fresh
            (λ x h. (held_not held w.pending x h).1) (λ x h. (mine_not name held w.pending x h).1),
      )

pub all_is_drained : {F : Type 0} → AllIsDrained F
all_is_drained {F} events name n some so_many l =
    let w : World F = run events empty_world in
    let r = none_left n name some so_many events (omega (arith, measure_within n name some w, l)) in
    let P : World F → Type 0 = λ v. measure_at n name (view name v) ≡ 0 → IsDrained v in
    let there : P (run r.0 empty_world) =
    (λ h. let v : World F = run r.0 empty_world in
    let m : Machine = v.workers name in
    drained_at n name some m.every m.phase m.to_acknowledge m.to_commit v.pending v.seen v.fresh (always_good r.0) h) in
    subst P (sym r.1) there r.2

pub rounds_are_a_schedule : {F : Type 0} → RoundsAreASchedule F
rounds_are_a_schedule zero n name w = refl
rounds_are_a_schedule {F} (suc k) n name w =
    rounds_are_a_schedule k n name (round n name w)
    ∙ sym (run_more (events_of_round n name w) (events_of_rounds k n name (round n name w)) w)
