-- A round that reads new entries leaves one round less.
use Rattle.std.proofs.Common.{◌≡◌, inl, inr, refl, ap, subst, ◌∙◌, ℕ, zero, suc, ◌+◌, ◌-◌, ◌≤◌, arith, nat_lt}
use Rattle.std.proofs.Common.{Bool, true, false, List, [], ◌∷◌, ◌++◌, map, length, codes, if◌then◌else◌}
use Rattle.model_server.specs.Group.Worker.{Id, Entry, Delivered, Phase, claiming, reading, ending, phase_at, acks_in}
use Rattle.model_server.specs.Group.Worker.{after_news}
use Rattle.model_server.specs.Group.Group.{Name, Pending, listed, ids_of, given, passed, behind, newly_pending, whole}
use Rattle.model_server.specs.Group.Group.{pending_ids}
use Rattle.model_server.specs.Group.Law.{Among}
use Rattle.model_server.proofs.GroupLemmas.Among.{listed_among, among_split, among_of_map, among_map, among_left, among_right}
use Rattle.model_server.proofs.GroupLemmas.Steps.{ids_append}
use Rattle.model_server.specs.Rounds.Page.{how_many}
use Rattle.model_server.specs.Rounds.Rounds.{all_done}
use Rattle.model_server.specs.Rounds.Bound.{pages, held_for}
use Rattle.model_server.proofs.RoundsLemmas.Lists as lists
use Rattle.model_server.proofs.RoundsLemmas.Lists.{clash, not_true, among_listed}
use Rattle.model_server.proofs.RoundsLemmas.Measure as measure
use Rattle.model_server.proofs.RoundsLemmas.Measure.{left_claiming, left_reading, Brings, pages_less, pages_fall}
use Rattle.model_server.proofs.RoundsLemmas.Still.{still_pending, still_mine, held_not, is_less, is_no_less}
use Rattle.model_server.proofs.RoundsLemmas.Good.{IsGood, newly_of, within_passed}
use Rattle.model_server.proofs.RoundsLemmas.Left.{measure_of, NoEnd, from_the_first, gone_through}
use Rattle.model_server.proofs.RoundsLemmas.Parts as parts
use Rattle.model_server.proofs.RoundsLemmas.Parts.{ids_in}

module _ {F : Type 0} (n : ℕ) (name : Name) (some : 1 ≤ n) (every : ℕ) (ps : List Pending)
    (seen fresh : List (Entry F)) (deleted : List Id) (good : IsGood ps seen fresh) (rounds : ℕ) where
  abbrev all : Id → Bool
  all = listed (pending_ids ps)

  abbrev handed : List (Entry F)
  handed = given deleted n fresh

  abbrev by : List (Entry F)
  by = passed deleted n fresh

  abbrev more : List Pending
  more = ps ++ newly_pending name handed

  abbrev answer : List (Delivered F)
  answer = map whole handed

  abbrev ids : List Id
  ids = ids_in answer

  abbrev still : Id → Bool
  still = still_pending ids more

  abbrev before : ℕ
  before = measure_of n name every (reading rounds) [] [] ps seen fresh

  -- a pending entry that was not just delivered was pending before
  fewer : (x : Id) → still x ≡ true → all x ≡ true
  fewer x h =
      let k = held_not ids more x h in
      let P : List Id → Type 0 = λ l. Among x l in
      elim (among_split x (pending_ids ps) (pending_ids (newly_pending name handed))
      (subst P (ids_append ps (newly_pending name handed)) (listed_among (pending_ids more) x k.1))) [
        | inl a ↦ among_listed x (pending_ids ps) a
        | inr a ↦ absurd (clash (listed ids x)
            (ap (λ (l : List Id). listed l x) (parts.whole_same_ids handed)
            ∙ among_listed x (ids_of handed) (newly_of name handed x a)) k.0)
      ]

  -- what was passed by has none of the ids that are pending
  none_passed : how_many still by ≡ 0
  none_passed =
      lists.none_counted still by (λ x h.
      not_true (still x) (λ k.
      let s = among_of_map (λ (e : Entry F). e.0) x by (listed_among (ids_of by) x h) in
      let P : Id → Type 0 = λ z. Among z (ids_of fresh) in
      let to_come : Among x (ids_of fresh) =
      subst P s.is (among_map (λ (e : Entry F). e.0) s.x fresh (within_passed deleted n fresh s.x s.within)) in
      parts.not_before seen fresh good.distinct x (among_listed x (ids_of fresh) to_come)
      (good.handed_out x (fewer x k))))

  abbrev now : ℕ
  now = pages n (how_many all seen)

  abbrev later : ℕ
  later = pages n (how_many still (seen ++ by))

  abbrev to_come : ℕ
  to_come = pages n (length fresh)

  abbrev to_come_later : ℕ
  to_come_later = pages n (length (behind deleted n fresh))

  no_more : later ≤ now
  no_more =
      pages_less n (how_many still (seen ++ by)) (how_many all seen) some
      (omega (arith, lists.count_append still seen by, none_passed, lists.count_less still all seen fewer))

  costs_one : (xs : List Id) → held_for [] xs ≤ 1
  costs_one [] = omega arith
  costs_one (x ∷ xs) = omega arith

  costs_none : (es : List (Entry F)) → length es ≡ 0 → held_for [] (ids_in (map whole (given deleted n es))) ≡ 0
  costs_none [] h = refl
  costs_none (e ∷ es) h = absurd (omega (arith, h))

  brings : Brings (held_for [] ids) to_come to_come_later
  brings = record {
    one = costs_one ids;
    none = λ h. costs_none fresh (measure.pages_none n (length fresh) some h);
    less = falls (length fresh) (length (behind deleted n fresh)) (parts.page_read deleted n fresh);
  }
    where
      falls : (a b : ℕ) → b ≤ a - n → pages n b ≤ pages n a - 1
      falls zero b h = omega (arith, pages_less n b 0 some (omega (arith, h)), measure.no_pages n some)
      falls (suc a) b h = omega (arith, pages_fall n b (suc a) some (omega arith) h)

  -- none of what it has seen then has the id `0-0`
  no_end_then : NoEnd {F = F} n name (seen ++ by)
  no_end_then =
      not_true (listed (ids_of (seen ++ by)) (codes "0-0")) (λ h.
      let s = among_of_map (λ (e : Entry F). e.0) (codes "0-0") (seen ++ by)
      (listed_among (ids_of (seen ++ by)) (codes "0-0") h) in
      let there : Among s.x (seen ++ fresh) = elim (among_split s.x seen by s.within) [
        | inl a ↦ among_left s.x seen fresh a
        | inr a ↦ among_right s.x seen fresh (within_passed deleted n fresh s.x a)
      ] in
      good.no_end s.x there s.is)

  abbrev next_is : Phase → ℕ
  next_is next = measure_of n name every next [] ids more (seen ++ by) (behind deleted n fresh)

  by_count : (b : Bool) → nat_lt (rounds + 1) every ≡ b
      → next_is (if b then reading (rounds + 1) else claiming (codes "0-0")) ≤ before - 1
  by_count true h =
      omega (
        arith,
        measure.read_goes_on every rounds (held_for [] ids) now to_come later to_come_later
            (omega (arith, is_less (rounds + 1) every h)) brings no_more,
      )
  by_count false h =
      omega (
        arith,
        measure.read_claims every rounds (held_for [] ids) later now to_come later to_come_later (is_no_less (rounds + 1) every h) brings no_more,
        from_the_first n name every still (still_mine ids name more) (seen ++ by) (behind deleted n fresh) no_end_then,
      )

  pub read_step : measure_of n name every
      (phase_at (ending answer (all_done answer)) (after_news every (reading rounds))) []
      (acks_in answer (all_done answer)) more (seen ++ by) (behind deleted n fresh) ≤ before - 1
  read_step =
      omega (
        arith,
        gone_through n name every (after_news every (reading rounds)) answer more (seen ++ by) (behind deleted n fresh),
        by_count (nat_lt (rounds + 1) every) refl,
      )
