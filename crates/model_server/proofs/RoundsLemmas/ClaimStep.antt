-- A round that claims leaves one round less.
use Rattle.std.proofs.Common.{◌≡◌, refl, sym, ap, subst, ◌∙◌, ℕ, ◌+◌, ◌-◌, ◌≤◌, arith, nat_lt}
use Rattle.std.proofs.Common.{Bool, true, false, not, ◌&&◌, List, [], ◌∷◌, filter, length, codes, if◌then◌else◌}
use Rattle.std.proofs.lemmas.Slice.Eq.{bytes_eq-Decides}
use Rattle.std.specs.Str.{bytes_eq}
use Rattle.model_server.specs.Group.Worker.{Id, Entry, Delivered, claiming, reading, ending, phase_at, acks_in}
use Rattle.model_server.specs.Group.Worker.{after_claim}
use Rattle.model_server.specs.Group.Group.{Name, Pending, listed, ids_of, claimed, claim_answer, pending_ids}
use Rattle.model_server.proofs.GroupLemmas.Among.{and_left, listed_among}
use Rattle.model_server.specs.Rounds.Page.{from_id, beyond, how_many, claim_page, next_claim, first_id}
use Rattle.model_server.specs.Rounds.Rounds.{all_done}
use Rattle.model_server.specs.Rounds.Bound.{pages, held_for}
use Rattle.model_server.proofs.RoundsLemmas.Lists as lists
use Rattle.model_server.proofs.RoundsLemmas.Lists.{AreDistinct, clash, not_true, LeavesPage, among_listed}
use Rattle.model_server.proofs.RoundsLemmas.Measure as measure
use Rattle.model_server.proofs.RoundsLemmas.Measure.{left_claiming, left_reading, pages_less, pages_fall}
use Rattle.model_server.proofs.RoundsLemmas.Still.{still_pending, held_not, not_less, is_less, is_no_less}
use Rattle.model_server.proofs.RoundsLemmas.Good.{claimed_of}
use Rattle.model_server.proofs.RoundsLemmas.Left.{measure_of, NoEnd, gone_through}
use Rattle.model_server.proofs.RoundsLemmas.Parts as parts
use Rattle.model_server.proofs.RoundsLemmas.Parts.{ids_in}
use Rattle.model_server.proofs.RoundsLemmas.OwnStep.{and_both}

module _ {F : Type 0} (n : ℕ) (name : Name) (some : 1 ≤ n) (every : ℕ) (ps : List Pending)
    (seen fresh : List (Entry F)) (deleted : List Id) (no_end : NoEnd {F = F} n name seen)
    (distinct : AreDistinct seen) (id : Id) where
  abbrev all : Id → Bool
  all = listed (pending_ids ps)

  abbrev here : List (Entry F)
  here = from_id id seen

  abbrev page : Id → Bool
  page = listed (ids_of (claim_page n id ps seen))

  abbrev left_pending : List Pending
  left_pending = claimed 1 page name deleted ps

  abbrev answer : List (Delivered F)
  answer = claim_answer page ps deleted seen

  abbrev ids : List Id
  ids = ids_in answer

  abbrev still : Id → Bool
  still = still_pending ids left_pending

  abbrev before : ℕ
  before = measure_of n name every (claiming id) [] [] ps seen fresh

  picks : Id → Bool
  picks x = page x && (all x && not (listed deleted x))

  answer_ids : ids ≡ ids_of (filter (λ e. picks e.0) seen)
  unfolding picks
  answer_ids = parts.whole_same_ids (filter (λ e. page e.0 && (all e.0 && not (listed deleted e.0))) seen)

  fewer : (x : Id) → still x ≡ true → all x ≡ true
  fewer x h =
      among_listed x (pending_ids ps) (claimed_of 1 page name deleted ps x
      (listed_among (pending_ids left_pending) x (held_not ids left_pending x h).1))

  leaves : LeavesPage n all still here
  unfolding picks
  leaves x h =
      not_true (still x) (λ z.
      let k = held_not ids left_pending x z in
      let there : listed deleted x ≡ false =
      parts.claimed_is_there 1 page name deleted ps x (listed_among (pending_ids left_pending) x k.1) h in
      let is_seen : listed (ids_of seen) x ≡ true =
      lists.end_listed here seen x (lists.from_end id seen) (lists.page_within n all here x h) in
      let picked : picks x ≡ true =
      and_both (page x) (all x && not (listed deleted x)) h
      (and_both (all x) (not (listed deleted x)) (fewer x z) (ap not there)) in
      clash (listed ids x)
      (ap (λ (l : List Id). listed l x) answer_ids ∙ parts.filtered_listed picks seen x is_seen picked) k.0)

  -- each entry of the reply was on the page
  on_page : (x : Id) → listed ids x ≡ true → page x ≡ true
  unfolding picks
  on_page x h =
      and_left (page x) (all x && not (listed deleted x))
      (parts.listed_filtered picks seen x (ap (λ (l : List Id). listed l x) (sym answer_ids) ∙ h)).0

  abbrev cost : ℕ
  cost = held_for [] ids

  costs_one : (xs : List Id) → held_for [] xs ≤ 1
  costs_one [] = omega arith
  costs_one (x ∷ xs) = omega arith

  -- if none is pending from there on, the reply has none
  costs_none : (xs : List Id) → ((x : Id) → listed xs x ≡ true → page x ≡ true) → how_many all here ≡ 0
      → held_for [] xs ≡ 0
  costs_none [] h z = refl
  costs_none (x ∷ xs) h z =
      let k : page x ≡ true = h x (lists.listed_here x xs) in
      let one : 1 ≤ how_many all here =
      lists.count_some all here x (lists.page_within n all here x k) (lists.page_meant n all here x k) in
      absurd (omega (arith, one, z))

  abbrev these : ℕ
  these = pages n (how_many all here)

  abbrev now : ℕ
  now = pages n (how_many all seen)

  abbrev later : ℕ
  later = pages n (how_many still seen)

  abbrev to_come : ℕ
  to_come = pages n (length fresh)

  fewer_left : later ≤ now
  fewer_left = pages_less n (how_many still seen) (how_many all seen) some (lists.count_less still all seen fewer)

  here_in_seen : how_many all here ≤ how_many all seen
  here_in_seen = lists.end_count all here seen (lists.from_end id seen)

  none_here : these ≡ 0 → cost ≡ 0
  none_here h = costs_none ids on_page (measure.pages_none n (how_many all here) some h)

  none_now : now ≡ 0 → cost ≡ 0
  none_now h =
      none_here (let z = measure.pages_none n (how_many all seen) some h in
      let y : how_many all here ≡ 0 = omega (arith, z, here_in_seen) in
      ap (pages n) y ∙ measure.no_pages n some)

  -- it reaches the end of the claim, and reads
  at_end : (only : Bool) → nat_lt (how_many all here) (how_many all seen) ≡ only → beyond n all here ≡ []
      → cost + left_reading every 0 later to_come ≤ left_claiming every only these now to_come - 1
  at_end false o e =
      let none : how_many still here ≤ 0 =
      subst (λ (l : List (Entry F)). how_many still here ≤ how_many still l) e
      (lists.all_beyond n all still here fewer leaves) in
      let swept : how_many still seen ≤ how_many still here =
      lists.stays_swept all still here seen fewer (lists.from_end id seen)
      (is_no_less (how_many all here) (how_many all seen) o) in
      let zero_left : how_many still seen ≡ 0 = omega (arith, none, swept) in
      let no_later : later ≡ 0 = ap (pages n) zero_left ∙ measure.no_pages n some in
      subst (λ k. cost + left_reading every 0 k to_come ≤ left_claiming every false these now to_come - 1) (sym no_later)
      (measure.claim_ends every cost these now to_come (costs_one ids) none_now)
  at_end true o e =
      let more : 1 ≤ how_many all seen =
      omega (arith, is_less (how_many all here) (how_many all seen) o) in
      measure.part_ends every cost these now to_come later (costs_one ids) none_here
      (measure.one_page n (how_many all seen) some more) fewer_left

  -- or it goes on from the next one
  goes_on : (only : Bool) → nat_lt (how_many all here) (how_many all seen) ≡ only → (y : Entry F) (ys : List (Entry F))
      → beyond n all here ≡ y ∷ ys
      → cost + left_claiming every (nat_lt (how_many still (y ∷ ys)) (how_many still seen))
      (pages n (how_many still (y ∷ ys))) later to_come ≤ left_claiming every only these now to_come - 1
  goes_on only o y ys e =
      let rest_end : lists.IsEnd (y ∷ ys) here =
      subst (λ (l : List (Entry F)). lists.IsEnd l here) e (lists.beyond_end n all here) in
      let whole : n + 1 ≤ how_many all here = lists.beyond_some n all here y ys e in
      let taken : how_many still here ≤ how_many all here - n = lists.page_taken n all still here fewer leaves in
      let in_here : how_many still (y ∷ ys) ≤ how_many still here = lists.end_count still (y ∷ ys) here rest_end in
      let two : 2 ≤ these = measure.pages_two n (how_many all here) some whole in
      let two_now : these ≤ now = pages_less n (how_many all here) (how_many all seen) some here_in_seen in
      let rest_falls : pages n (how_many still (y ∷ ys)) + 1 ≤ these =
      pages_fall n (how_many still (y ∷ ys)) (how_many all here) some (omega (arith, whole))
      (omega (arith, taken, in_here)) in
      let case : (b : Bool) → nat_lt (how_many all here) (how_many all seen) ≡ b
      → cost + left_claiming every (nat_lt (how_many still (y ∷ ys)) (how_many still seen))
      (pages n (how_many still (y ∷ ys))) later to_come ≤ left_claiming every b these now to_come - 1
      = λ b. elim b as (λ v. nat_lt (how_many all here) (how_many all seen) ≡ v
      → cost + left_claiming every (nat_lt (how_many still (y ∷ ys)) (how_many still seen))
      (pages n (how_many still (y ∷ ys))) later to_come ≤ left_claiming every v these now to_come - 1) [
        | true ↦ λ q. measure.part_falls every cost these now to_come (pages n (how_many still (y ∷ ys))) later
            (nat_lt (how_many still (y ∷ ys)) (how_many still seen)) (costs_one ids) two
            (omega (arith, two, two_now)) rest_falls fewer_left
        | false ↦ λ q.
            let swept : how_many still seen ≤ how_many still here =
            lists.stays_swept all still here seen fewer (lists.from_end id seen)
            (is_no_less (how_many all here) (how_many all seen) q) in
            let rest : how_many still here ≤ how_many still (y ∷ ys) =
            subst (λ (l : List (Entry F)). how_many still here ≤ how_many still l) e
            (lists.all_beyond n all still here fewer leaves) in
            let from_first : nat_lt (how_many still (y ∷ ys)) (how_many still seen) ≡ false =
            not_less (how_many still (y ∷ ys)) (how_many still seen) (omega (arith, swept, rest)) in
            let falls : later + 1 ≤ now =
            pages_fall n (how_many still seen) (how_many all seen) some (omega (arith, whole, here_in_seen))
            (omega (arith, swept, taken, here_in_seen)) in
            subst (λ b. cost + left_claiming every b (pages n (how_many still (y ∷ ys))) later to_come
            ≤ left_claiming every false these now to_come - 1) (sym from_first)
            (measure.claim_falls every cost these now to_come (pages n (how_many still (y ∷ ys))) later (costs_one ids)
            (omega (arith, two, two_now)) (omega (arith, rest_falls, two_now)) falls)
      ] in
      case only o

  abbrev next_is : List (Entry F) → ℕ
  next_is rest = measure_of n name every (after_claim (first_id rest)) [] ids left_pending seen fresh

  by_rest : (rest : List (Entry F)) → beyond n all here ≡ rest → next_is rest ≤ before - 1
  by_rest [] e = omega (arith, at_end (nat_lt (how_many all here) (how_many all seen)) refl e)
  by_rest (y ∷ ys) e =
      let rest_end : lists.IsEnd (y ∷ ys) seen =
      lists.end_of_end (y ∷ ys) here seen (subst (λ (l : List (Entry F)). lists.IsEnd l here) e
      (lists.beyond_end n all here)) (lists.from_end id seen) in
      let is_seen : listed (ids_of seen) y.0 ≡ true =
      lists.end_listed (y ∷ ys) seen y.0 rest_end (lists.listed_here y.0 (ids_of ys)) in
      let other : bytes_eq y.0 (codes "0-0") ≡ false =
      not_true (bytes_eq y.0 (codes "0-0")) (λ h.
      clash (listed (ids_of seen) y.0) is_seen
      (ap (listed (ids_of seen)) ((bytes_eq-Decides y.0 (codes "0-0")).0 h) ∙ no_end)) in
      let there : from_id y.0 seen ≡ y ∷ ys = lists.from_there y ys seen distinct rest_end in
      let at : (es : List (Entry F)) → ℕ =
      λ es. cost + left_claiming every (nat_lt (how_many still es) (how_many still seen))
      (pages n (how_many still es)) later to_come in
      let goes : at (from_id y.0 seen) ≤ before - 1 =
      subst (λ (l : List (Entry F)). at l ≤ before - 1) (sym there)
      (omega (arith, goes_on (nat_lt (how_many all here) (how_many all seen)) refl y ys e)) in
      let same : next_is (y ∷ ys) ≡ at (from_id y.0 seen) =
      ap (λ b. measure_of n name every (if b then reading 0 else claiming y.0) [] ids left_pending seen fresh) other in
      omega (arith, goes, same)

  pub claim_step : measure_of n name every
      (phase_at (ending answer (all_done answer)) (after_claim (next_claim n id ps seen))) []
      (acks_in answer (all_done answer)) left_pending seen fresh ≤ before - 1
  claim_step =
      omega (
        arith,
        gone_through n name every (after_claim (next_claim n id ps seen)) answer left_pending seen fresh,
        by_rest (beyond n all here) refl,
      )
