-- Ids that are searched for, and put in.
use Rattle.std.proofs.Common.{◌≡◌, ◌≢◌, ◌∙◌, refl, ◌<◌, ◌≤◌, sym, ap, arith, ℕ, zero, suc, true, false, List, [], ◌∷◌, length, get_or, map}
use Rattle.std.proofs.Common.{Result, Ok, Err, inl, inr, Bool, if◌then◌else◌}
use Rattle.std.specs.Prelude.{is_ok, ◌==◌, ◌&&◌, ◌||◌}
use Rattle.std.proofs.lemmas.Bool.{cases_lt}
use Rattle.std.proofs.lemmas.Cmp.{ranked}
use Rattle.std.proofs.lemmas.List.{get_or_default}
use Rattle.std.proofs.lemmas.Bool.Decides.{nat_tests}
use Rattle.std.proofs.lemmas.List.Sorted.{IsNonDecreasingBy-from_default, IsNonDecreasingBy-insert, IsPermutation-insert}
use Rattle.std.proofs.lemmas.List.Sorted.{IsPermutation-map, list_any-IsPermutation}
use Rattle.std.specs.List.{insert}
use Rattle.std.specs.List.Sorted.{IsBinarySearchResult, IsNonDecreasingBy, IsPermutation, IsSearchInRange}
use Rattle.std.specs.Ordering.{nat_cmp, ordering_index}
use Rattle.worker_journal.specs.KnownIds.Known.{HasOneMore, HasPlaceToo, IsFound, IsGap, has, has_at, no_id, number_at, number_in, place_in, places_in}
use Rattle.worker_journal.specs.declared.known_ids.known.KnownId.{KnownId}

has_of : (ids : List KnownId) (i n : ℕ) → i < length ids → number_at ids i ≡ n → has (places_in ids) n ≡ true
has_of [] i n lt is = absurd (omega (arith, lt))
has_of (x ∷ xs) zero n lt is = grind (arith, nat_tests, is)
has_of (x ∷ xs) (suc i) n lt is = grind (arith, nat_tests, has_of xs i n (omega (arith, lt)) is)

has_none : (ids : List KnownId) (n : ℕ) → ((k : ℕ) → k < length ids → number_at ids k ≢ n) → has (places_in ids) n ≡ false
has_none [] n none = refl
has_none (x ∷ xs) n none =
    grind (arith, nat_tests, none 0 (omega arith), has_none xs n (λ k lt. none (suc k) (omega (arith, lt))))

-- it is there exactly if it was found
pub found_is : (ids : List KnownId) (n : ℕ) (r : Result ℕ ℕ) → IsFound ids n r → is_ok r ≡ has (places_in ids) n
found_is ids n (Ok i) found = sym (has_of ids i n found.0 found.1)
found_is ids n (Err i) found = sym (has_none ids n (λ k lt same. elim (cases_lt k i) [
  | inl first ↦ omega (arith, found.1 k first, same)
  | inr later ↦ omega (arith, found.2 k later lt, same)
]))

-- and its line begins at the offset of the id that was found
pub place_is : (ids : List KnownId) (i n : ℕ) (id : KnownId) → i < length ids → number_at ids i ≡ n → get_or ids i no_id ≡ id
    → has_at (places_in ids) n id.place ≡ true
place_is [] i n id lt is there = absurd (omega (arith, lt))
place_is (x ∷ xs) zero n id lt is there =
    let same : x.place ≡ id.place = ap (λ (k : KnownId). k.place) there in grind (arith, nat_tests, is, same)
place_is (x ∷ xs) (suc i) n id lt is there =
    grind (arith, nat_tests, place_is xs i n id (omega (arith, lt)) is there)

-- the same ids in another order
pub same_numbers : (old new : List KnownId) → IsPermutation old new → (n : ℕ) → has (places_in new) n ≡ has (places_in old) n
same_numbers old new permutes n =
    sym (list_any-IsPermutation (λ p. p.0 == n) (places_in old) (places_in new) (IsPermutation-map place_in old new permutes))

pub same_places : (old new : List KnownId) → IsPermutation old new → (n at : ℕ)
    → has_at (places_in new) n at ≡ has_at (places_in old) n at
same_places old new permutes n at = sym (list_any-IsPermutation (λ p. (p.0 == n) && (p.1 == at)) (places_in old)
    (places_in new) (IsPermutation-map place_in old new permutes))

-- one more, wherever it is put
pub one_more : (ids : List KnownId) (at number : ℕ) (id : KnownId) → number_in id ≡ number
    → HasOneMore (places_in ids) (places_in (insert ids at id)) number
one_more ids at number id is n = same_numbers (id ∷ ids) (insert ids at id) (IsPermutation-insert ids at id) n
    ∙ ap (λ (k : ℕ). (k == n) || has (places_in ids) n) is

pub place_too : (ids : List KnownId) (at number place : ℕ) (id : KnownId) → number_in id ≡ number → id.place ≡ place
    → HasPlaceToo (places_in ids) (places_in (insert ids at id)) number place
place_too ids at number place id is there n p =
    same_places (id ∷ ids) (insert ids at id) (IsPermutation-insert ids at id) n p
    ∙ (ap (λ (k : ℕ). ((k == n) && (id.place == p)) || has_at (places_in ids) n p) is
    ∙ ap (λ (k : ℕ). ((number == n) && (k == p)) || has_at (places_in ids) n p) there)

-- where a number was found it may be put in too
pub gap_found : (ids : List KnownId) (n i : ℕ) → IsNonDecreasingBy number_in ids → i < length ids → number_at ids i ≡ n
    → IsGap ids n i
gap_found ids n i rises within is = record {
  within = omega (arith, within);
  before = λ k lt. omega (arith, rises k i no_id (omega (arith, lt)) within, is);
  behind = λ k le lt. omega (arith, rises i k no_id le lt, is);
}

-- put there, it leaves the ids in order
put_in : (ids : List KnownId) (n at : ℕ) (id : KnownId) → number_in id ≡ n → IsNonDecreasingBy number_in ids → IsGap ids n at
    → IsNonDecreasingBy number_in (insert ids at id)
put_in ids n at id is rises find_gap = IsNonDecreasingBy-insert number_in ids at id rises find_gap.within
    (λ k d lt. omega (
      arith,
      ap number_in (get_or_default ids k d no_id (omega (arith, lt, find_gap.within))),
      find_gap.before k lt,
      is,
    ))
    (λ k d le lt. omega (arith, ap number_in (get_or_default ids k d no_id lt), find_gap.behind k le lt, is))

-- and so it does if it was not put in
pub still_rises : (ids : List KnownId) (n at : ℕ) (id : KnownId) (is_in : Bool) → number_in id ≡ n
    → IsNonDecreasingBy number_in ids → IsGap ids n at → IsNonDecreasingBy number_in (if is_in then insert ids at id else ids)
still_rises ids n at id true is rises find_gap = put_in ids n at id is rises find_gap
still_rises ids n at id false is rises find_gap = rises

-- ---- the search

comparisons_rise : (ids : List KnownId) (n : ℕ) → IsNonDecreasingBy number_in ids
    → IsNonDecreasingBy (λ id. ordering_index (nat_cmp (number_in id) n)) ids
comparisons_rise ids n rises = IsNonDecreasingBy-from_default (λ id. ordering_index (nat_cmp (number_in id) n)) ids no_id
    (λ i j le lt. higher (number_at ids i) (number_at ids j) (rises i j no_id le lt))
  where
    higher : (a b : ℕ) → a ≤ b → ordering_index (nat_cmp a n) ≤ ordering_index (nat_cmp b n)
    higher a b le = grind (arith, nat_tests)

pub searched : (ids : List KnownId) (n : ℕ) (r : Result ℕ ℕ) → IsNonDecreasingBy number_in ids → IsSearchInRange r (length ids)
    → IsBinarySearchResult (λ id. nat_cmp (number_in id) n) ids r → IsFound ids n r
searched ids n (Ok i) rises within equal = (within, ranked _ n _ (sym (equal no_id)))
searched ids n (Err i) rises within parted = (
  within,
  (λ k lt. ranked _ n _ (sym ((parted (comparisons_rise ids n rises)).0 k no_id (omega arith) lt))),
  λ k le lt. ranked _ n _ (sym ((parted (comparisons_rise ids n rises)).1 k no_id le lt)),
)
