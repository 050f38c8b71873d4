-- Fields that are kept in the order of their names.
use Rattle.std.proofs.Common.{◌≡◌, ℕ, List, [], ◌∷◌, map, refl, ap}
use Rattle.std.specs.declared.cmp.Ordering.{Ordering}
use Rattle.std.specs.declared.cmp.Ordering.TheVariants.{Less, Equal, Greater}
use Rattle.std.specs.BTreeMap.{insert_entry}
use Rattle.std.specs.Cmp.Lexicographic.{slice_cmp}
use Rattle.std.specs.Ordering.{nat_cmp, match_ordering}
use Rattle.redis_resp.specs.declared.value.Value.{Value}
use Rattle.redis_resp.specs.Tree.{Tree}
use Rattle.redis_resp.specs.Value.{tree}
use Rattle.test_notation.specs.Entry.{pairs_of}
use denote.Ref.{Bor}

abbrev by_name : Bor (List ℕ) → Bor (List ℕ) → Ordering
by_name a b = slice_cmp nat_cmp a.now b.now

-- A field that is inserted among others is there by its name and its value.
pub pairs_of_insert : (fields : List (Bor (List ℕ) × Bor Value)) (name : Bor (List ℕ)) (value : Bor Value)
    → pairs_of (insert_entry by_name fields name value)
    ≡ insert_entry (slice_cmp nat_cmp) (pairs_of fields) name.now (tree value.now)
pairs_of_insert [] name value = refl
pairs_of_insert (f ∷ fs) name value =
    let rest = pairs_of_insert fs name value in
    let P : Ordering → Type 0 = λ o. pairs_of
    (match_ordering o ((name, value) ∷ f ∷ fs) ((f.0, value) ∷ fs) (f ∷ insert_entry by_name fs name value))
    ≡ match_ordering o ((name.now, tree value.now) ∷ pairs_of (f ∷ fs)) ((f.0.now, tree value.now) ∷ pairs_of fs)
    ((f.0.now, tree f.1.now) ∷ insert_entry (slice_cmp nat_cmp) (pairs_of fs) name.now (tree value.now)) in
    elim (slice_cmp nat_cmp name.now f.0.now) as P [
      | Less ↦ refl
      | Equal ↦ refl
      | Greater ↦ ap (λ es. (f.0.now, tree f.1.now) ∷ es) rest
    ]
