-- The lists of the numbers below a count, when the count goes up by one.
use Rattle.std.proofs.Common.{◌≡◌, ◌+◌, ℕ, suc, List, [], ◌∷◌, ◌++◌, map, refl, sym, ap, ◌∙◌, append_assoc, arith}
use Rattle.std.proofs.lemmas.List.{map-append}
use Rattle.redis_resp.specs.Tree.{Tree}
use Rattle.redis_resp.specs.Value.{tree}
use Rattle.redis_resp.specs.declared.value.Value.{Value}
use Rattle.test_costs.specs.Below.{below}
use Rattle.test_costs.specs.Replies.{row_tree, row_trees}
use Rattle.test_costs.specs.declared.replies.Row.{Row}

pub below_none : {A : Type 0} (f : ℕ → List A) → below f 0 ≡ []
unfolding below
below_none f = refl

pub below_next : {A : Type 0} (f : ℕ → List A) (n : ℕ) → below f (n + 1) ≡ below f n ++ f n
unfolding below
below_next f n =
    let next : n + 1 ≡ suc n = omega arith in
    ap (λ m. below f m) next

-- the trees of a list to which a value is appended
pushed : (old new : List Value) (v : Value) → new ≡ old ++ v ∷ [] → map tree new ≡ map tree old ++ tree v ∷ []
pushed old new v put = ap (λ l. map tree l) put ∙ map-append tree old (v ∷ [])

-- two values are appended to those of the numbers so far
pub two_pushed : (f : ℕ → List Tree) (n : ℕ) (old between new : List Value) (v w : Value) → between ≡ old ++ v ∷ []
    → new ≡ between ++ w ∷ []
    → map tree old ≡ below f n → tree v ∷ tree w ∷ [] ≡ f n → map tree new ≡ below f (n + 1)
two_pushed f n old between new v w first second so_far are =
    pushed between new w second
    ∙ (ap (λ ts. ts ++ tree w ∷ []) (pushed old between v first)
    ∙ (append_assoc (map tree old) (tree v ∷ []) (tree w ∷ [])
    ∙ (ap (λ ts. ts ++ tree v ∷ tree w ∷ []) so_far
    ∙ (ap (λ ts. below f n ++ ts) are
    ∙ sym (below_next f n)))))

pub no_rows : (row : Row) → row_trees row 0 ≡ []
unfolding row_trees
no_rows row = below_none (λ index. row_tree row index ∷ [])

one_row_more : (row : Row) (n : ℕ) → row_trees row (n + 1) ≡ row_trees row n ++ row_tree row n ∷ []
unfolding row_trees
one_row_more row n = below_next (λ index. row_tree row index ∷ []) n

-- a row is appended to those so far
pub row_pushed : (row : Row) (n : ℕ) (old new : List Value) (v : Value) → new ≡ old ++ v ∷ []
    → map tree old ≡ row_trees row n → tree v ≡ row_tree row n → map tree new ≡ row_trees row (n + 1)
row_pushed row n old new v put so_far is =
    pushed old new v put
    ∙ (ap (λ ts. ts ++ tree v ∷ []) so_far
    ∙ (ap (λ t. row_trees row n ++ t ∷ []) is
    ∙ sym (one_row_more row n)))
