-- Values that are gathered one after the other.
use Rattle.std.proofs.Common.{◌≡◌, ◌∙◌, refl, sym, ap, ℕ, ◌<◌, ◌+◌, suc, arith, List, [], ◌∷◌, ◌++◌, map, take, length, get_or, append_assoc}
use Rattle.std.proofs.Math.Seq.{take-suc}
use Rattle.sqlite_value.specs.declared.value.Value.{Value}
use Rattle.sqlite_value.specs.declared.value.ValueRef.{ValueRef}
use Rattle.sqlite_value.specs.Value.{owned}
use Rattle.sqlite.specs.Values.{bound, bound_value}
use Rattle.worker_table.specs.RowTable.OfRow.{cell_of, cells_of}
use Rattle.worker_table.specs.declared.row_table.cell.Cell as memory
use Rattle.worker_sqlite.specs.Statements.{value_of, values_of}

bound_both : (a b : List ValueRef) → bound (a ++ b) ≡ bound a ++ bound b
bound_both [] b = refl
bound_both (x ∷ a) b = ap (λ (vs : List Value). bound_value (owned x) ∷ vs) (bound_both a b)

values_both : (a b : List memory.Cell) → values_of (cells_of (a ++ b)) ≡ values_of (cells_of a) ++ values_of (cells_of b)
values_both [] b = refl
values_both (x ∷ a) b = ap (λ (vs : List Value). value_of (cell_of x) ∷ vs) (values_both a b)

one_further : (all : List memory.Cell) (i : ℕ) (c : memory.Cell) → i < length all → c ≡ get_or all i c
    → values_of (cells_of (take (i + 1) all)) ≡ values_of (cells_of (take i all)) ++ value_of (cell_of c) ∷ []
one_further all i c within is =
    let next : i + 1 ≡ suc i = omega arith in
    ap (λ (n : ℕ). values_of (cells_of (take n all))) next
    ∙ ap (λ (cs : List memory.Cell). values_of (cells_of cs)) (take-suc all i c within)
    ∙ values_both (take i all) (get_or all i c ∷ [])
    ∙ ap (λ (x : memory.Cell). values_of (cells_of (take i all)) ++ value_of (cell_of x) ∷ []) (sym is)

-- after one more value of the same cell
pub one_more : (first now : List ValueRef) (v : ValueRef) (cells : List memory.Cell) (i : ℕ) (c : memory.Cell)
    → i < length cells → c ≡ get_or cells i c → bound now ≡ bound first ++ values_of (cells_of (take i cells))
    → bound_value (owned v) ≡ value_of (cell_of c)
    → bound (now ++ v ∷ []) ≡ bound first ++ values_of (cells_of (take (i + 1) cells))
one_more first now v cells i c within is so_far same =
    bound_both now (v ∷ [])
    ∙ ap (λ (vs : List Value). vs ++ bound_value (owned v) ∷ []) so_far
    ∙ append_assoc (bound first) (values_of (cells_of (take i cells))) (bound_value (owned v) ∷ [])
    ∙ ap (λ (x : Value). bound first ++ (values_of (cells_of (take i cells)) ++ x ∷ [])) same
    ∙ ap (λ (vs : List Value). bound first ++ vs) (sym (one_further cells i c within is))
