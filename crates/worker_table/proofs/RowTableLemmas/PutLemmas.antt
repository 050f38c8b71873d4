-- Rows that are put into a table one after the other.
use Rattle.std.proofs.Common.{◌≡◌, ◌∙◌, refl, sym, ap, subst, ℕ, ◌<◌, ◌+◌, suc, arith, Bool, true, false, List, [], ◌∷◌, ◌++◌, map, take, length, get_or}
use Rattle.std.proofs.Common.{Option, Some, None, is_some, IfSome, option_map}
use Rattle.std.proofs.Math.Seq.{take-suc}
use Rattle.std.specs.List.{AllByRecursion}
use Rattle.worker_table.specs.RowTable.Rows.{AreKnown, AreRows, IsRow, Row, find, with_known, with_row, with_rows}
use Rattle.worker_table.specs.RowTable.OfRow.{row_of, rows_of}
use Rattle.worker_table.specs.declared.row_table.row.Row as memory
use Rattle.worker_table.proofs.RowTableLemmas.RowsLemmas.{is_row_now, still_row}
use Rattle.worker_table.proofs.RowTableLemmas.RowsLemmas as rows

-- a row that was not there
pub put_in : (known new : Option (List Row)) (r : Row) → IfSome known (λ rs. is_some (find r.0 rs) ≡ false)
    → new ≡ option_map (λ rs. with_row rs r) known → AreKnown (r ∷ []) new
put_in None new r told is = subst (AreKnown (r ∷ [])) (sym is) tt
put_in (Some rs) new r told is = subst (AreKnown (r ∷ [])) (sym is) (is_row_now rs r told, tt)

-- these were put in so far
pub record PutSoFar (first : Option (List Row)) (done : List Row) (known : Option (List Row)) : Type 0 where
  pub is : known ≡ with_known done first
  pub there : AreKnown done known

pub put_none : (known : Option (List Row)) → PutSoFar known [] known
put_none None = record { is = refl; there = tt }
put_none (Some rs) = record { is = refl; there = tt }

still_all : (rs done : List Row) (r : Row) → AreRows rs done → AreRows (with_row rs r) done
still_all rs [] r all = tt
still_all rs (d ∷ done) r all = (still_row rs r d all.0, still_all rs done r all.1)

more_rows : (rs done : List Row) (r : Row) → AreRows rs done → IsRow rs r → AreRows rs (done ++ r ∷ [])
more_rows rs [] r all one = (one, tt)
more_rows rs (d ∷ done) r all one = (all.0, more_rows rs done r all.1 one)

pub put_more : (first : Option (List Row)) (done : List Row) (known new : Option (List Row)) (r : Row)
    → PutSoFar first done known → new ≡ with_known (r ∷ []) known → AreKnown (r ∷ []) new
    → PutSoFar first (done ++ r ∷ []) new
put_more None done known new r so_far is one =
    let none : new ≡ None = is ∙ ap (with_known (r ∷ [])) so_far.is in
    record { is = none; there = subst (AreKnown (done ++ r ∷ [])) (sym none) tt }
put_more (Some rs) done known new r so_far is one =
    let now : new ≡ Some (with_row (with_rows rs done) r) = is ∙ ap (with_known (r ∷ [])) so_far.is in
    let all : AreRows (with_rows rs done) done = subst (AreKnown done) so_far.is so_far.there in
    let last : AreKnown (r ∷ []) (Some (with_row (with_rows rs done) r)) = subst (AreKnown (r ∷ [])) now one in
    record {
      is = now ∙ ap Some (sym (rows.law.in_turn rs done (r ∷ [])));
      there = subst (AreKnown (done ++ r ∷ [])) (sym now)
          (more_rows (with_row (with_rows rs done) r) done r (still_all (with_rows rs done) done r all) last.0);
    }

still_rows : (rs more done : List Row) → AreRows rs done → AreRows (with_rows rs more) done
still_rows rs [] done all = all
still_rows rs (r ∷ more) done all = still_rows (with_row rs r) more done (still_all rs done r all)

both_rows : (rs a b : List Row) → AreRows rs a → AreRows rs b → AreRows rs (a ++ b)
both_rows rs [] b first then = then
both_rows rs (x ∷ a) b first then = (first.0, both_rows rs a b first.1 then)

-- some more were put in at once
pub put_some_more : (first : Option (List Row)) (done some : List Row) (known new : Option (List Row))
    → PutSoFar first done known → new ≡ with_known some known → AreKnown some new → PutSoFar first (done ++ some) new
put_some_more None done some known new so_far is there =
    let none : new ≡ None = is ∙ ap (with_known some) so_far.is in
    record { is = none; there = subst (AreKnown (done ++ some)) (sym none) tt }
put_some_more (Some rs) done some known new so_far is there =
    let now : new ≡ Some (with_rows (with_rows rs done) some) = is ∙ ap (with_known some) so_far.is in
    let all : AreRows (with_rows rs done) done = subst (AreKnown done) so_far.is so_far.there in
    let last : AreRows (with_rows (with_rows rs done) some) some = subst (AreKnown some) now there in
    record {
      is = now ∙ ap Some (sym (rows.law.in_turn rs done some));
      there = subst (AreKnown (done ++ some)) (sym now) (both_rows (with_rows (with_rows rs done) some) done some
          (still_rows (with_rows rs done) some done all) last);
    }

pub map_both : (a b : List memory.Row) → rows_of (a ++ b) ≡ rows_of a ++ rows_of b
map_both [] b = refl
map_both (x ∷ a) b = ap (λ (rs : List Row). row_of x ∷ rs) (map_both a b)

pub one_further : (all : List memory.Row) (i : ℕ) (r : memory.Row) → i < length all → r ≡ get_or all i r
    → rows_of (take (i + 1) all) ≡ rows_of (take i all) ++ row_of r ∷ []
one_further all i r within is =
    let next : i + 1 ≡ suc i = omega arith in
    ap (λ (n : ℕ). rows_of (take n all)) next ∙ ap rows_of (take-suc all i r within) ∙ map_both (take i all) (get_or all i r ∷ [])
    ∙ ap (λ (x : memory.Row). rows_of (take i all) ++ row_of x ∷ []) (sym is)
