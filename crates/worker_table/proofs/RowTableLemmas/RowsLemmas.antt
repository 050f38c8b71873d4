-- Rows that are put in.
use Rattle.std.proofs.Common.{◌≡◌, ◌∙◌, refl, sym, ap, subst, Bool, true, false, true≢false, eq-eqb, ◌&&◌, ◌==◌, List, [], ◌∷◌, ◌++◌}
use Rattle.std.proofs.Common.{Option, Some, None, is_some, IsSome, IfSome, if◌then◌else◌, append_assoc, append-nil}
use Rattle.std.proofs.lemmas.Bool.{eqb-true}
use Rattle.std.proofs.lemmas.Option.{none-some}
use Rattle.worker_table.specs.RowTable.Laws.{RowsArePutIn}
use Rattle.worker_table.specs.RowTable.Rows.{Cell, Key, Row, same_key, find, with_row, with_rows, KeysApart, BeginsWith}

-- ---- keys

pub both_true : (a b : Bool) → a && b ≡ true → (a ≡ true) × (b ≡ true)
both_true true b h = (refl, h)
both_true false b h = absurd (true≢false (sym h))

pub same_self : (k : Key) → same_key k k ≡ true
same_self k = rw (eq-eqb k.0 k.0 refl, eq-eqb k.1 k.1 refl) refl

turned : (a b : Key) → same_key b a ≡ true → same_key a b ≡ true
turned a b h =
    let both = both_true (b.0 == a.0) (b.1 == a.1) h in
    rw (eq-eqb a.0 b.0 (sym (eqb-true b.0 a.0 both.0)), eq-eqb a.1 b.1 (sym (eqb-true b.1 a.1 both.1))) refl

other_way : (a b : Key) → same_key a b ≡ false → same_key b a ≡ false
other_way a b differ = by (same_key b a) refl
  where
    by : (t : Bool) → same_key b a ≡ t → same_key b a ≡ false
    by true e = absurd (true≢false (sym (turned a b e) ∙ differ))
    by false e = e

-- ---- what is found

-- before others
front_step : (b : Bool) (text other : List Cell) (o more : Option (List Cell)) → (o ≡ Some text → more ≡ Some text)
    → (if b then Some other else o) ≡ Some text → (if b then Some other else more) ≡ Some text
front_step true text other o more on h = h
front_step false text other o more on h = on h

pub found_front : (rows more : List Row) (k : Key) (text : List Cell) → find k rows ≡ Some text
    → find k (rows ++ more) ≡ Some text
found_front [] more k text h = absurd (none-some text h)
found_front (r ∷ rs) more k text h =
    front_step (same_key r.0 k) text r.1 (find k rs) (find k (rs ++ more)) (found_front rs more k text) h

-- after others
behind_step : (b : Bool) (text other : List Cell) (o more : Option (List Cell)) → (o ≡ None → more ≡ Some text)
    → (if b then Some other else o) ≡ None → (if b then Some other else more) ≡ Some text
behind_step true text other o more on h = absurd (none-some other (sym h))
behind_step false text other o more on h = on h

pub found_behind : (rows : List Row) (r : Row) → find r.0 rows ≡ None → find r.0 (rows ++ r ∷ []) ≡ Some r.1
found_behind [] r h = rw (same_self r.0) refl
found_behind (x ∷ xs) r h = behind_step (same_key x.0 r.0) r.1 x.1 (find r.0 xs) (find r.0 (xs ++ r ∷ []))
    (found_behind xs r) h

-- and what is not
none_step : (b : Bool) (other : List Cell) (o more : Option (List Cell)) → (o ≡ None → more ≡ None)
    → (if b then Some other else o) ≡ None → (if b then Some other else more) ≡ None
none_step true other o more on h = h
none_step false other o more on h = on h

not_there : (rows : List Row) (r : Row) (k : Key) → same_key r.0 k ≡ false → find k rows ≡ None
    → find k (rows ++ r ∷ []) ≡ None
not_there [] r k differ h = rw differ refl
not_there (x ∷ xs) r k differ h =
    none_step (same_key x.0 k) x.1 (find k xs) (find k (xs ++ r ∷ [])) (not_there xs r k differ) h

-- ---- one row

row_stays : (rows : List Row) (r : Row) (k : Key) (text : List Cell) → find k rows ≡ Some text
    → find k (with_row rows r) ≡ Some text
row_stays rows r k text h = by (is_some (find r.0 rows))
  where
    by : (b : Bool) → find k (if b then rows else rows ++ r ∷ []) ≡ Some text
    by true = h
    by false = found_front rows (r ∷ []) k text h

row_front : (rows : List Row) (r : Row) → BeginsWith rows (with_row rows r)
row_front rows r = by (is_some (find r.0 rows))
  where
    by : (b : Bool) → BeginsWith rows (if b then rows else rows ++ r ∷ [])
    by true = ([], sym (append-nil rows))
    by false = (r ∷ [], refl)

apart_step : (b : Bool) (other : List Cell) (o : Option (List Cell)) → (if b then Some other else o) ≡ None
    → (b ≡ false) × (o ≡ None)
apart_step true other o h = absurd (none-some other (sym h))
apart_step false other o h = (refl, h)

apart_more : (rows : List Row) (r : Row) → KeysApart rows → find r.0 rows ≡ None → KeysApart (rows ++ r ∷ [])
apart_more [] r apart h = (refl, tt)
apart_more (x ∷ xs) r apart h =
    let other = apart_step (same_key x.0 r.0) x.1 (find r.0 xs) h in
    (not_there xs r x.0 (other_way x.0 r.0 other.0) apart.0, apart_more xs r apart.1 other.1)

row_apart : (rows : List Row) (r : Row) → KeysApart rows → KeysApart (with_row rows r)
row_apart rows r apart = by (find r.0 rows) refl
  where
    by : (o : Option (List Cell)) → find r.0 rows ≡ o → KeysApart (if is_some o then rows else rows ++ r ∷ [])
    by None e = apart_more rows r apart e
    by (Some text) e = apart

row_there : (rows : List Row) (r : Row) → IsSome (find r.0 (with_row rows r))
row_there rows r = by (find r.0 rows) refl
  where
    by : (o : Option (List Cell)) → find r.0 rows ≡ o → IsSome (find r.0 (if is_some o then rows else rows ++ r ∷ []))
    by None e = subst IsSome (sym (found_behind rows r e)) refl
    by (Some text) e = subst IsSome (sym e) refl

-- ---- all of them

stays : (rows more : List Row) (k : Key) (text : List Cell) → find k rows ≡ Some text
    → find k (with_rows rows more) ≡ Some text
stays rows [] k text h = h
stays rows (r ∷ more) k text h = stays (with_row rows r) more k text (row_stays rows r k text h)

pub begins_then : (a b c : List Row) → BeginsWith a b → BeginsWith b c → BeginsWith a c
begins_then a b c x y = (x.0 ++ y.0, y.1 ∙ ap (λ (rs : List Row). rs ++ y.0) x.1 ∙ append_assoc a x.0 y.0)

in_front : (rows more : List Row) → BeginsWith rows (with_rows rows more)
in_front rows [] = ([], sym (append-nil rows))
in_front rows (r ∷ more) =
    begins_then rows (with_row rows r) (with_rows (with_row rows r) more) (row_front rows r)
    (in_front (with_row rows r) more)

apart_all : (rows more : List Row) → KeysApart rows → KeysApart (with_rows rows more)
apart_all rows [] apart = apart
apart_all rows (r ∷ more) apart = apart_all (with_row rows r) more (row_apart rows r apart)

some_stays : (k : Key) (rows more : List Row) → IsSome (find k rows) → IsSome (find k (with_rows rows more))
some_stays k rows more = by (find k rows) refl
  where
    by : (o : Option (List Cell)) → find k rows ≡ o → IsSome o → IsSome (find k (with_rows rows more))
    by None e h = absurd (true≢false (sym h))
    by (Some text) e h = subst IsSome (sym (stays rows more k text e)) refl

in_turn : (rows a b : List Row) → with_rows rows (a ++ b) ≡ with_rows (with_rows rows a) b
in_turn rows [] b = refl
in_turn rows (r ∷ a) b = in_turn (with_row rows r) a b

pub there : (rows before : List Row) (r : Row) (behind : List Row)
    → IsSome (find r.0 (with_rows rows (before ++ r ∷ behind)))
there rows before r behind = subst (λ (rs : List Row). IsSome (find r.0 rs)) (sym (in_turn rows before (r ∷ behind)))
    (some_stays r.0 (with_row (with_rows rows before) r) behind (row_there (with_rows rows before) r))

pub law : RowsArePutIn
law = record { stays = stays; in_front = in_front; apart = apart_all; there = there; in_turn = in_turn }

pub is_row_now : (rows : List Row) (r : Row) → is_some (find r.0 rows) ≡ false → find r.0 (with_row rows r) ≡ Some r.1
is_row_now rows r = by (find r.0 rows) refl
  where
    by : (o : Option (List Cell)) → find r.0 rows ≡ o → is_some o ≡ false
        → find r.0 (if is_some o then rows else rows ++ r ∷ []) ≡ Some r.1
    by None e none = found_behind rows r e
    by (Some text) e none = absurd (true≢false none)

pub still_row : (rows : List Row) (r other : Row) → find other.0 rows ≡ Some other.1
    → find other.0 (with_row rows r) ≡ Some other.1
still_row rows r other h = row_stays rows r other.0 other.1 h
