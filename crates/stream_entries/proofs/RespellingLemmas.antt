-- What a respelling keeps.
use Rattle.std.proofs.Common.{◌≡◌, inl, inr, List, [], ◌∷◌, Bool, true, false, Option, Some, None, option_map}
use Rattle.std.proofs.Common.{option_and_then, refl, sym, ◌∙◌, ap, subst, map}
use Rattle.std.proofs.lemmas.Option.{same_Some}
use Rattle.std.specs.Option.{is_some, option_or}
use Rattle.std.specs.FinMap.{from_entries}
use Rattle.redis_resp.specs.Tree.{Tree, array, map_of_pairs, trees, pairs, single, list_of_pairs, plain, items}
use Rattle.redis_resp.specs.Tree.{pairs_in, pairs_of_plain, two_by_two, list_of_trees, array_of_plain, exactly_four}
use Rattle.redis_resp.specs.Text.{text_reading}
use Rattle.redis_resp.specs.Number.{unsigned_reading}
use Rattle.redis_resp.specs.Reading.{traverse, list_reading, option_reading, four_in, four_of}
use Rattle.redis_resp.specs.Table.{Fields, entry_reading, table_reading, table_of}
use Rattle.redis_resp.proofs.TreeLemmas.{listed_trees, listed_pairs}
use Rattle.stream_entries.specs.Entry.{Entry, entry_of}
use Rattle.stream_entries.specs.Rows.{joined, field_reading, standard_entries, entries_reading, rows_reading}
use Rattle.stream_entries.specs.Read.{Delivery, delivered_entry, claim_entries, Streams, streams_reading}
use Rattle.stream_entries.specs.Read.{standard_reading, claim_reading, read_reading}
use Rattle.stream_entries.specs.Respelling.{Alike, BothAlike, FieldsAlike, PairAlike, TablesAlike, ListsAlike}
use Rattle.stream_entries.specs.Respelling.{RowsAlike, RangeAlike, ClaimAlike, FourAlike, DeliveriesAlike, EntriesAlike}
use Rattle.stream_entries.specs.Respelling.{StreamsAlike, ReadAlike}
use Rattle.stream_entries.specs.RespellingLaws.{HoldsOfEqual, IsSymmetric, KeepsRecord, SameAnswers, rows_of_two}
use Rattle.stream_entries.specs.RespellingLaws.{ProtocolsAreAlike}

-- Relations in the other direction.

pub alike_back : {A : Type 0} (R S : A → A → Type 0) → ((x y : A) → R x y → S y x) → (xs ys : List A) → Alike R xs ys
    → Alike S ys xs
alike_back R S h [] [] a = tt
alike_back R S h [] (y ∷ ys) a = absurd a
alike_back R S h (x ∷ xs) [] a = absurd a
alike_back R S h (x ∷ xs) (y ∷ ys) a = (h x y a.0, alike_back R S h xs ys a.1)

pub both_back : {A : Type 0} (R S : A → A → Type 0) → ((x y : A) → R x y → S y x) → (o p : Option A) → BothAlike R o p
    → BothAlike S p o
both_back R S h None p a = absurd a
both_back R S h (Some x) None a = absurd a
both_back R S h (Some x) (Some y) a = h x y a

fields_back : IsSymmetric FieldsAlike
fields_back v w (inl e) = inl (sym e)
fields_back v w (inr a) =
    inr (both_back (λ ps qs. ps ≡ qs) (λ ps qs. ps ≡ qs) (λ ps qs e. sym e) (pairs_in v) (pairs_in w) a)

tables_back : (R : Tree → Tree → Type 0) → IsSymmetric R → IsSymmetric (TablesAlike R)
tables_back R h v w (inl e) = inl (sym e)
tables_back R h v w (inr a) =
    inr
    (both_back (Alike (PairAlike R)) (Alike (PairAlike R))
    (alike_back (PairAlike R) (PairAlike R) (λ p q r. (sym r.0, h p.1 q.1 r.1))) (pairs_in v) (pairs_in w) a)

lists_back : (R : Tree → Tree → Type 0) → IsSymmetric R → IsSymmetric (ListsAlike R)
lists_back R h v w (inl e) = inl (sym e)
lists_back R h v w (inr a) = inr (both_back (Alike R) (Alike R) (alike_back R R h) (items v) (items w) a)

pub rows_back : IsSymmetric RowsAlike
rows_back v w a = tables_back FieldsAlike fields_back v w a

pub range_back : IsSymmetric RangeAlike
range_back v w a = lists_back RowsAlike rows_back v w a

deliveries_back : IsSymmetric DeliveriesAlike
deliveries_back v w (inl e) = inl (sym e)
deliveries_back v w (inr a) =
    inr
    (both_back FourAlike FourAlike (λ p q e. (sym e.0, fields_back p.1 q.1 e.1, sym e.2, sym e.3)) (four_in v)
    (four_in w) a)

entries_back : (standard : Bool) → IsSymmetric (EntriesAlike standard)
entries_back true v w a = rows_back v w a
entries_back false v w a = deliveries_back v w a

streams_back : (R : Tree → Tree → Type 0) → IsSymmetric R → IsSymmetric (StreamsAlike R)
streams_back R h v w a = lists_back (TablesAlike (ListsAlike R)) (tables_back (ListsAlike R) (lists_back R h)) v w a

-- Readings of values that are alike.

pub traverse_alike : {A M : Type 0} (R : A → A → Type 0) (f : A → Option M) → ((x y : A) → R x y → f x ≡ f y)
    → (xs ys : List A) → Alike R xs ys → traverse f xs ≡ traverse f ys
traverse_alike R f h [] [] a = refl
traverse_alike R f h [] (y ∷ ys) a = absurd a
traverse_alike R f h (x ∷ xs) [] a = absurd a
traverse_alike R f h (x ∷ xs) (y ∷ ys) a = rw (h x y a.0, traverse_alike R f h xs ys a.1) refl

pub both_then : {A B : Type 0} (R : A → A → Type 0) (f : A → Option B) → ((x y : A) → R x y → f x ≡ f y)
    → (o p : Option A) → BothAlike R o p → option_and_then f o ≡ option_and_then f p
both_then R f h None p a = absurd a
both_then R f h (Some x) None a = absurd a
both_then R f h (Some x) (Some y) a = h x y a

-- a reading that respects a relation, on lists and tables alike by it
list_alike : {M : Type 0} (R : Tree → Tree → Type 0) (f : Tree → Option M) → KeepsRecord R f
    → KeepsRecord (ListsAlike R) (list_reading f)
list_alike R f h v w (inl e) = ap (list_reading f) e
list_alike R f h v w (inr a) = both_then (Alike R) (traverse f) (traverse_alike R f h) (items v) (items w) a

table_alike : {M : Type 0} (R : Tree → Tree → Type 0) (f : Tree → Option M) → KeepsRecord R f
    → KeepsRecord (TablesAlike R) (table_reading f)
table_alike R f h v w (inl e) = ap (table_reading f) e
table_alike R f h v w (inr a) =
    ap (option_map table_of) (both_then (Alike (PairAlike R)) (traverse (entry_reading f))
    (traverse_alike (PairAlike R) (entry_reading f) (λ p q r. rw (r.0, h p.1 q.1 r.1) refl)) (pairs_in v)
    (pairs_in w) a)

abbrev fields_of_pairs : Option (List (Tree × Tree)) → Option (Fields Tree)
fields_of_pairs o = option_map from_entries
    (option_map table_of (option_and_then (traverse (entry_reading (λ u. Some u))) o))

same_pairs : (o p : Option (List (Tree × Tree))) → BothAlike (λ ps qs. ps ≡ qs) o p
    → fields_of_pairs o ≡ fields_of_pairs p
same_pairs None p e = absurd e
same_pairs (Some ps) None e = absurd e
same_pairs (Some ps) (Some qs) e = ap (λ rs. fields_of_pairs (Some rs)) e

pub fields_alike : KeepsRecord FieldsAlike field_reading
fields_alike v w (inl e) = ap field_reading e
fields_alike v w (inr a) = same_pairs (pairs_in v) (pairs_in w) a

pub standard_alike : KeepsRecord RowsAlike standard_entries
standard_alike v w a = ap (option_map (map entry_of)) (table_alike FieldsAlike field_reading fields_alike v w a)

pub rows_alike : KeepsRecord (ListsAlike RowsAlike) rows_reading
unfolding rows_reading
rows_alike v w a = ap (option_map joined) (list_alike RowsAlike standard_entries standard_alike v w a)

streams_alike : (R : Tree → Tree → Type 0) (form : Tree → Option (List Entry)) → KeepsRecord R form
    → KeepsRecord (StreamsAlike R) (streams_reading form)
streams_alike R form h v w a = ap (option_map joined)
    (list_alike (TablesAlike (ListsAlike R)) (table_reading (entries_reading form))
    (table_alike (ListsAlike R) (entries_reading form)
    (λ x y b. ap (option_map joined) (list_alike R form h x y b))) v w a)

-- The claim form's entries, arrays of four, are alike in either form.

abbrev two_pairs : Tree × Tree × Tree × Tree → List (Tree × Tree)
two_pairs q = (q.0, q.1) ∷ (q.2, q.3) ∷ []

two_pairs_of : (ts : List Tree) (q : Tree × Tree × Tree × Tree) → exactly_four ts ≡ Some q
    → two_by_two ts ≡ Some (two_pairs q)
two_pairs_of (a ∷ b ∷ c ∷ d ∷ []) q e = ap (λ r. Some (two_pairs r)) (same_Some _ _ e)
two_pairs_of _ q e = cc

pairs_of_four : (u : Tree) (q : Tree × Tree × Tree × Tree) → option_and_then exactly_four (array_of_plain u) ≡ Some q
    → pairs_of_plain u ≡ Some (two_pairs q)
pairs_of_four (array us) q e = two_pairs_of (list_of_trees us) q e
pairs_of_four _ q e = cc

-- an array of four in the standard form: two pairs
abbrev pub standard_of : Tree × Tree × Tree × Tree → Option (List Entry)
standard_of q = option_map (map entry_of) (option_map table_of (traverse (entry_reading field_reading) (two_pairs q)))

pub standard_of_four : (t : Tree) (q : Tree × Tree × Tree × Tree) → four_in t ≡ Some q
    → standard_entries t ≡ standard_of q
standard_of_four t q e =
    ap
    (λ o. option_map (map entry_of) (option_map table_of (option_and_then (traverse (entry_reading field_reading)) o)))
    (pairs_of_four (plain t) q e)

-- and in the claim form
abbrev pub delivery_of : Tree × Tree × Tree × Tree → Option Delivery
delivery_of q = four_of text_reading field_reading (option_reading (unsigned_reading 64))
    (option_reading (unsigned_reading 64)) q

four_standard : (p q : Tree × Tree × Tree × Tree) → FourAlike p q → standard_of p ≡ standard_of q
four_standard p q e = rw (e.0, fields_alike p.1 q.1 e.1, e.2, e.3) refl

four_delivery : (p q : Tree × Tree × Tree × Tree) → FourAlike p q → delivery_of p ≡ delivery_of q
four_delivery p q e = rw (e.0, fields_alike p.1 q.1 e.1, e.2, e.3) refl

deliveries_claim : KeepsRecord DeliveriesAlike claim_entries
deliveries_claim v w (inl e) = ap claim_entries e
deliveries_claim v w (inr a) = ap (option_map (λ d. delivered_entry d ∷ []))
    (both_then FourAlike delivery_of four_delivery (four_in v) (four_in w) a)

deliveries_standard : KeepsRecord DeliveriesAlike standard_entries
deliveries_standard v w (inl e) = ap standard_entries e
deliveries_standard v w (inr a) = by (four_in v) (four_in w) refl refl a
  where
    by : (o p : Option (Tree × Tree × Tree × Tree)) → four_in v ≡ o → four_in w ≡ p → BothAlike FourAlike o p
        → standard_entries v ≡ standard_entries w
    by None p e f b = absurd b
    by (Some r) None e f b = absurd b
    by (Some r) (Some s) e f b = standard_of_four v r e ∙ four_standard r s b ∙ sym (standard_of_four w s f)

entries_standard : (standard : Bool) → KeepsRecord (EntriesAlike standard) standard_entries
entries_standard true v w a = standard_alike v w a
entries_standard false v w a = deliveries_standard v w a

-- in whichever form the entries are alike, the standard record is the same, or there is none in both
pub read_standard : KeepsRecord ReadAlike standard_reading
unfolding standard_reading
read_standard v w a = streams_alike (EntriesAlike (is_some (standard_reading v))) standard_entries
    (entries_standard (is_some (standard_reading v))) v w a

claim_alike : KeepsRecord (StreamsAlike DeliveriesAlike) claim_reading
unfolding claim_reading
claim_alike v w a = streams_alike DeliveriesAlike claim_entries deliveries_claim v w a

-- The laws.

pub range_respells : KeepsRecord RangeAlike rows_reading
range_respells v w a = rows_alike v w a

pub range_of_equal : HoldsOfEqual RangeAlike
range_of_equal v w e = inl e

pub claim_respells : KeepsRecord ClaimAlike rows_reading
claim_respells v w a = rows_alike v w a

pub claim_of_equal : HoldsOfEqual ClaimAlike
claim_of_equal v w e = inl e

pub claim_back : IsSymmetric ClaimAlike
claim_back v w a = range_back v w a

pub read_respells : KeepsRecord ReadAlike read_reading
read_respells v w a = by (standard_reading v) refl
  where
    by : (o : Option Streams) → standard_reading v ≡ o → read_reading v ≡ read_reading w
    by (Some r) e = ap (λ o. option_or o (claim_reading v)) e ∙ sym
        (ap (λ o. option_or o (claim_reading w)) (sym (read_standard v w a) ∙ e))
    by None e =
        let claims : StreamsAlike DeliveriesAlike v w =
        subst (λ q. StreamsAlike (EntriesAlike q) v w) (ap is_some e) a in
        ap (λ o. option_or o (claim_reading v)) e ∙ claim_alike v w claims
        ∙ sym (ap (λ o. option_or o (claim_reading w)) (sym (read_standard v w a) ∙ e))

pub read_of_equal : HoldsOfEqual ReadAlike
read_of_equal v w e = inl e

pub read_back : IsSymmetric ReadAlike
read_back v w a = subst (λ q. StreamsAlike (EntriesAlike q) w v) (ap is_some (read_standard v w a))
    (streams_back (EntriesAlike (is_some (standard_reading v))) (entries_back (is_some (standard_reading v))) v w a)

-- RESP2 and RESP3 spell the streams of a read alike.

row_of_two : (R : Tree → Tree → Type 0) (p : Tree × Tree)
    → TablesAlike (ListsAlike R) (array (trees (p.0 ∷ p.1 ∷ []))) (single p)
row_of_two R p = inr ((refl, inl refl), tt)

rows_alike_each : (R : Tree → Tree → Type 0) (ps : List (Tree × Tree))
    → Alike (TablesAlike (ListsAlike R)) (map (λ p. array (trees (p.0 ∷ p.1 ∷ []))) ps) (map single ps)
rows_alike_each R [] = tt
rows_alike_each R (p ∷ ps) = (row_of_two R p, rows_alike_each R ps)

streams_of_two : (R : Tree → Tree → Type 0) (ps : List (Tree × Tree))
    → StreamsAlike R (rows_of_two ps) (map_of_pairs (pairs ps))
streams_of_two R ps =
    inr (subst (λ xs. Alike (TablesAlike (ListsAlike R)) xs (map single (list_of_pairs (pairs ps))))
    (sym (listed_trees (map (λ p. array (trees (p.0 ∷ p.1 ∷ []))) ps)))
    (subst (λ qs. Alike (TablesAlike (ListsAlike R)) (map (λ p. array (trees (p.0 ∷ p.1 ∷ []))) ps) (map single qs))
    (sym (listed_pairs ps)) (rows_alike_each R ps)))

pub protocols_alike : ProtocolsAreAlike
protocols_alike ps = streams_of_two (EntriesAlike (is_some (standard_reading (rows_of_two ps)))) ps

pub ruleset range_laws = (range_respells, range_of_equal, range_back)

pub ruleset claim_laws = (claim_respells, claim_of_equal, claim_back)

pub ruleset read_laws = (read_respells, read_standard, read_of_equal, read_back, protocols_alike)

-- For a caller that knows two values to be alike: the records of both mean the same, and if one has a record the
-- other is not refused.
pub same_answers : {T M : Type 0} (R : Tree → Tree → Type 0) (reading : Tree → Option M) (meaning : T → M)
    → KeepsRecord R reading → (v w : Tree) → R v w → SameAnswers reading meaning v w
same_answers R reading meaning keeps v w alike a is = let there = sym (keeps v w alike) ∙ is in (
  λ none. let gone : None ≡ Some (meaning a) = sym none ∙ there in cc,
  λ b also. same_Some (meaning a) (meaning b) (sym there ∙ also),
)
