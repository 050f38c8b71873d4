-- What the rows that servers send read as.
use Rattle.std.proofs.Common.{◌≡◌, List, ℕ, [], ◌∷◌, map, true, Option, Some, None, refl, ap}
use Rattle.std.specs.List.{AllByRecursion}
use Rattle.std.specs.Str.{is_utf8}
use Rattle.std.specs.FinMap.{from_entries}
use Rattle.redis_resp.specs.Tree.{bulk, two_by_two}
use Rattle.redis_resp.specs.Reading.{traverse}
use Rattle.redis_resp.specs.Table.{entry_reading, table_of, on_values}
use Rattle.redis_resp.proofs.TreeLemmas.{listed_trees}
use Rattle.stream_entries.specs.Entry.{Entry}
use Rattle.redis_resp.proofs.NumberLemmas.{within_true}
use Rattle.stream_entries.specs.Read.{claim_entries}
use Rattle.stream_entries.specs.Rows.{joined, field_reading, standard_entries, entries_reading, rows_reading}
use Rattle.stream_in_place.specs.Sent.{Pairs, SentEntry, members_of, fields_tree, row_tree, rows_tree, AreTextFields}
use Rattle.stream_in_place.specs.Sent.{IsTextEntry, IsStandard, IsDelivery, IsClaimed}
use Rattle.stream_in_place.specs.Copied.{pairs_or_none, copied}
use Rattle.stream_in_place.proofs.AgreeLemmas.{Agrees}

-- the pairs of alternate names and values
pub pairs_of_members : (ps : Pairs) → two_by_two (members_of ps) ≡ Some (map (λ p. (bulk p.0, bulk p.1)) ps)
pairs_of_members [] = refl
pairs_of_members (p ∷ ps) = rw (pairs_of_members ps) refl

pairs_told : (ps : Pairs) → AllByRecursion (λ p. is_utf8 p.0 ≡ true) ps
    → traverse (entry_reading (λ u. Some u)) (map (λ p. (bulk p.0, bulk p.1)) ps) ≡ Some (on_values bulk ps)
pairs_told [] h = refl
pairs_told (p ∷ ps) h = rw (h.0, pairs_told ps h.1) refl

pub fields_read : (o : Option Pairs) → AreTextFields o → field_reading (fields_tree o)
    ≡ Some (from_entries (table_of (on_values bulk (pairs_or_none o))))
fields_read None h = refl
fields_read (Some ps) h = rw (listed_trees (members_of ps), pairs_of_members ps, pairs_told ps h) refl

row_read : (id : List ℕ) (o : Option Pairs) (d : Option (ℕ × ℕ)) → d ≡ None → is_utf8 id ≡ true → AreTextFields o
    → standard_entries (row_tree (record { id = id; fields = o; delivery = d }))
    ≡ Some (copied (record { id = id; fields = o; delivery = d }) ∷ [])
row_read id o d none text names = rw (none, text, fields_read o names) refl

rows_told : (es : List SentEntry) → AllByRecursion IsTextEntry es → AllByRecursion IsStandard es
    → traverse standard_entries (map row_tree es) ≡ Some (map (λ e. copied e ∷ []) es)
rows_told [] h s = refl
rows_told (e ∷ es) h s = rw (row_read e.id e.fields e.delivery s.0 h.0.id h.0.names, rows_told es h.1 s.1) refl

joined_ones : (es : List SentEntry) → joined (map (λ e. copied e ∷ []) es) ≡ map copied es
joined_ones [] = refl
joined_ones (e ∷ es) = ap (λ (xs : List Entry). copied e ∷ xs) (joined_ones es)

-- the claim form of a row: a time and a count at the end, so that its pairs are not fields
no_row : (id : List ℕ) (o : Option Pairs) (d : Option (ℕ × ℕ)) → IsDelivery d → is_utf8 id ≡ true → AreTextFields o
    → standard_entries (row_tree (record { id = id; fields = o; delivery = d })) ≡ None
no_row id o None is text names = absurd is
no_row id o (Some d) is text names = rw (text, fields_read o names) refl

claim_read : (id : List ℕ) (o : Option Pairs) (d : Option (ℕ × ℕ)) → IsDelivery d → is_utf8 id ≡ true
    → AreTextFields o → claim_entries (row_tree (record { id = id; fields = o; delivery = d }))
    ≡ Some (copied (record { id = id; fields = o; delivery = d }) ∷ [])
claim_read id o None is text names = absurd is
claim_read id o (Some d) is text names =
    rw (text, fields_read o names, within_true 64 d.0 is.0, within_true 64 d.1 is.1) refl

claims_told : (es : List SentEntry) → AllByRecursion IsTextEntry es → AllByRecursion IsClaimed es
    → traverse claim_entries (map row_tree es) ≡ Some (map (λ e. copied e ∷ []) es)
claims_told [] h s = refl
claims_told (e ∷ es) h s =
    rw (claim_read e.id e.fields e.delivery s.0 h.0.id h.0.names, claims_told es h.1 s.1) refl

pub claimed_entries : (es : List SentEntry) → AllByRecursion IsTextEntry es → AllByRecursion IsClaimed es
    → entries_reading claim_entries (rows_tree es) ≡ Some (map copied es)
claimed_entries es h s = rw (listed_trees (map row_tree es), claims_told es h s, joined_ones es) refl

pub claimed_standard : (es : List SentEntry) → AllByRecursion IsTextEntry es → AllByRecursion IsClaimed es
    → Agrees (entries_reading standard_entries (rows_tree es)) (map copied es)
claimed_standard [] h s = refl
claimed_standard (e ∷ es) h s = rw (no_row e.id e.fields e.delivery s.0 h.0.id h.0.names) tt

pub range_entries : (es : List SentEntry) → AllByRecursion IsTextEntry es → AllByRecursion IsStandard es
    → entries_reading standard_entries (rows_tree es) ≡ Some (map copied es)
range_entries es h s = rw (listed_trees (map row_tree es), rows_told es h s, joined_ones es) refl

pub range_read : (es : List SentEntry) → AllByRecursion IsTextEntry es → AllByRecursion IsStandard es
    → rows_reading (rows_tree es) ≡ Some (map copied es)
unfolding rows_reading
range_read es h s = range_entries es h s
