-- Entries as servers send them, and the values of a reply that hold them.
use Rattle.std.specs.Prelude.{◌≡◌, ◌<◌, ◌^◌, ℕ, pos, List, [], ◌∷◌, map, flat_map, Bool, true, false, Option, Some, None}
use Rattle.std.specs.List.{AllByRecursion}
use Rattle.std.specs.Str.{is_utf8}
use Rattle.redis_resp.specs.Tree.{Tree, nil, int, bulk, array, map_of_pairs, trees, pairs}

-- names and values, in order
abbrev pub Pairs : Type 0
Pairs = List (List ℕ × List ℕ)

-- an id and its fields, None if the entry was deleted; in the claim form also the milliseconds since its
-- last delivery and its delivery count
pub record SentEntry : Type 0 where
  pub id : List ℕ
  pub fields : Option Pairs
  pub delivery : Option (ℕ × ℕ)

-- the name of a stream, and its entries in order
pub record SentStream : Type 0 where
  pub name : List ℕ
  pub entries : List SentEntry

-- the id to continue with, the entries that were claimed, and the ids that are no longer in the stream
pub record SentAutoClaim : Type 0 where
  pub next : List ℕ
  pub claimed : List SentEntry
  pub deleted : List (List ℕ)

-- the fields of an entry, none if it was deleted
abbrev pub fields_of : Option Pairs → Pairs
fields_of None = []
fields_of (Some ps) = ps

-- the fields of all entries, in order
abbrev pub all_fields : List SentEntry → Pairs
all_fields es = flat_map (λ e. fields_of e.fields) es

-- the entries of all streams, in order
abbrev pub all_entries : List SentStream → List SentEntry
all_entries ss = flat_map (λ s. s.entries) ss

-- the fields of all these entries
abbrev pub all_stream_fields : List SentStream → Pairs
all_stream_fields ss = flat_map (λ s. all_fields s.entries) ss

-- whether the option is `None`
abbrev pub is_none : {A : Type 0} → Option A → Bool
is_none None = true
is_none (Some x) = false

-- names and values alternately, as bulk strings
abbrev pub members_of : Pairs → List Tree
members_of [] = []
members_of (p ∷ ps) = bulk p.0 ∷ bulk p.1 ∷ members_of ps

-- the fields of an entry: an array, or nil if it was deleted
abbrev pub fields_tree : Option Pairs → Tree
fields_tree None = nil
fields_tree (Some ps) = array (trees (members_of ps))

-- what the claim form has after the fields
abbrev pub delivery_trees : Option (ℕ × ℕ) → List Tree
delivery_trees None = []
delivery_trees (Some d) = int (pos d.0) ∷ int (pos d.1) ∷ []

-- the row of an entry
abbrev pub row_tree : SentEntry → Tree
row_tree e = array (trees (bulk e.id ∷ fields_tree e.fields ∷ delivery_trees e.delivery))

-- the rows of entries, as XRANGE returns them
abbrev pub rows_tree : List SentEntry → Tree
rows_tree es = array (trees (map row_tree es))

-- a stream of XREAD: its name and its rows
abbrev pub stream_tree : SentStream → Tree
stream_tree s = array (trees (bulk s.name ∷ rows_tree s.entries ∷ []))

-- the same as a pair of a map
abbrev pub stream_pair : SentStream → Tree × Tree
stream_pair s = (bulk s.name, rows_tree s.entries)

-- the reply of XREAD and XREADGROUP: an array of streams, in RESP3 a map of them, or nil
abbrev pub IsReadTree : List SentStream → Tree → Type 0
IsReadTree ss (array ts) = ts ≡ trees (map stream_tree ss)
IsReadTree ss (map_of_pairs ps) = ps ≡ pairs (map stream_pair ss)
IsReadTree ss nil = ss ≡ []
IsReadTree ss _ = ⊥

-- the names of fields are text; values are any bytes
abbrev pub AreTextFields : Option Pairs → Type 0
AreTextFields None = Unit {0}
AreTextFields (Some ps) = AllByRecursion (λ p. is_utf8 p.0 ≡ true) ps

-- entries whose fields have names that are text, as records need them
abbrev pub AreNamed : List SentEntry → Type 0
AreNamed es = AllByRecursion (λ e. AreTextFields e.fields) es

-- streams of such entries
abbrev pub AreAllNamed : List SentStream → Type 0
AreAllNamed ss = AllByRecursion (λ s. AreNamed s.entries) ss

-- an entry whose id and names are text
pub record IsTextEntry (e : SentEntry) : Type 0 where
  pub id : is_utf8 e.id ≡ true
  pub names : AreTextFields e.fields

-- a stream whose name, ids and field names are text
pub record IsTextStream (s : SentStream) : Type 0 where
  pub name : is_utf8 s.name ≡ true
  pub entries : AllByRecursion IsTextEntry s.entries

-- an entry of the form without a delivery
abbrev pub IsStandard : SentEntry → Type 0
IsStandard e = e.delivery ≡ None

-- there are a time and a count, and they fit 64 bits
abbrev pub IsDelivery : Option (ℕ × ℕ) → Type 0
IsDelivery None = ⊥
IsDelivery (Some d) = (d.0 < 2 ^ 64) × (d.1 < 2 ^ 64)

-- an entry of the claim form
abbrev pub IsClaimed : SentEntry → Type 0
IsClaimed e = IsDelivery e.delivery
