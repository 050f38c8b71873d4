-- Which values spell the same reply. Each relation here also holds of equal values.
use Rattle.std.specs.Prelude.{◌≡◌, ◌⊎◌, List, [], ◌∷◌, Bool, true, false, Option, Some}
use Rattle.std.specs.Option.{is_some}
use Rattle.redis_resp.specs.Tree.{Tree, array, map_of_pairs, items, pairs_in, array_of_plain}
use Rattle.redis_resp.specs.Reading.{four_in}
use Rattle.stream_entries.specs.Read.{standard_reading}

-- of equal length, and alike element by element
abbrev pub Alike : {A : Type 0} → (A → A → Type 0) → List A → List A → Type 0
Alike R [] [] = Unit {0}
Alike R (x ∷ xs) (y ∷ ys) = R x y × Alike R xs ys
Alike R _ _ = ⊥

-- both are `Some`, and alike
abbrev pub BothAlike : {A : Type 0} → (A → A → Type 0) → Option A → Option A → Type 0
BothAlike R (Some x) (Some y) = R x y
BothAlike R _ _ = ⊥

-- the same pairs, however they are spelled
abbrev pub FieldsAlike : Tree → Tree → Type 0
FieldsAlike v w = (v ≡ w) ⊎ BothAlike (λ ps qs. ps ≡ qs) (pairs_in v) (pairs_in w)

-- equal keys, and values that are alike
abbrev pub PairAlike : (Tree → Tree → Type 0) → Tree × Tree → Tree × Tree → Type 0
PairAlike R p q = (p.0 ≡ q.0) × R p.1 q.1

-- as many pairs, in order with equal keys and values that are alike
abbrev pub TablesAlike : (Tree → Tree → Type 0) → Tree → Tree → Type 0
TablesAlike R v w = (v ≡ w) ⊎ BothAlike (Alike (PairAlike R)) (pairs_in v) (pairs_in w)

-- as many items, alike one by one
abbrev pub ListsAlike : (Tree → Tree → Type 0) → Tree → Tree → Type 0
ListsAlike R v w = (v ≡ w) ⊎ BothAlike (Alike R) (items v) (items w)

-- the same ids, each with the same fields
abbrev pub RowsAlike : Tree → Tree → Type 0
RowsAlike v w = TablesAlike FieldsAlike v w

-- a respelling of a reply of XRANGE or XREVRANGE
abbrev pub RangeAlike : Tree → Tree → Type 0
RangeAlike v w = ListsAlike RowsAlike v w

-- a respelling of a reply of XCLAIM
abbrev pub ClaimAlike : Tree → Tree → Type 0
ClaimAlike v w = ListsAlike RowsAlike v w

-- four elements each: the second are fields that are alike, the others are equal
abbrev pub FourAlike : Tree × Tree × Tree × Tree → Tree × Tree × Tree × Tree → Type 0
FourAlike p q = (p.0 ≡ q.0) × FieldsAlike p.1 q.1 × (p.2 ≡ q.2) × (p.3 ≡ q.3)

-- two entries of the claim form: arrays of four
abbrev pub DeliveriesAlike : Tree → Tree → Type 0
DeliveriesAlike v w = (v ≡ w) ⊎ BothAlike FourAlike (four_in v) (four_in w)

-- two entries of a read reply that has the standard form, and of one that does not
abbrev pub EntriesAlike : Bool → Tree → Tree → Type 0
EntriesAlike true v w = RowsAlike v w
EntriesAlike false v w = DeliveriesAlike v w

-- streams by name, each with a list of entries
abbrev pub StreamsAlike : (Tree → Tree → Type 0) → Tree → Tree → Type 0
StreamsAlike R v w = ListsAlike (TablesAlike (ListsAlike R)) v w

-- a respelling of a reply of XREAD or XREADGROUP
abbrev pub ReadAlike : Tree → Tree → Type 0
ReadAlike v w = StreamsAlike (EntriesAlike (is_some (standard_reading v))) v w

-- an array, with no attribute around it
abbrev pub IsArray : Tree → Type 0
IsArray (array ts) = Unit {0}
IsArray _ = ⊥

-- a map, with no attribute around it
abbrev pub IsMap : Tree → Type 0
IsMap (map_of_pairs ps) = Unit {0}
IsMap _ = ⊥

-- two items of an automatic claim's list: rows that are both arrays or both maps
abbrev pub ClaimedAlike : Tree → Tree → Type 0
ClaimedAlike v w = (v ≡ w) ⊎ (RowsAlike v w × ((IsArray v × IsArray w) ⊎ (IsMap v × IsMap w)))

-- arrays with no attribute around them, alike by the relation
abbrev pub ArraysAlike : (List Tree → List Tree → Type 0) → Tree → Tree → Type 0
ArraysAlike R v w = (v ≡ w) ⊎ BothAlike R (array_of_plain v) (array_of_plain w)

-- of equal length, and equal except for the second element, of which the relation holds
abbrev pub AlikeAtSecond : (Tree → Tree → Type 0) → List Tree → List Tree → Type 0
AlikeAtSecond R (x ∷ v ∷ xs) (y ∷ w ∷ ys) = (x ≡ y) × R v w × (xs ≡ ys)
AlikeAtSecond R xs ys = xs ≡ ys

-- a respelling of a reply of XAUTOCLAIM: its list of claimed entries is the second item
abbrev pub AutoclaimAlike : Tree → Tree → Type 0
AutoclaimAlike v w = ArraysAlike (AlikeAtSecond (ArraysAlike (Alike ClaimedAlike))) v w
