-- The laws of the relations of respelling, as statements.
use Rattle.std.specs.Prelude.{◌≡◌, ◌≢◌, List, [], ◌∷◌, map, Option, Some, None}
use Rattle.redis_resp.specs.Tree.{Tree, array, map_of_pairs, trees, pairs}
use Rattle.stream_entries.specs.Respelling.{ReadAlike}

-- it holds of equal values
abbrev pub HoldsOfEqual : (Tree → Tree → Type 0) → Type 0
HoldsOfEqual R = (v w : Tree) → v ≡ w → R v w

-- it is symmetric
abbrev pub IsSymmetric : (Tree → Tree → Type 0) → Type 0
IsSymmetric R = (v w : Tree) → R v w → R w v

-- values that it relates read as the same record, or both as none
abbrev pub KeepsRecord : {M : Type 0} → (Tree → Tree → Type 0) → (Tree → Option M) → Type 0
KeepsRecord R reading = (v w : Tree) → R v w → reading v ≡ reading w

-- If two values are alike, their results mean the same. Two records are equal, and if one value has a record the other
-- is not refused.
abbrev pub SameAnswers : {T M : Type 0} → (Tree → Option M) → (T → M) → Tree → Tree → Type 0
SameAnswers {T} reading meaning v w = (a : T) → reading v ≡ Some (meaning a)
    → (reading w ≢ None) × ((b : T) → reading w ≡ Some (meaning b) → meaning a ≡ meaning b)

-- an array of a name and its entries for each stream
abbrev pub rows_of_two : List (Tree × Tree) → Tree
rows_of_two streams = array (trees (map (λ p. array (trees (p.0 ∷ p.1 ∷ []))) streams))

-- the reply of XREAD in RESP2, an array of such rows, and in RESP3, a map from the names to the entries
abbrev pub ProtocolsAreAlike : Type 0
ProtocolsAreAlike = (streams : List (Tree × Tree)) → ReadAlike (rows_of_two streams) (map_of_pairs (pairs streams))
