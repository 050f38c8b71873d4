-- The texts of errors that concern the cluster.
use Rattle.std.specs.Prelude.{◌≡◌, ℕ, ◌<◌, ◌^◌, if◌then◌else◌, List, ◌∷◌, ◌++◌, codes, decimal, Option, Some, None}
use Rattle.std.specs.Option.{option_map, unwrap_or}
use Rattle.std.specs.Str.{bytes_eq}
use Rattle.redis_client.specs.Cluster.Split.{split_first}

-- a slot, and the address of the node that serves it
pub record Place : Type 0 where
  pub slot : ℕ
  pub host : List ℕ
  pub port : ℕ

-- an error that names no node
pub data Other : Type 0 where
  try_again : Other
  cluster_down : Other
  loading : Other
  master_down : Other
  read_only : Other
  no_replicas : Other

-- the meaning of an error
pub data Meaning : Type 0 where
  moved : Place → Meaning
  ask : Place → Meaning
  other : Other → Meaning

-- a slot of a cluster, a port that can be connected to, and a host with no space in it, which may be empty
abbrev pub IsPlace : Place → Type 0
IsPlace p = (p.slot < 16384) × (0 < p.port) × (p.port < 2 ^ 16) × (split_first 32 p.host ≡ None)

-- `SLOT HOST:PORT`
abbrev pub place_text : Place → List ℕ
place_text p = decimal p.slot ++ 32 ∷ (p.host ++ 58 ∷ decimal p.port)

-- the part before the first space, or all if there is none
abbrev pub code_of : List ℕ → List ℕ
code_of text = unwrap_or (option_map (λ x. x.0) (split_first 32 text)) text

-- the errors that are recognized by their code alone, whatever follows it
unfoldable pub other_of : List ℕ → Option Other
other_of code = if bytes_eq code (codes "TRYAGAIN") then Some try_again
    else if bytes_eq code (codes "CLUSTERDOWN") then Some cluster_down
    else if bytes_eq code (codes "LOADING") then Some loading
    else if bytes_eq code (codes "MASTERDOWN") then Some master_down
    else if bytes_eq code (codes "READONLY") then Some read_only
    else if bytes_eq code (codes "NOREPLICAS") then Some no_replicas
    else None

-- the text is an error with this meaning
abbrev pub Says : Meaning → List ℕ → Type 0
Says (moved p) text = IsPlace p × (text ≡ codes "MOVED " ++ place_text p)
Says (ask p) text = IsPlace p × (text ≡ codes "ASK " ++ place_text p)
Says (other o) text = other_of (code_of text) ≡ Some o

-- the meaning of a text; none exactly if the text has no meaning of this kind
abbrev pub IsReadFrom : List ℕ → Option Meaning → Type 0
IsReadFrom text (Some m) = Says m text
IsReadFrom text None = (m : Meaning) → ¬ Says m text

-- the slot and address in the bytes; none exactly if there is none
abbrev pub IsPlaceIn : List ℕ → Option Place → Type 0
IsPlaceIn bytes (Some p) = IsPlace p × (bytes ≡ place_text p)
IsPlaceIn bytes None = (p : Place) → IsPlace p → ¬ (bytes ≡ place_text p)

-- no text has two meanings
abbrev pub SentencesTell : Type 0
SentencesTell = (a b : Meaning) (text : List ℕ) → Says a text → Says b text → a ≡ b
