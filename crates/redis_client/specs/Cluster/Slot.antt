-- The slot of a key.
use Rattle.std.specs.Prelude.{ℕ, ◌%◌, List, [], ◌∷◌, Option, Some, None}
use Rattle.std.specs.Option.{option_and_then, unwrap_or}
use Rattle.redis_client.specs.Cluster.Crc.{crc16}
use Rattle.redis_client.specs.Cluster.Split.{split_first}

-- a tag of at least one byte
abbrev pub if_any : List ℕ → Option (List ℕ)
if_any [] = None
if_any (b ∷ rest) = Some (b ∷ rest)

-- the part between the first `{` and the first `}` after it
abbrev pub hash_tag : List ℕ → Option (List ℕ)
hash_tag key = option_and_then (λ x. option_and_then (λ y. if_any y.0) (split_first 125 x.1)) (split_first 123 key)

-- the part that the slot depends on: the tag, or else the whole key
abbrev pub hashed : List ℕ → List ℕ
hashed key = unwrap_or (hash_tag key) key

-- the slot of a key, one of 16,384
abbrev pub key_slot : List ℕ → ℕ
key_slot key = crc16 (hashed key) % 16384
