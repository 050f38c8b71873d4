-- The keys of the partitions of a stream.
use Rattle.std.specs.Prelude.{◌≡◌, ℕ, ◌<◌, ◌^◌, ◌%◌, List, ◌++◌, codes, decimal}
use Rattle.redis_client.specs.Cluster.Crc.{crc16}
use Rattle.redis_client.specs.Cluster.Slot.{key_slot}
use Rattle.redis_client.specs.Cluster.Split.{Lacks}

-- `:{PARTITION}`
abbrev pub partition_suffix : ℕ → List ℕ
partition_suffix partition = codes ":{" ++ decimal partition ++ codes "}"

-- `NAME:{PARTITION}`
abbrev pub partition_name : List ℕ → ℕ → List ℕ
partition_name name partition = name ++ partition_suffix partition

-- The slot of a partition depends only on its number, if the name has no `{`: the number is the hash tag.
abbrev pub SlotsOfPartitions : Type 0
SlotsOfPartitions = (name : List ℕ) (partition : ℕ) → Lacks 123 name → partition < 2 ^ 16
    → key_slot (partition_name name partition) ≡ crc16 (decimal partition) % 16384
