-- Why a reply was refused as a topology.
use Rattle.std.specs.Prelude.{◌≡◌, List, Bool, true, false, Option, None, IsSomeAnd, ⊤}
use Rattle.std.specs.List.{list_any}
use Rattle.redis_resp.specs.declared.value.error.ParsingError.{ParsingError}
use Rattle.redis_resp.specs.declared.value.error.ParsingError.TheVariants as parsing
use Rattle.redis_client.specs.declared.topology.error.TopologyError.{TopologyError}
use Rattle.redis_client.specs.declared.topology.error.TopologyError.TheVariants.{NotSlots, SlotPastLast, Reversed, Overlap, Memory}
use Rattle.redis_client.specs.declared.topology.range.SlotRange.{SlotRange}
use Rattle.redis_client.specs.Topology.Topology.{Shard, ranges_in, is_past, is_reversed, all_apart}

-- an allocation failed, or the value is not such a reply
abbrev pub cause_of : ParsingError → TopologyError
cause_of parsing.Memory = Memory
cause_of _ = NotSlots

-- why the ranges cannot be those of one cluster
abbrev pub FitsNot : List SlotRange → TopologyError → Type 0
FitsNot rs NotSlots = ⊥
FitsNot rs SlotPastLast = list_any is_past rs ≡ true
FitsNot rs Reversed = list_any is_reversed rs ≡ true
FitsNot rs Overlap = all_apart rs ≡ false
FitsNot rs Memory = ⊤

-- why a reply is refused: it cannot be read, or its ranges cannot be those of one cluster, or an allocation failed
abbrev pub IsRefused : Option (List Shard) → TopologyError → Type 0
IsRefused reply NotSlots = reply ≡ None
IsRefused reply SlotPastLast = IsSomeAnd reply (λ shards. FitsNot (ranges_in shards) SlotPastLast)
IsRefused reply Reversed = IsSomeAnd reply (λ shards. FitsNot (ranges_in shards) Reversed)
IsRefused reply Overlap = IsSomeAnd reply (λ shards. FitsNot (ranges_in shards) Overlap)
IsRefused reply Memory = ⊤
