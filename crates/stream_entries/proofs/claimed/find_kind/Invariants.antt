use Rattle.std.proofs.Common.{◌≡◌, map, drop}
use Rattle.redis_resp.specs.Value.{tree}
use Rattle.stream_entries.specs.AutoClaim.{kind_of_items}
use Rattle.stream_entries.proofs.claimed.find_kind.Given as goal

abbrev pub invariant-loop-item : goal.invariant-loop-item
invariant-loop-item l = kind_of_items (map tree (drop l.item-index l.items)) ≡ kind_of_items (map tree l.items)
