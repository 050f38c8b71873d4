use Rattle.std.proofs.Common.{◌≡◌, take}
use Rattle.redis_resp.specs.Table.{entries_meaning}
use Rattle.redis_resp.specs.Value.{tree}
use Rattle.redis_streams.proofs.info.full.entry.copy_fields.Given as goal

abbrev pub invariant-loop-name : goal.invariant-loop-name
invariant-loop-name l = entries_meaning tree l.copies.items ≡ entries_meaning tree (take l.name-index l.fields)
