use Rattle.std.proofs.Common.{◌≡◌, take, map}
use Rattle.redis_streams.specs.InfoFullMeaning.{full_group_meaning}
use Rattle.redis_streams.proofs.info.full.group.copy_full_groups.Given as goal

abbrev pub invariant-loop-group : goal.invariant-loop-group
invariant-loop-group l = map full_group_meaning l.copies.items ≡ map full_group_meaning (take l.group-index l.groups)
