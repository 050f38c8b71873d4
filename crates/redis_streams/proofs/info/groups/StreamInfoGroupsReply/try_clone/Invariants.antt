use Rattle.std.proofs.Common.{◌≡◌, take, map}
use Rattle.redis_streams.specs.InfoMeaning.{group_meaning}
use Rattle.redis_streams.proofs.info.groups.StreamInfoGroupsReply.try_clone.Given as goal

abbrev pub invariant-loop-group : goal.invariant-loop-group
invariant-loop-group l = map group_meaning l.groups.items ≡ map group_meaning (take l.group-index l.group-items)
