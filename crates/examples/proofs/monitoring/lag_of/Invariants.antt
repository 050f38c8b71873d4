use Rattle.std.proofs.Common.{◌≡◌, map, drop}
use Rattle.redis.specs.Words.{group_meaning, groups_meaning}
use Rattle.examples.specs.Monitoring.{lag_in}
use Rattle.examples.proofs.monitoring.lag_of.Given as goal

-- no group so far has the name
abbrev pub invariant-loop-group : goal.invariant-loop-group
invariant-loop-group l = lag_in l.name (groups_meaning l.reply)
    ≡ lag_in l.name (map group_meaning (drop l.group-index l.reply.groups.items))
