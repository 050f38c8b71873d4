use Rattle.std.proofs.Common.{◌≡◌, map, drop}
use Rattle.redis_streams.specs.InfoMeaning.{group_meaning, groups_meaning}
use Rattle.stream_drain.specs.Backlog.{left_in}
use Rattle.stream_drain.proofs.backlog.backlog_in.Given as goal

-- no group so far has the name
abbrev pub invariant-loop-group : goal.invariant-loop-group
invariant-loop-group l = left_in l.name (groups_meaning l.reply)
    ≡ left_in l.name (map group_meaning (drop l.group-index l.reply.groups.items))
