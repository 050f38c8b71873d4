use Rattle.std.proofs.Common.{◌≡◌, ◌++◌, map, take, drop}
use Rattle.server_store.specs.Pending.{with_more}
use Rattle.server_store.proofs.group.count_one_more.Given as goal

abbrev pub invariant-loop-consumer : goal.invariant-loop-consumer
invariant-loop-consumer l =
    l.consumers
    ≡ map (with_more l.number) (take l.consumer-index l.initial.consumers)
    ++ drop l.consumer-index l.initial.consumers
