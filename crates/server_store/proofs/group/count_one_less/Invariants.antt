use Rattle.std.proofs.Common.{◌≡◌, ◌++◌, map, take, drop}
use Rattle.server_store.specs.Pending.{with_less}
use Rattle.server_store.proofs.group.count_one_less.Given as goal

abbrev pub invariant-loop-consumer : goal.invariant-loop-consumer
invariant-loop-consumer l =
    l.consumers
    ≡ map (with_less l.number) (take l.consumer-index l.initial.consumers)
    ++ drop l.consumer-index l.initial.consumers
