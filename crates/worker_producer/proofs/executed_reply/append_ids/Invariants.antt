use Rattle.std.proofs.Common.{◌≡◌, ◌++◌}
use Rattle.worker_producer.specs.Executed.{ids_bytes}
use Rattle.worker_producer.proofs.executed_reply.append_ids.Given as goal

-- the ids written so far
abbrev pub invariant-loop-index : goal.invariant-loop-index
invariant-loop-index l = l.out.items ≡ l.initial.out.items ++ ids_bytes l.before l.index
