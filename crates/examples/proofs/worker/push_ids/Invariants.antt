use Rattle.std.proofs.Common.{◌≡◌, ◌++◌, map, take, string_bytes}
use Rattle.redis.specs.Words.{entry_meaning}
use Rattle.examples.specs.Worker.{ids_of}
use Rattle.examples.proofs.worker.push_ids.Given as goal

-- the ids so far are after what was there
abbrev pub invariant-loop-entry : goal.invariant-loop-entry
invariant-loop-entry l = map string_bytes l.ids.items ≡ map string_bytes l.initial.ids.items
    ++ ids_of (map entry_meaning (take l.entry-index l.entries))
