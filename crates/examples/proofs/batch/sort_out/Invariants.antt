use Rattle.std.proofs.Common.{◌≡◌, map, take, string_bytes}
use Rattle.std.specs.Prelude.{flat_map}
use Rattle.redis.specs.Words.{entry_meaning}
use Rattle.examples.specs.Order.{order_meaning, order_in, strange_in}
use Rattle.examples.proofs.batch.sort_out.Given as goal

-- both lists say what the entries so far say
abbrev pub invariant-loop-entry : goal.invariant-loop-entry
invariant-loop-entry l =
    (map order_meaning l.orders.items ≡ flat_map order_in (map entry_meaning (take l.entry-index l.entries)))
    × (map string_bytes l.strange.items ≡ flat_map strange_in (map entry_meaning (take l.entry-index l.entries)))
