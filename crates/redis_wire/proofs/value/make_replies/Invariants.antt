use Rattle.std.proofs.Common.{◌≡◌, ◌++◌, map, length}
use Rattle.std.specs.Vec.Iter.{into_iter_items, into_iter_len}
use Rattle.redis_resp.specs.Value.{tree}
use Rattle.redis_wire.specs.Reply.{answer, value}
use Rattle.redis_wire.proofs.value.make_replies.Given as goal

abbrev pub invariant-loop-value : goal.invariant-loop-value
invariant-loop-value l = record {
  so_far : map answer l.replies.items ++ map value (map tree (into_iter_items l.value-iterator))
      ≡ map value (map tree (into_iter_items l.initial.value-iterator));
  count : into_iter_len l.value-iterator ≡ length (into_iter_items l.value-iterator);
}
