use Rattle.std.proofs.Common.{◌≡◌, map, length}
use Rattle.std.specs.Vec.Iter.{into_iter_items, into_iter_len}
use Rattle.redis_wire.specs.Reply.{answer, answer_list, error_among}
use Rattle.redis_wire.proofs.reply.+errors.Given as goal

abbrev pub invariant-find_error_among-loop-reply : goal.invariant-find_error_among-loop-reply
invariant-find_error_among-loop-reply l = record {
  so_far : error_among (answer_list (map answer (into_iter_items l.reply-iterator)))
      ≡ error_among (answer_list (map answer (into_iter_items l.initial.reply-iterator)));
  count : into_iter_len l.reply-iterator ≡ length (into_iter_items l.reply-iterator);
}
