use Rattle.std.proofs.Common.{◌≡◌, map, length}
use Rattle.std.specs.Vec.Iter.{into_iter_items, into_iter_len}
use Rattle.redis_wire.specs.Reply.{answer, answer_list}
use Rattle.worker_producer.specs.Replies.{not_standing}
use Rattle.worker_producer.proofs.executed.check_each.Given as goal

abbrev pub invariant-loop-member : goal.invariant-loop-member
invariant-loop-member l = record {
  so_far : not_standing (answer_list (map answer (into_iter_items l.member-iterator)))
      ≡ not_standing (answer_list (map answer (into_iter_items l.initial.member-iterator)));
  count : into_iter_len l.member-iterator ≡ length (into_iter_items l.member-iterator);
}
