use Rattle.std.proofs.Common.{◌≡◌, ◌++◌, take, map}
use Rattle.redis_wire.specs.Reply.{answer, answer_list}
use Rattle.redis_wire.specs.WrittenReply.{answers_bytes}
use Rattle.redis_wire.proofs.written_reply.+replies.Given as goal

abbrev pub invariant-push_replies-loop-reply : goal.invariant-push_replies-loop-reply
invariant-push_replies-loop-reply l = l.out.items ≡ l.initial.out.items
    ++ answers_bytes l.protocol (answer_list (map answer (take l.reply-index l.reply-items)))
