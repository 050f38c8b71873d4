use Rattle.std.proofs.Common.{◌≡◌, ◌++◌, List, ℕ, ◌+◌, length, map, ap, ◌∙◌, rules, string_bytes}
use Rattle.redis_wire.specs.Packed.{bulk_bytes}
use Rattle.redis_wire.specs.Reply.{Answer, answer, answer_list}
use Rattle.redis_wire.specs.WrittenReply.{group_head, push_head, answer_bytes, answers_bytes}
use Rattle.redis_wire.proofs.WrittenLemmas.{written_more, two_more, on_two}
use Rattle.redis_wire.proofs.WrittenReplyLemmas.{answers_push, group_is, pushed_is}
use Rattle.redis_wire.proofs.written_reply.+replies.Goals as goal

pub push_replies-loop-reply-preserved : goal.push_replies-loop-reply-preserved
push_replies-loop-reply-preserved t c =
    written_more answer (λ (xs : List Answer). answers_bytes c.args.protocol (answer_list xs))
    (answer_bytes c.args.protocol) (answers_push c.args.protocol) c.deref-reply-items.result.now
    c.args.out.now.items c.loop-reply.out.items c.push_reply.new.out.items c.reply-item.result
    c.loop-reply.reply-index c.loop-reply-test.true c.reply-item.is c.loop-reply.invariant
    c.in_ok-push_reply.ensures

pub push_reply-returns-in_ok-push_group_head-in-Group : goal.push_reply-returns-in_ok-push_group_head-in-Group
push_reply-returns-in_ok-push_group_head-in-Group t c =
    let len : c.len.result ≡ length c.in-Group.members.items = search rules in
    on_two c.push_replies.result c.args.out.now.items c.push_group_head.new.out.items c.push_replies.new.out.items
    (group_head c.args.protocol c.in-Group.kind c.len.result)
    (answers_bytes c.args.protocol (answer_list (map answer c.in-Group.members.items)))
    (answer_bytes c.args.protocol (answer c.args.reply.now)) c.in_ok-push_group_head-in-Group.ensures
    c.push_replies.ensures
    (group_is c.args.protocol c.args.reply.now c.len.result c.in-Group.kind c.in-Group.members c.in-Group.is len)

pub push_reply-returns-in_ok-push_bulk-in-Push : goal.push_reply-returns-in_ok-push_bulk-in-Push
push_reply-returns-in_ok-push_bulk-in-Push t c =
    let len : c.len-in-Push.result ≡ length c.in-Push.payload.items = search rules in
    let kind : c.as_bytes.result.now ≡ string_bytes c.in-Push.kind = search rules in
    let head : c.push_bulk.new.out.items ≡ c.args.out.now.items
    ++ (push_head c.args.protocol (c.len-in-Push.result + 1) ++ bulk_bytes (string_bytes c.in-Push.kind)) =
    two_more c.args.out.now.items c.push_push_head.new.out.items c.push_bulk.new.out.items _ _
    c.in_ok-push_push_head-in-Push.ensures (c.in_ok-push_bulk-in-Push.ensures.ok ∙ ap (λ (z : List ℕ).
    c.push_push_head.new.out.items ++ bulk_bytes z) kind) in
    on_two c.push_replies-in-Push.result c.args.out.now.items c.push_bulk.new.out.items
    c.push_replies-in-Push.new.out.items _ _ (answer_bytes c.args.protocol (answer c.args.reply.now)) head
    c.push_replies-in-Push.ensures
    (pushed_is c.args.protocol c.args.reply.now c.len-in-Push.result c.in-Push.kind c.in-Push.payload c.in-Push.is
    len)
