use Rattle.redis_wire.specs.Reply.{answer}
use Rattle.worker_table.specs.RowTable.OfPost.{post_of}
use Rattle.worker_table.proofs.RowTableLemmas.PostsLemmas.{ok_too}
use Rattle.worker_table.proofs.SendLemmas.{added_before}
use Rattle.worker_table.proofs.sending.send_post.Goals as goal

pub returns-then-branch : goal.returns-then-branch
returns-then-branch g c =
    ok_too c.find_entry.result c.find_entry.ensures
    (added_before (post_of c.args.post.now) c.deref.result.now (answer c.in_ok-reply.reply) c.args.connection.now
    c.ask.new.connection c.find_entry.new.connection c.deref.ensures.value c.in_ok-reply.ensures
    (c.in_ok-is_too_small.ensures.small c.if-branch.true))
