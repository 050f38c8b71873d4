use Rattle.std.proofs.Common.{◌≡◌, ◌≢◌, arith, length, map}
use Rattle.redis_wire.specs.Reply.{answer, answer_list}
use Rattle.worker_producer.proofs.ReplyLemmas.{as_many_replies, other_replies, miscounted, all_fine, first_is_told}
use Rattle.worker_producer.proofs.executed.read_members.Goals as goal

pub returns-then-len-sent-clause-err : goal.returns-then-len-sent-clause-err
returns-then-len-sent-clause-err c =
    let other : length c.args.members.items ≢ c.args.sent = omega (arith, c.args.members.ok.0) in
    miscounted _ (answer_list (map answer c.args.members.items)) (other_replies c.args.sent c.args.members.items other)

pub returns-clause-ok : goal.returns-clause-ok
returns-clause-ok c =
    let same : length c.args.members.items ≡ c.args.sent = omega (arith, c.args.members.ok.0) in
    all_fine c.check_each.result _ (answer_list (map answer c.args.members.items))
    (as_many_replies c.args.sent c.args.members.items same) c.check_each.ensures.ok

pub returns-clause-err : goal.returns-clause-err
returns-clause-err c =
    let same : length c.args.members.items ≡ c.args.sent = omega (arith, c.args.members.ok.0) in
    first_is_told c.check_each.result _ (answer_list (map answer c.args.members.items))
    (as_many_replies c.args.sent c.args.members.items same) c.check_each.ensures.err
