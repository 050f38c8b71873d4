use Rattle.std.proofs.Common.{◌≡◌, ◌≢◌, ◌∙◌, arith, length}
use Rattle.worker_producer.proofs.ReplyLemmas.{as_many_values, other_values}
use Rattle.worker_producer.proofs.executed.has_ids.Goals as goal

pub returns-then-values-sent : goal.returns-then-values-sent
returns-then-values-sent c =
    let other : length c.args.values.now ≢ c.args.sent = omega arith in
    other_values c.args.sent c.args.values.now other

pub returns : goal.returns
returns c =
    let same : length c.args.values.now ≡ c.args.sent = omega arith in
    c.are_ids.ensures ∙ as_many_values c.args.sent c.args.values.now same
