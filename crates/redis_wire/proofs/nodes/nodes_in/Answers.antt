use Rattle.std.proofs.Common.{length}
use Rattle.redis_wire.proofs.NodeLemmas.{filled}
use Rattle.redis_wire.proofs.SaidLemmas.{say}
use Rattle.redis_wire.proofs.nodes.nodes_in.Goals as goal

pub returns-clause-are : goal.returns-clause-are
returns-clause-are c =
    filled c.args.limits c.args.text.now c.fill.new.nodes c.set_ends.new.nodes c.in_ok-count.count
    (length c.args.text.now) c.in_ok-count.ensures.few c.set_ends.ensures.same c.in_ok-count.ensures.are

pub returns-clause-say : goal.returns-clause-say
returns-clause-say c = λ a is. say c.args.limits c.args.text.now _ a (length c.args.text.now)
    (filled c.args.limits c.args.text.now c.fill.new.nodes c.set_ends.new.nodes c.in_ok-count.count
    (length c.args.text.now) c.in_ok-count.ensures.few c.set_ends.ensures.same c.in_ok-count.ensures.are) is
