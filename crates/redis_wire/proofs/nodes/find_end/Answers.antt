use Rattle.std.proofs.Common.{arith}
use Rattle.std.proofs.Math.Seq.{drop-cons}
use Rattle.redis_wire.proofs.NodeLemmas.{ends_on, ends_all}
use Rattle.redis_wire.proofs.nodes.find_end.Goals as goal

pub returns-then-end-nodes : goal.returns-then-end-nodes
returns-then-end-nodes c =
    ends_all c.args.nodes.now c.args.from c.loop-member._member c.args.members c.loop-member.end
    c.loop-member.invariant (omega (arith, c.if-end-nodes.true)) (omega (arith, c.loop-member-test.true))

pub loop-member-preserved : goal.loop-member-preserved
loop-member-preserved c =
    ends_on c.args.nodes.now _ c.args.from c.loop-member._member c.loop-member.end _ c.requires.ends
    c.loop-member.invariant (drop-cons c.args.nodes.now c.loop-member.end _ (omega (arith, c.if-end-nodes.false)))
