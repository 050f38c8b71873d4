use Rattle.redis_wire.proofs.NodeLemmas.{set_on}
use Rattle.redis_wire.proofs.nodes.set_ends.Goals as goal

pub loop-at-preserved : goal.loop-at-preserved
loop-at-preserved c =
    let p =
    set_on c.loop-at.nodes c.args.nodes.now c.loop-at.at c.find_end-end.result _ c.loop-at-test.true
    c.loop-at.invariant.within c.loop-at.invariant.ends c.loop-at.invariant.same c.find_end-end.ensures in
    record { within = p.0; same = p.1; ends = p.2 }
