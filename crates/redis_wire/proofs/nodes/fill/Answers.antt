use Rattle.std.proofs.Common.{◌≡◌, ◌<◌, ◌+◌, ◌-◌, length, rules, arith}
use Rattle.redis_wire.proofs.NodeLemmas.{fills_first, fills_more}
use Rattle.redis_wire.proofs.nodes.fill.Goals as goal

pub loop-left-init : goal.loop-left-init
loop-left-init c =
    let some : 0 < length c.args.nodes.now = search (rules, arith) in
    record {
      within = search (rules, arith, some);
      end = c.requires.end;
      are = fills_first c.args.limits c.args.bytes.now c.args.nodes.now c.args.first c.args.after c.requires.begins
          some;
    }

pub loop-left-preserved : goal.loop-left-preserved
loop-left-preserved c =
    let lt : c.loop-left.count < length c.loop-left.nodes = omega (arith, c.if-count-nodes.false) in
    let more : c.in_ok-left.left ≡ c.in_ok-node.node.members + (c.loop-left.left - 1) = search (rules, arith) in
    record {
      within = search (rules, arith, lt);
      end = c.in_ok-node.ensures.end;
      are = fills_more c.args.limits c.args.bytes.now c.loop-left.nodes c.loop-left.count c.loop-left.at
          c.loop-left.left
          c.in_ok-node.behind c.in_ok-left.left c.in_ok-node.node c.loop-left.invariant.are c.loop-left-test.true lt
          c.in_ok-node.ensures more;
    }
