use Rattle.redis_wire.proofs.NodeLemmas.{line_node}
use Rattle.redis_wire.proofs.nodes.read_line_node.Goals as goal

pub returns : goal.returns
returns c =
    line_node c.args.limits c.args.bytes.now c.args.at c.args.first c.in_ok-line.after c.in_ok-line.line.now
    c.in_ok-line.ensures.is
