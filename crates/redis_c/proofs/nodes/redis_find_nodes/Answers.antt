use Rattle.redis_c.proofs.NodesLemmas.{nodes_tell}
use Rattle.redis_c.proofs.nodes.redis_find_nodes.Goals as goal

pub returns-clause-tells : goal.returns-clause-tells
returns-clause-tells c =
    let found = c.parse_nodes-found in
    nodes_tell c.args.bytes.now found.new.nodes found.result c.get_code.result c.count_bytes.result c.get_code.ensures
    c.count_bytes.ensures found.ensures.is
