-- What the records of the code mean.
use Rattle.std.specs.Prelude.{List, map, string_bytes}
use Rattle.redis_client.specs.declared.topology.node.Node as nodes
use Rattle.redis_client.specs.declared.topology.shard.Shard as shards
use Rattle.redis_client.specs.declared.topology.topology.Topology.{Topology}
use Rattle.redis_client.specs.Topology.Topology.{Node, Shard}

-- a node
abbrev pub node_meaning : nodes.Node → Node
node_meaning n = record { host = string_bytes n.host; port = n.port; role = n.role }

-- a shard
abbrev pub shard_meaning : shards.Shard → Shard
shard_meaning s = record { ranges = s.ranges.items; nodes = map node_meaning s.nodes.items }

-- the shards of a topology
abbrev pub shards_of : Topology → List Shard
shards_of t = map shard_meaning t.shards.items
