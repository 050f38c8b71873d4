-- The meaning of the replies to CLUSTER SLOTS and CLUSTER SHARDS, and the master of a slot.
use Rattle.std.specs.Prelude.{◌≡◌, ℕ, ◌==◌, ◌&&◌, ◌||◌, not, nat_lt, nat_le, List, [], ◌∷◌, Bool, true, false, Option, Some}
use Rattle.std.specs.Prelude.{None, option_map, option_and_then, unwrap_or, codes, if◌then◌else◌}
use Rattle.std.specs.List.{find, flat_map, list_any}
use Rattle.std.specs.Option.{option_or}
use Rattle.std.specs.Str.{bytes_eq}
use Rattle.redis_resp.specs.Then.{◌>>=◌}
use Rattle.redis_resp.specs.Tree.{Tree, plain, pairs_in, array_of_plain}
use Rattle.redis_resp.specs.Number.{unsigned_reading}
use Rattle.redis_resp.specs.Reading.{traverse, option_reading, list_reading, both_read}
use Rattle.redis_resp.specs.Table.{Fields, fields_reading, field_record}
use Rattle.redis_resp.specs.Text.{text_reading}
use Rattle.redis_client.specs.declared.topology.node.Role.{Role}
use Rattle.redis_client.specs.declared.topology.node.Role.TheVariants.{Master, Replica}
use Rattle.redis_client.specs.declared.topology.range.SlotRange.{SlotRange}

-- a node
pub record Node : Type 0 where
  pub host : List ℕ
  pub port : ℕ
  pub role : Role

-- slots, and the nodes that serve them
pub record Shard : Type 0 where
  pub ranges : List SlotRange
  pub nodes : List Node

-- the range of two numbers of 16 bits
abbrev pub range_reading : Tree × Tree → Option SlotRange
range_reading p = option_map (λ q. record { first = q.0; last = q.1 })
    (both_read (unsigned_reading 16 p.0) (unsigned_reading 16 p.1))

-- the ranges of first and last slots in turn
abbrev pub ranges_reading : Tree → Option (List SlotRange)
ranges_reading t = option_and_then (traverse range_reading) (pairs_in t)

-- CLUSTER SLOTS

-- a node by its host, which may be nil, and its port
abbrev pub replica_of : List Tree → Option Node
replica_of (host ∷ port ∷ more) =
    option_reading text_reading host >>= λ h.
    option_map (λ p. record { host = unwrap_or h []; port = p; role = Replica }) (unsigned_reading 16 port)
replica_of _ = None

-- a node after the first of its row
abbrev pub slots_node : Tree → Option Node
slots_node t = option_and_then replica_of (array_of_plain (plain t))

-- the same node as a master
abbrev pub as_master : Node → Node
as_master n = record { host = n.host; port = n.port; role = Master }

-- the nodes of a row: the first is the master
abbrev pub nodes_of_members : List Tree → Option (List Node)
nodes_of_members [] = Some []
nodes_of_members (master ∷ replicas) =
    slots_node master >>= λ n. option_map (λ ns. as_master n ∷ ns) (traverse slots_node replicas)

-- a row by its members: the first slot, the last, and the nodes
abbrev pub row_of_members : List Tree → Option Shard
row_of_members (first ∷ last ∷ nodes) =
    range_reading (first, last) >>= λ r.
    option_map (λ ns. record { ranges = r ∷ []; nodes = ns }) (nodes_of_members nodes)
row_of_members _ = None

-- a row
abbrev pub row_reading : Tree → Option Shard
row_reading t = option_and_then row_of_members (array_of_plain (plain t))

-- the reply: an array of rows
abbrev pub slots_reading : Tree → Option (List Shard)
slots_reading t = option_and_then (traverse row_reading) (array_of_plain (plain t))

-- CLUSTER SHARDS

-- the role of this name
abbrev pub role_of : List ℕ → Option Role
role_of name = if bytes_eq name (codes "master") then Some Master
    else if bytes_eq name (codes "replica") then Some Replica else None

-- the port of the fields: the one without TLS, if it is present
abbrev pub port_in : Fields Tree → Option ℕ
port_in fields = option_or (field_record (unsigned_reading 16) fields (codes "port"))
    (field_record (unsigned_reading 16) fields (codes "tls-port"))

-- a node by its fields
abbrev pub node_of_fields : Fields Tree → Option Node
node_of_fields fields =
    field_record (option_reading text_reading) fields (codes "endpoint") >>= λ h.
    port_in fields >>= λ p.
    field_record text_reading fields (codes "role") >>= λ name.
    option_map (λ r. record { host = unwrap_or h []; port = p; role = r }) (role_of name)

-- a node of a shard
abbrev pub shards_node : Tree → Option Node
shards_node t = option_and_then node_of_fields (fields_reading (λ u. Some u) t)

-- a shard by its fields
abbrev pub shard_of_fields : Fields Tree → Option Shard
shard_of_fields fields =
    field_record ranges_reading fields (codes "slots") >>= λ rs.
    option_map (λ ns. record { ranges = rs; nodes = ns })
    (field_record (list_reading shards_node) fields (codes "nodes"))

-- a shard
abbrev pub shard_reading : Tree → Option Shard
shard_reading t = option_and_then shard_of_fields (fields_reading (λ u. Some u) t)

-- the reply: a list of shards
abbrev pub shards_reading : Tree → Option (List Shard)
shards_reading = list_reading shard_reading

-- Ranges

-- a slot of it is above 16,383
abbrev pub is_past : SlotRange → Bool
is_past r = nat_lt 16383 r.first || nat_lt 16383 r.last

-- its first slot is above its last
abbrev pub is_reversed : SlotRange → Bool
is_reversed r = nat_lt r.last r.first

-- a slot is in both
abbrev pub overlap : SlotRange → SlotRange → Bool
overlap r s = nat_le r.first s.last && nat_le s.first r.last

-- no two of them overlap
abbrev pub all_apart : List SlotRange → Bool
all_apart [] = true
all_apart (r ∷ rs) = not (list_any (overlap r) rs) && all_apart rs

-- they can be the ranges of one cluster
abbrev pub Fits : List SlotRange → Type 0
Fits rs = (list_any is_past rs ≡ false) × (list_any is_reversed rs ≡ false) × (all_apart rs ≡ true)

-- the ranges of shards, in order
abbrev pub ranges_in : List Shard → List SlotRange
ranges_in shards = flat_map (λ s. s.ranges) shards

-- Masters

-- the slot is in the range
abbrev pub contains : SlotRange → ℕ → Bool
contains r slot = nat_le r.first slot && nat_le slot r.last

-- the slot is in one of the ranges
abbrev pub has_slot : Shard → ℕ → Bool
has_slot s slot = list_any (λ r. contains r slot) s.ranges

-- it is a master
abbrev pub is_master : Role → Bool
is_master Master = true
is_master Replica = false

-- it is a master whose host and port are known
abbrev pub is_known_master : Node → Bool
is_known_master n = is_master n.role && nat_lt 0 n.port && not (bytes_eq n.host (codes "?"))

-- the master of a slot
abbrev pub master_of : List Shard → ℕ → Option Node
master_of shards slot = find (λ s. has_slot s slot) shards >>= λ s. find is_known_master s.nodes
