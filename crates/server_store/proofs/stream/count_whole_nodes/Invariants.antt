use Rattle.std.proofs.Common.{◌≡◌, ◌≤◌, drop}
use Rattle.server_store.specs.Trim.{whole_from}
use Rattle.server_store.proofs.stream.count_whole_nodes.Given as goal

-- from the nodes that are left come as many as from all
abbrev pub invariant-loop-place : goal.invariant-loop-place
invariant-loop-place l = record {
  within : l.whole ≤ l.len;
  count : whole_from l.trim l.len l.whole (drop l.place l.nodes.items) ≡ whole_from l.trim l.len 0 l.nodes.items;
}
