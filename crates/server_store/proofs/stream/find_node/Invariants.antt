use Rattle.std.proofs.Common.{◌≡◌, ◌+◌, sum_by, take}
use Rattle.server_store.proofs.stream.find_node.Given as goal

-- the nodes so far are before the index
abbrev pub invariant-loop-place : goal.invariant-loop-place
invariant-loop-place l = l.before + sum_by (λ node. node.live) (take l.place l.nodes.items) ≡ l.index
