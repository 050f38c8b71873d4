use Rattle.std.proofs.Common.{◌≤◌, length, drop}
use Rattle.redis_client.specs.Cluster.Split.{Lacks}
use Rattle.redis_client.proofs.cluster.bytes.split_last.Given as goal

-- the byte is not after this place
abbrev pub invariant-loop-place : goal.invariant-loop-place
invariant-loop-place l = record { within : l.place ≤ length l.bytes; lacks : Lacks l.byte (drop l.place l.bytes) }

abbrev pub decreases-loop-place : goal.decreases-loop-place
decreases-loop-place l = l.place
