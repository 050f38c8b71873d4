use Rattle.std.proofs.Common.{◌≡◌}
use Rattle.redis_client.specs.Cluster.Crc.{with_bits}
use Rattle.redis_client.proofs.cluster.crc.add_byte.Given as goal

abbrev pub invariant-loop-place : goal.invariant-loop-place
invariant-loop-place l = l.crc ≡ with_bits l.fn.crc l.byte l.place
