use Rattle.std.proofs.Common.{vec_len, vec_capacity, ◌≤◌, ◌-◌, ◌^◌}
use Rattle.std.specs.Io.KnownBytes.{Consumes}
use Rattle.stream_option_parsing.proofs.device.read_all.Given as goal

-- what was read so far; and the capacity does not shrink
abbrev pub invariant-chunks : goal.invariant-chunks
invariant-chunks g l = record {
  read : Consumes (g.R.Read.remaining l.initial.input) (g.R.Read.remaining l.input) l.bytes.items;
  capacity : vec_capacity l.initial.bytes ≤ vec_capacity l.bytes;
}

abbrev pub decreases-chunks : goal.decreases-chunks
decreases-chunks g l = 2 ^ 64 - vec_len l.bytes
