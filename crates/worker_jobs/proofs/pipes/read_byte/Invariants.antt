use Rattle.std.proofs.Common.{length, ◌≡◌, []}
use Rattle.std.specs.Io.KnownBytes.{Consumes}
use Rattle.worker_jobs.proofs.pipes.read_byte.Given as goal

-- nothing was taken yet
abbrev pub invariant-loop-turn : goal.invariant-loop-turn
invariant-loop-turn g l = record {
  none : Consumes (g.R.Read.remaining l.fn.reader) (g.R.Read.remaining l.reader) [];
  one : length l.piece ≡ 1;
}
