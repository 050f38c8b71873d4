use Rattle.std.proofs.Common.{◌≡◌, length}
use Rattle.std.specs.Io.KnownBytes.{Consumes}
use Rattle.worker_jobs.specs.Lines.{HasNoEnd}
use Rattle.worker_jobs.proofs.pipes.read_line.Given as goal

-- the line so far was taken, byte by byte, and no line ends in it
abbrev pub invariant-loop-len : goal.invariant-loop-len
invariant-loop-len g l = record {
  taken : Consumes (g.R.Read.remaining l.fn.reader) (g.R.Read.remaining l.reader) l.line.items;
  none : HasNoEnd l.line.items;
  count : length l.line.items ≡ l._len;
}
