use Rattle.std.proofs.Common.{take}
use Rattle.worker_journal.specs.LineTexts.{bytes_of}
use Rattle.stream_drain.specs.Resumed.{TellEach}
use Rattle.worker.specs.Machine.{ids_of}
use Rattle.stream_drain.proofs.resume.ids_told.Given as goal

-- the lines so far tell the ids so far
abbrev pub invariant-loop-line : goal.invariant-loop-line
invariant-loop-line l = TellEach l.fn.json (bytes_of (take l.line-index l.fn.lines)) (ids_of l.ids)
