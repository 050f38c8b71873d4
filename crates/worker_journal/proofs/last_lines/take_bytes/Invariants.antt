use Rattle.std.proofs.Common.{◌≡◌, take}
use Rattle.worker_journal.specs.LastLines.{begun_now, bytes_more}
use Rattle.worker_journal.proofs.last_lines.take_bytes.Given as goal

-- the lines of the bytes so far
abbrev pub invariant-loop-byte : goal.invariant-loop-byte
invariant-loop-byte l = begun_now l.lines l.line
    ≡ bytes_more (begun_now l.fn.lines l.fn.line) (take l.byte-index l.bytes)
