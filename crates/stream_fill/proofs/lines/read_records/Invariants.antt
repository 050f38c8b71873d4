use Rattle.std.proofs.Common.{◌≡◌, ◌+◌, drop, length, take}
use Rattle.std.specs.Option.{ForSome}
use Rattle.worker_journal.specs.LastLines.{lines_of}
use Rattle.stream_fill.specs.Taken.{AreRecordsOf}
use Rattle.stream_fill.proofs.lines.read_records.Given as goal

-- the file stays, and the lines so far are records
abbrev pub invariant-loop-read : goal.invariant-loop-read
invariant-loop-read g l = record {
  file : g.F.ByteFile.bytes l.reader.file ≡ g.F.ByteFile.bytes l.fn.reader.file;
  place : l.reader.place.number ≡ l.fn.reader.place.number + l._read;
  count : length l.records.items ≡ l._read;
  records : ForSome (g.F.ByteFile.bytes l.reader.file) (λ all. AreRecordsOf l.form
      (take l._read (drop l.fn.reader.place.number (lines_of all))) l.records.items);
}
