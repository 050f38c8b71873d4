use Rattle.std.proofs.Common.{rules, ◌≡◌, ◌∙◌, ◌++◌, ◌∷◌, [], List, ℕ, Some, slice_get, subst, sym}
use Rattle.worker_journal.specs.LastLines.{lines_of}
use Rattle.stream_fill.specs.Taken.{IsRecordOf}
use Rattle.stream_fill.proofs.LinesLemmas.{one_more_read}
use Rattle.stream_fill.proofs.lines.read_records.Goals as goal

pub loop-read-preserved : goal.loop-read-preserved
loop-read-preserved g c =
    let was = c.loop-read.invariant in
    let more : c.push.new.self.items ≡ c.loop-read.records.items ++ c.in_ok-parse_record.field-0 ∷ [] = search rules in
    record {
      file = c.read_line.ensures.file ∙ was.file;
      place = search rules;
      count = search rules;
      records = λ all is.
          let line = c.read_line.new.line.items in
          let at : slice_get (lines_of all) c.loop-read.reader.place.number ≡ Some line = search (rules, c.in_ok-read_line.ensures.line) in
          let made : IsRecordOf c.args.form.now line c.in_ok-parse_record.field-0 =
          subst (λ (l : List ℕ). IsRecordOf c.args.form.now l c.in_ok-parse_record.field-0) c.deref.ensures.value c.in_ok-parse_record.ensures in
          one_more_read c.args.form.now (lines_of all) c.args.reader.now.place.number c.loop-read._read c.loop-read.reader.place.number
          line c.loop-read.records.items c.push.new.self.items c.in_ok-parse_record.field-0
          (was.records all (sym c.read_line.ensures.file ∙ is)) was.place at made more;
    }
