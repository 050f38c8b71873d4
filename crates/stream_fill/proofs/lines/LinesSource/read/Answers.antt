use Rattle.std.proofs.Common.{◌∙◌, drop, take, subst}
use Rattle.worker_journal.specs.LastLines.{lines_of}
use Rattle.stream_fill.specs.Taken.{AreRecordsOf}
use Rattle.stream_fill.specs.declared.lines.Form.{Form}
use Rattle.stream_fill.proofs.LinesLemmas.{read_as}
use Rattle.stream_fill.proofs.lines.LinesSource.read.Goals as goal

pub returns-in-Ok-clause-lines : goal.returns-in-Ok-clause-lines
returns-in-Ok-clause-lines g c all is =
    subst (λ (f : Form). AreRecordsOf f (take c.args.most (drop c.args.behind (lines_of all))) c.in-Ok.records.items)
    c.in-Ok.ensures.form (c.in-Ok.ensures.records all (c.in-Ok.ensures.file ∙ is))

pub returns-in-Ok-clause-ok : goal.returns-in-Ok-clause-ok
returns-in-Ok-clause-ok g c =
    let now = c.args.self.now in
    read_as now.form (g.F.ByteFile.bytes now.reader.file) c.args.behind c.args.most c.in-Ok.records.items
    (returns-in-Ok-clause-lines g c)
