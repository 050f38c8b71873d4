use Rattle.std.proofs.Common.{Bool, Some, rules, subst, sym}
use Rattle.worker_journal.specs.EntryLine.{IsEntryIn}
use Rattle.worker_journal.specs.EntryLineMeaning.{entry_of}
use Rattle.stream_drain.specs.Resumed.{Tells}
use Rattle.stream_drain.proofs.ResumeLemmas.{told_by}
use Rattle.stream_drain.proofs.TellLemmas.{json_tells, text_tells}
use Rattle.stream_drain.proofs.resume.find_id.Goals as goal

pub returns-in-Some : goal.returns-in-Some
returns-in-Some c =
    let found = c.in-Some.ensures in
    told_by c.args.json c.args.line.now c.in-Some.id.now c.read_id.result
    (subst (λ (j : Bool). Tells j c.args.line.now c.in-Some.id.now) (sym c.if-json.true)
    (json_tells c.args.line.now c.in-Some.id.now found.0 found.1 found.2))
    c.read_id.ensures

pub returns-in-Some-2 : goal.returns-in-Some-2
returns-in-Some-2 c =
    let e = entry_of c.in-Some-2.entry in
    let is : IsEntryIn c.args.line.now (Some e) = search rules in
    told_by c.args.json c.args.line.now e.0 c.read_id-in-Some-2.result
    (subst (λ (j : Bool). Tells j c.args.line.now e.0) (sym c.if-json.false) (text_tells c.args.line.now e is))
    (search rules)
