use Rattle.std.proofs.Common.{Err, ap, subst, sym}
use Rattle.json.specs.Value.{value_view}
use Rattle.stream_fill.specs.JsonRecord.{IsNoValue}
use Rattle.stream_fill.specs.declared.json_records.NoRecord.{NoRecord}
use Rattle.stream_fill.proofs.JsonLemmas.{no_value, value_there}
use Rattle.stream_fill.proofs.json_records.parse_line.Goals as goal

pub returns-in-Ok-clause-ok : goal.returns-in-Ok-clause-ok
returns-in-Ok-clause-ok c =
    let read = c.in-Ok.ensures.ok in
    value_there c.args.line.now (value_view c.in-Ok.value) read.0 read.1

pub returns-in-Err-clause-err : goal.returns-in-Err-clause-err
returns-in-Err-clause-err c =
    let error = c.in-Err.error in
    let why = no_value c.args.line.now error (λ is. c.in-Err.ensures.invalid (ap Err is)) (λ is. c.in-Err.ensures.never_too_long (ap Err is))
    (λ is. c.in-Err.ensures.never_duplicate (ap Err is)) in
    subst (λ (e : NoRecord). IsNoValue c.args.line.now e) (sym c.explain_error.ensures) why
