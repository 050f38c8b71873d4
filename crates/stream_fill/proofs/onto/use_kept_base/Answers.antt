use Rattle.stream_fill.proofs.ProgramLemmas.{asked_then, found_so, none_found, on_err}
use Rattle.stream_fill.proofs.onto.use_kept_base.Goals as goal

pub returns-in_ok-with_base-in-Ok-clause-ok : goal.returns-in_ok-with_base-in-Ok-clause-ok
returns-in_ok-with_base-in-Ok-clause-ok g c =
    found_so g.D.LogFile.seen g.D.LogFile.may_leave g.D.LogFile.is_sound c.args.file.now c.find_base.new.file c.args.connection.now
    c.find_base.new.connection c.args.settings c.key.result.now c.key.ensures c.in-Ok.base c.in_ok-with_base-in-Ok.field-0
    c.in-Ok.ensures.ok c.in_ok-with_base-in-Ok.ensures

pub returns-in_err-with_base-in-Ok-clause-err : goal.returns-in_err-with_base-in-Ok-clause-err
returns-in_err-with_base-in-Ok-clause-err g c =
    on_err c.from_residual.result
    (asked_then g.D.LogFile.seen g.D.LogFile.may_leave g.D.LogFile.is_sound c.args.file.now c.find_base.new.file c.args.connection.now
    c.find_base.new.connection c.args.settings c.key.result.now c.key.ensures c.in-Ok.base c.in-Ok.ensures.ok)

pub returns-in-Err-clause-err : goal.returns-in-Err-clause-err
returns-in-Err-clause-err g c =
    none_found g.D.LogFile.seen g.D.LogFile.may_leave g.D.LogFile.is_sound c.args.file.now c.find_base.new.file c.args.connection.now
    c.find_base.new.connection c.args.settings c.key.result.now c.key.ensures c.in-Err.error c.in-Err.ensures.err
