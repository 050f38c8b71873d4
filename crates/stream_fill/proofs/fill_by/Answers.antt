use Rattle.std.proofs.Common.{◌∙◌}
use Rattle.stream_fill.proofs.ProgramLemmas.{fills_by, fills_not, on_err, stops_first}
use Rattle.stream_fill.proofs.fill_by.Goals as goal

pub returns-in_err-based-clause-err : goal.returns-in_err-based-clause-err
returns-in_err-based-clause-err g c =
    on_err c.from_residual-in_err-based.result
    (stops_first (g.O.Open.content c.args.files.now) c.args.options c.apply_trim-settings.result c.args.connection.now
    c.find_settings.new.connection c.apply_trim-settings.ensures c.in_err-based.ensures.err)

pub returns-clause-ok : goal.returns-clause-ok
returns-clause-ok g c =
    let lines = c.in_ok-lines.lines in
    fills_by (g.O.Open.content c.args.files.now) c.args.options c.as_str-path.result.now c.as_str-path.ensures.value
    c.apply_trim-settings.result c.apply_trim-settings.ensures c.args.connection.now c.find_settings.new.connection
    c.fill_with-ended.new.connection c.in_ok-based.based.settings c.in_ok-based.ensures.ok lines.form
    c.in_ok-lines.ensures.form (g.F.ByteFile.bytes lines.reader.file) (c.in_ok-lines.ensures.file ∙ c.in_ok-file.ensures)
    lines.count lines.counted c.fill_with-ended.result lines.is_torn lines.torn c.fill_with-ended.ensures.all
    c.fill_with-ended.ensures.whole

pub returns-clause-err : goal.returns-clause-err
returns-clause-err g c =
    let lines = c.in_ok-lines.lines in
    fills_not (g.O.Open.content c.args.files.now) c.args.options c.as_str-path.result.now c.as_str-path.ensures.value
    c.apply_trim-settings.result c.apply_trim-settings.ensures c.args.connection.now c.find_settings.new.connection
    c.fill_with-ended.new.connection c.in_ok-based.based.settings c.in_ok-based.ensures.ok lines.form
    c.in_ok-lines.ensures.form (g.F.ByteFile.bytes lines.reader.file) (c.in_ok-lines.ensures.file ∙ c.in_ok-file.ensures)
    lines.count lines.counted c.fill_with-ended.result c.fill_with-ended.ensures.failed
