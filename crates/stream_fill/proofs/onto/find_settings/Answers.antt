use Rattle.std.proofs.Common.{◌∙◌, ap, string_bytes}
use Rattle.stream_fill.proofs.ProgramLemmas.{on_err, starts_onto, starts_plainly, stops_onto}
use Rattle.stream_fill.proofs.onto.find_settings.Goals as goal

pub returns-then-not-is_onto-clause-ok : goal.returns-then-not-is_onto-clause-ok
returns-then-not-is_onto-clause-ok g c =
    starts_plainly (g.O.Open.content c.args.files.now) c.args.path.now c.args.is_onto c.args.settings
    c.args.connection.now c.if-not-is_onto.true

pub returns-clause-ok : goal.returns-clause-ok
returns-clause-ok g c =
    let content = g.O.Open.content c.args.files.now in
    starts_onto content c.args.path.now c.args.is_onto c.args.settings c.args.connection.now
    c.use_kept_base.new.connection c.in_ok-settings.settings (g.D.LogFile.seen c.in_ok-file.file) c.if-not-is_onto.false
    (c.in_ok-file.ensures ∙ ap content (c.as_str.ensures.value ∙ c.in_ok-kept.ensures)) c.in_ok-settings.ensures.ok

pub returns-in_err-settings-clause-err : goal.returns-in_err-settings-clause-err
returns-in_err-settings-clause-err g c =
    on_err c.from_residual-in_err-settings.result
    (stops_onto c.args.is_onto (string_bytes c.args.settings.key) c.args.connection.now c.use_kept_base.new.connection
    c.if-not-is_onto.false c.in_err-settings.ensures.err)
