use Rattle.std.proofs.Common.{◌≡◌, ◌⊎◌, IsTrue, map, string_bytes}
use Rattle.std.specs.Process.{exit_status}
use Rattle.command_lines.specs.Words.{asks_help}
use Rattle.command_lines.proofs.OutcomeLemmas.{at_error, or_else}
use Rattle.stream_fill.specs.Program.{FillsAsSaid, StopsAsSaid}
use Rattle.stream_fill.proofs.ProgramLemmas.{at_most_two, at_no_other, at_zero, fills_as_said, stops_as_said}
use Rattle.stream_fill.proofs.run_by_words.Goals as goal

pub returns-in-Ok-clause-status : goal.returns-in-Ok-clause-status
returns-in-Ok-clause-status g c =
    at_most_two exit_status c.fill_by.result c.choose_exit.result c.choose_exit.ensures.all c.choose_exit.ensures.failed

pub returns-in-Ok-clause-filled : goal.returns-in-Ok-clause-filled
returns-in-Ok-clause-filled g c =
    let words = map string_bytes c.args.words.now in
    let content = g.O.Open.content c.args.files.now in
    let fills = FillsAsSaid content words c.args.connection.now c.fill_by.new.connection in
    at_zero exit_status (IsTrue (asks_help words) ⊎ fills) c.fill_by.result c.choose_exit.result
    (or_else (IsTrue (asks_help words)) fills c.fill_by.result
    (fills_as_said content words c.in-Ok.options c.in-Ok.ensures.said c.args.connection.now c.fill_by.new.connection
    c.fill_by.result c.fill_by.ensures.ok)) c.choose_exit.ensures.failed

pub returns-in-Ok-clause-unsent : goal.returns-in-Ok-clause-unsent
returns-in-Ok-clause-unsent g c =
    at_no_other exit_status (c.fill_by.new.connection ≡ c.args.connection.now) c.fill_by.result c.choose_exit.result
    c.choose_exit.ensures.all c.choose_exit.ensures.failed

pub returns-in-Ok-clause-err : goal.returns-in-Ok-clause-err
returns-in-Ok-clause-err g c =
    let words = map string_bytes c.args.words.now in
    let content = g.O.Open.content c.args.files.now in
    at_error
    ((c.fill_by.new.connection ≡ c.args.connection.now)
    ⊎ StopsAsSaid content words c.args.connection.now c.fill_by.new.connection)
    c.fill_by.result c.choose_exit.result
    (stops_as_said content words c.in-Ok.options c.in-Ok.ensures.said c.args.connection.now c.fill_by.new.connection
    c.fill_by.result c.fill_by.ensures.err) c.choose_exit.ensures.given
