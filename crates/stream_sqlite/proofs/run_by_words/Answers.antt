use Rattle.std.proofs.Common.{◌≡◌, ◌⊎◌, IsTrue, map, string_bytes}
use Rattle.std.specs.Process.{exit_status}
use Rattle.command_lines.specs.Words.{asks_help}
use Rattle.command_lines.proofs.OutcomeLemmas.{at_error, or_else}
use Rattle.stream_sqlite.specs.Program.{EndsAsSaid, RunsAsSaid}
use Rattle.stream_sqlite.proofs.ProgramLemmas.{as_said, at_zero, no_other, runs_as_said, two_at_most}
use Rattle.stream_sqlite.proofs.run_by_words.Goals as goal

pub returns-in-Ok-clause-status : goal.returns-in-Ok-clause-status
returns-in-Ok-clause-status g c =
    two_at_most exit_status c.drain_by.result c.end_with.result c.end_with.ensures.ok c.end_with.ensures.failed

pub returns-in-Ok-clause-ended : goal.returns-in-Ok-clause-ended
returns-in-Ok-clause-ended g c =
    let words = map string_bytes c.args.words.now in
    let files = g.F.Open.rows c.args.files.now in
    let ends = EndsAsSaid files words c.args.connection.now c.drain_by.new.connection in
    at_zero exit_status (IsTrue (asks_help words) ⊎ ends) c.drain_by.result c.end_with.result
    (or_else (IsTrue (asks_help words)) ends c.drain_by.result
    (as_said c.drain_by.result files words c.in-Ok.options c.args.connection.now c.drain_by.new.connection
    c.in-Ok.ensures.said c.drain_by.ensures.ok)) c.end_with.ensures.failed

pub returns-in-Ok-clause-wrong : goal.returns-in-Ok-clause-wrong
returns-in-Ok-clause-wrong g c =
    no_other exit_status (c.drain_by.new.connection ≡ c.args.connection.now) c.drain_by.result c.end_with.result
    c.end_with.ensures.ok c.end_with.ensures.failed

pub returns-in-Ok-clause-err : goal.returns-in-Ok-clause-err
returns-in-Ok-clause-err g c =
    let words = map string_bytes c.args.words.now in
    let files = g.F.Open.rows c.args.files.now in
    at_error
    ((c.drain_by.new.connection ≡ c.args.connection.now)
    ⊎ RunsAsSaid files words c.args.connection.now c.drain_by.new.connection)
    c.drain_by.result c.end_with.result
    (runs_as_said c.drain_by.result files words c.in-Ok.options c.args.connection.now c.drain_by.new.connection
    c.in-Ok.ensures.said c.drain_by.ensures.err) c.end_with.ensures.given
