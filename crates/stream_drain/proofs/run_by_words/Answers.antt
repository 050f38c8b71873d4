use Rattle.std.proofs.Common.{◌≡◌, ◌⊎◌, IsTrue, map, string_bytes}
use Rattle.std.specs.Process.{exit_status}
use Rattle.stream_drain.specs.Program.{EndsAsSaid, RunsAsSaid}
use Rattle.command_lines.specs.Words.{asks_help}
use Rattle.command_lines.proofs.OutcomeLemmas.{at_error, at_one, at_zero, or_else}
use Rattle.stream_drain.proofs.ProgramLemmas.{as_said, runs_as_said}
use Rattle.stream_drain.proofs.run_by_words.Goals as goal

pub returns-in-Ok-clause-ended : goal.returns-in-Ok-clause-ended
returns-in-Ok-clause-ended g c =
    let words = map string_bytes c.args.words.now in
    let ends = EndsAsSaid (g.F.Open.content c.args.files.now) words c.args.connection.now c.drain_by.new.connection in
    at_zero exit_status (IsTrue (asks_help words) ⊎ ends) c.drain_by.result c.end_with.result
    (or_else (IsTrue (asks_help words)) ends c.drain_by.result (as_said c.drain_by.result (g.F.Open.content c.args.files.now) words c.in-Ok.options c.args.connection.now
    c.drain_by.new.connection c.in-Ok.ensures.said c.drain_by.ensures.ok)) c.end_with.ensures.ok c.end_with.ensures.err

pub returns-in-Ok-clause-failed : goal.returns-in-Ok-clause-failed
returns-in-Ok-clause-failed g c =
    let words = map string_bytes c.args.words.now in
    at_one exit_status
    ((c.drain_by.new.connection ≡ c.args.connection.now)
    ⊎ RunsAsSaid (g.F.Open.content c.args.files.now) words c.args.connection.now c.drain_by.new.connection)
    c.drain_by.result c.end_with.result
    (runs_as_said c.drain_by.result (g.F.Open.content c.args.files.now) words c.in-Ok.options c.args.connection.now
    c.drain_by.new.connection c.in-Ok.ensures.said c.drain_by.ensures.err) c.end_with.ensures.ok c.end_with.ensures.err

pub returns-in-Ok-clause-err : goal.returns-in-Ok-clause-err
returns-in-Ok-clause-err g c =
    let words = map string_bytes c.args.words.now in
    at_error
    ((c.drain_by.new.connection ≡ c.args.connection.now)
    ⊎ RunsAsSaid (g.F.Open.content c.args.files.now) words c.args.connection.now c.drain_by.new.connection)
    c.drain_by.result c.end_with.result
    (runs_as_said c.drain_by.result (g.F.Open.content c.args.files.now) words c.in-Ok.options c.args.connection.now
    c.drain_by.new.connection c.in-Ok.ensures.said c.drain_by.ensures.err) c.end_with.ensures.given
