use Rattle.std.proofs.Common.{◌≡◌, ◌⊎◌, IsTrue, map, string_bytes}
use Rattle.std.specs.Process.{exit_status}
use Rattle.command_lines.specs.Words.{asks_help}
use Rattle.command_lines.proofs.OutcomeLemmas.{at_error, or_else}
use Rattle.stream_run.specs.Program.{ChildFailsAsSaid, EndsAsSaid, StopsAsSaid}
use Rattle.stream_run.proofs.ProgramLemmas.{child_as_said, ends_as_said, stops_as_said}
use Rattle.stream_run.proofs.StatusLemmas.{at_four, at_one, at_zero}
use Rattle.stream_run.proofs.run_by_words.Goals as goal

pub returns-in-Ok-clause-ended : goal.returns-in-Ok-clause-ended
returns-in-Ok-clause-ended g c =
    let words = map string_bytes c.args.words.now in
    let held = g.P.OpenPipes.held c.args.pipes.now in
    let coming = g.P.OpenPipes.coming c.args.pipes.now in
    let ends = EndsAsSaid held coming words c.args.connection.now c.drain_by.new.connection in
    at_zero exit_status (IsTrue (asks_help words) ⊎ ends) c.drain_by.result c.end_with.result
    (or_else (IsTrue (asks_help words)) ends c.drain_by.result (ends_as_said c.drain_by.result held coming words
    c.in-Ok.options c.args.connection.now c.drain_by.new.connection c.in-Ok.ensures.said c.drain_by.ensures.ok))
    c.end_with.ensures.child c.end_with.ensures.other

pub returns-in-Ok-clause-failed : goal.returns-in-Ok-clause-failed
returns-in-Ok-clause-failed g c =
    let words = map string_bytes c.args.words.now in
    let held = g.P.OpenPipes.held c.args.pipes.now in
    let coming = g.P.OpenPipes.coming c.args.pipes.now in
    at_one exit_status
    ((c.drain_by.new.connection ≡ c.args.connection.now)
    ⊎ StopsAsSaid held coming words c.args.connection.now c.drain_by.new.connection)
    c.drain_by.result c.end_with.result
    (stops_as_said c.drain_by.result held coming words c.in-Ok.options c.args.connection.now c.drain_by.new.connection
    c.in-Ok.ensures.said c.drain_by.ensures.err) c.end_with.ensures.ok

pub returns-in-Ok-clause-child : goal.returns-in-Ok-clause-child
returns-in-Ok-clause-child g c =
    let words = map string_bytes c.args.words.now in
    let held = g.P.OpenPipes.held c.args.pipes.now in
    let coming = g.P.OpenPipes.coming c.args.pipes.now in
    at_four exit_status (ChildFailsAsSaid held coming words c.args.connection.now c.drain_by.new.connection)
    c.drain_by.result c.end_with.result
    (child_as_said c.drain_by.result held coming words c.in-Ok.options c.args.connection.now c.drain_by.new.connection
    c.in-Ok.ensures.said c.drain_by.ensures.child) c.end_with.ensures.ok c.end_with.ensures.other

pub returns-in-Ok-clause-err : goal.returns-in-Ok-clause-err
returns-in-Ok-clause-err g c =
    let words = map string_bytes c.args.words.now in
    let held = g.P.OpenPipes.held c.args.pipes.now in
    let coming = g.P.OpenPipes.coming c.args.pipes.now in
    at_error
    ((c.drain_by.new.connection ≡ c.args.connection.now)
    ⊎ StopsAsSaid held coming words c.args.connection.now c.drain_by.new.connection)
    c.drain_by.result c.end_with.result
    (stops_as_said c.drain_by.result held coming words c.in-Ok.options c.args.connection.now c.drain_by.new.connection
    c.in-Ok.ensures.said c.drain_by.ensures.err) c.end_with.ensures.given
