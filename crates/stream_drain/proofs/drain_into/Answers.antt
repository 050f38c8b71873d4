use Rattle.worker.specs.Session.{standing_of}
use Rattle.stream_drain.specs.Known.{known_by}
use Rattle.stream_drain.specs.Program.{settings_with}
use Rattle.stream_drain.specs.Written.{written_by}
use Rattle.stream_drain.proofs.ProgramLemmas.{ends_over, runs_over}
use Rattle.stream_drain.proofs.drain_into.Goals as goal

pub returns-clause-ok : goal.returns-clause-ok
returns-clause-ok g c =
    let before = c.args.lines.now in
    let lines = written_by before.json (known_by before.known) before.log.batch.items
    (g.D.LogFile.seen before.log.file) before.log.len in
    let run = c.in_ok-run.run' in
    ends_over c.make_run.result run.worker.settings (settings_with c.args.options.dead c.args.options.settings) lines
    (standing_of run.worker lines) c.args.connection.now c.make_run.new.connection c.in_ok-run.ensures.settings
    c.in_ok-run.ensures.starts run.wait c.args.options.wait c.in_ok-run.ensures.wait c.make_run.ensures.ok

pub returns-clause-err : goal.returns-clause-err
returns-clause-err g c =
    let before = c.args.lines.now in
    let lines = written_by before.json (known_by before.known) before.log.batch.items
    (g.D.LogFile.seen before.log.file) before.log.len in
    let run = c.in_ok-run.run' in
    runs_over c.make_run.result run.worker.settings (settings_with c.args.options.dead c.args.options.settings) lines
    (standing_of run.worker lines) c.args.connection.now c.make_run.new.connection c.in_ok-run.ensures.settings
    c.in_ok-run.ensures.starts c.make_run.ensures.err
