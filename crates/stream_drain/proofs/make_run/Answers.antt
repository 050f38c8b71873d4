use Rattle.worker.specs.Session.{standing_of}
use Rattle.worker.proofs.DeadLettersLemmas.DeadLemmas.{on_err}
use Rattle.stream_drain.specs.Known.{known_by}
use Rattle.stream_drain.specs.Written.{written_by}
use Rattle.stream_drain.proofs.ProgramLemmas.{either_way, ends_so, stops_so}
use Rattle.stream_drain.proofs.make_run.Goals as goal

pub returns-clause-ok : goal.returns-clause-ok
returns-clause-ok g c =
    let before = c.args.lines.now in
    let after = c.drain-ended.new.lines in
    ends_so c.drain-ended.result c.args.run.now.worker.settings c.args.run.now.wait c.args.connection.now
    c.drain-ended.new.connection
    (standing_of c.args.run.now.worker (written_by before.json (known_by before.known) before.log.batch.items
    (g.D.LogFile.seen before.log.file) before.log.len))
    (standing_of c.drain-ended.new.worker (written_by after.json (known_by after.known) after.log.batch.items
    (g.D.LogFile.seen after.log.file) after.log.len))
    c.drain-ended.ensures.ok c.drain-ended.ensures.confirmed

pub returns-clause-err : goal.returns-clause-err
returns-clause-err g c =
    let before = c.args.lines.now in
    let after = c.drain-ended.new.lines in
    stops_so c.drain-ended.result c.args.run.now.worker.settings c.args.run.now.wait c.args.connection.now
    c.drain-ended.new.connection
    (standing_of c.args.run.now.worker (written_by before.json (known_by before.known) before.log.batch.items
    (g.D.LogFile.seen before.log.file) before.log.len))
    (standing_of c.drain-ended.new.worker (written_by after.json (known_by after.known) after.log.batch.items
    (g.D.LogFile.seen after.log.file) after.log.len))
    c.drain-ended.ensures.err

pub returns-in_err-show_report-clause-err : goal.returns-in_err-show_report-clause-err
returns-in_err-show_report-clause-err g c =
    let before = c.args.lines.now in
    let after = c.drain-ended.new.lines in
    on_err c.from_residual.result
    (either_way c.drain-ended.result c.args.run.now.worker.settings c.args.run.now.wait c.args.connection.now
    c.drain-ended.new.connection
    (standing_of c.args.run.now.worker (written_by before.json (known_by before.known) before.log.batch.items
    (g.D.LogFile.seen before.log.file) before.log.len))
    (standing_of c.drain-ended.new.worker (written_by after.json (known_by after.known) after.log.batch.items
    (g.D.LogFile.seen after.log.file) after.log.len))
    c.drain-ended.ensures.ok c.drain-ended.ensures.err)
