use Rattle.std.specs.Prelude.{string_bytes}
use Rattle.worker.specs.Session.{standing_of}
use Rattle.worker_jobs.specs.Talk.{talk_of}
use Rattle.worker.proofs.DeadLettersLemmas.DeadLemmas.{on_err}
use Rattle.stream_run.proofs.ProgramLemmas.{either_way, ends_so, over_so, stops_so}
use Rattle.stream_run.proofs.make_run.Goals as goal

pub returns-clause-ok : goal.returns-clause-ok
returns-clause-ok g c =
    let before = c.args.jobs.now in
    let after = c.drain-ended.new.jobs in
    ends_so c.drain-ended.result c.args.run.now.worker.settings c.args.run.now.until_empty c.args.connection.now
    c.drain-ended.new.connection
    (standing_of c.args.run.now.worker (talk_of before.over (string_bytes before.stream) (g.D.Write.contents before.lines)
    (g.C.Read.remaining before.replies)))
    c.drain-ended.new.worker after.over (string_bytes after.stream) (g.D.Write.contents after.lines)
    (g.C.Read.remaining after.replies) c.drain-ended.ensures.ok c.drain-ended.ensures.ended

pub returns-clause-err : goal.returns-clause-err
returns-clause-err g c =
    let before = c.args.jobs.now in
    let after = c.drain-ended.new.jobs in
    stops_so c.drain-ended.result c.args.run.now.worker.settings c.args.run.now.until_empty c.args.connection.now
    c.drain-ended.new.connection
    (standing_of c.args.run.now.worker (talk_of before.over (string_bytes before.stream) (g.D.Write.contents before.lines)
    (g.C.Read.remaining before.replies)))
    c.drain-ended.new.worker after.over (string_bytes after.stream) (g.D.Write.contents after.lines)
    (g.C.Read.remaining after.replies) c.drain-ended.ensures.err

pub returns-in_err-show_report-clause-err : goal.returns-in_err-show_report-clause-err
returns-in_err-show_report-clause-err g c =
    let before = c.args.jobs.now in
    let after = c.drain-ended.new.jobs in
    on_err c.from_residual.result
    (either_way c.drain-ended.result c.args.run.now.worker.settings c.args.run.now.until_empty c.args.connection.now
    c.drain-ended.new.connection
    (standing_of c.args.run.now.worker (talk_of before.over (string_bytes before.stream) (g.D.Write.contents before.lines)
    (g.C.Read.remaining before.replies)))
    c.drain-ended.new.worker after.over (string_bytes after.stream) (g.D.Write.contents after.lines)
    (g.C.Read.remaining after.replies) c.drain-ended.ensures.ok c.drain-ended.ensures.err)

pub returns-clause-child : goal.returns-clause-child
returns-clause-child g c =
    let before = c.args.jobs.now in
    let after = c.drain-ended.new.jobs in
    over_so c.drain-ended.result c.args.run.now.worker.settings c.args.connection.now c.drain-ended.new.connection
    (standing_of c.args.run.now.worker (talk_of before.over (string_bytes before.stream) (g.D.Write.contents before.lines)
    (g.C.Read.remaining before.replies)))
    c.drain-ended.new.worker after.over (string_bytes after.stream) (g.D.Write.contents after.lines)
    (g.C.Read.remaining after.replies) c.drain-ended.ensures.err c.drain-ended.ensures.child
