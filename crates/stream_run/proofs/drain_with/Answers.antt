use Rattle.std.specs.Prelude.{string_bytes}
use Rattle.worker_jobs.specs.Talk.{talk_of}
use Rattle.stream_run.specs.Program.{first_talk, settings_with}
use Rattle.stream_run.proofs.ProgramLemmas.{fails_new, over_new}
use Rattle.stream_run.proofs.drain_with.Goals as goal

pub returns-clause-err : goal.returns-clause-err
returns-clause-err g c =
    let jobs = c.in_ok-jobs.jobs in
    let run = c.in_ok-run.run' in
    fails_new (settings_with c.args.options.dead c.args.options.settings) run.worker
    (talk_of jobs.over (string_bytes jobs.stream) (g.D.Write.contents jobs.lines) (g.C.Read.remaining jobs.replies))
    (first_talk c.args.options.settings (g.D.Write.contents c.args.lines) (g.C.Read.remaining c.args.replies))
    c.args.connection.now c.make_run.new.connection c.in_ok-run.ensures.worker c.in_ok-jobs.ensures.begins
    c.make_run.result c.make_run.ensures.err

pub returns-clause-child : goal.returns-clause-child
returns-clause-child g c =
    let jobs = c.in_ok-jobs.jobs in
    let run = c.in_ok-run.run' in
    over_new (settings_with c.args.options.dead c.args.options.settings) run.worker
    (talk_of jobs.over (string_bytes jobs.stream) (g.D.Write.contents jobs.lines) (g.C.Read.remaining jobs.replies))
    (first_talk c.args.options.settings (g.D.Write.contents c.args.lines) (g.C.Read.remaining c.args.replies))
    c.args.connection.now c.make_run.new.connection c.in_ok-run.ensures.worker c.in_ok-jobs.ensures.begins
    c.make_run.result c.make_run.ensures.child
