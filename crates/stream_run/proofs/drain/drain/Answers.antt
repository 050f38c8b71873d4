use Rattle.std.proofs.Common.{◌∙◌, refl, subst, ℕ, Bool, List, Option}
use Rattle.std.specs.Prelude.{string_bytes}
use Rattle.worker_jobs.specs.Talk.{Talk, talk_of}
use Rattle.worker.proofs.DeadLettersLemmas.DeadLemmas.{on_err}
use Rattle.stream_run.specs.Rounds.{Rounds, Stops, ends}
use Rattle.stream_run.proofs.RoundsLemmas.{rounds_both, rounds_end, rounds_stop}
use Rattle.worker.specs.Session.{Standing, standing_of}
use Rattle.worker.specs.declared.state.Settings.{Settings}
use Rattle.worker.specs.declared.worker.Worker.{Worker}
use Rattle.stream_run.proofs.drain.drain.Goals as goal

-- the state of a worker, with what its handler has said and heard
abbrev stands : Worker → Bool → List ℕ → Option (List ℕ) → Option (List ℕ) → Standing Talk
stands w over stream sent coming = standing_of w (talk_of over stream sent coming)

pub loop-init : goal.loop-init
loop-init g c = record { settings = refl; same_search = refl; rounds = ends c.args.connection.now _ }

pub returns-in_err-last-clause-err : goal.returns-in_err-last-clause-err
returns-in_err-last-clause-err g c =
    let x = stands c.loop.worker c.loop.jobs.over (string_bytes c.loop.jobs.stream) (g.D.Write.contents c.loop.jobs.lines)
    (g.C.Read.remaining c.loop.jobs.replies) in
    let y = stands c.make_turn.new.worker c.make_turn.new.jobs.over (string_bytes c.make_turn.new.jobs.stream)
    (g.D.Write.contents c.make_turn.new.jobs.lines) (g.C.Read.remaining c.make_turn.new.jobs.replies) in
    on_err c.from_residual.result
    (rounds_stop c.args.worker.now.settings c.args.connection.now c.loop.connection c.make_turn.new.connection _ x y
    c.loop.invariant.rounds (subst (λ (s : Settings). Stops s c.loop.connection c.make_turn.new.connection x y)
    c.loop.invariant.settings c.in_err-last.ensures.err))

pub returns-in_err-settle-clause-err : goal.returns-in_err-settle-clause-err
returns-in_err-settle-clause-err g c =
    let x = stands c.loop.worker c.loop.jobs.over (string_bytes c.loop.jobs.stream) (g.D.Write.contents c.loop.jobs.lines)
    (g.C.Read.remaining c.loop.jobs.replies) in
    let y = stands c.make_turn.new.worker c.make_turn.new.jobs.over (string_bytes c.make_turn.new.jobs.stream)
    (g.D.Write.contents c.make_turn.new.jobs.lines) (g.C.Read.remaining c.make_turn.new.jobs.replies) in
    let z = stands c.settle.new.worker c.settle.new.jobs.over (string_bytes c.settle.new.jobs.stream)
    (g.D.Write.contents c.settle.new.jobs.lines) (g.C.Read.remaining c.settle.new.jobs.replies) in
    on_err c.from_residual-in_err-settle.result
    (rounds_stop c.args.worker.now.settings c.args.connection.now c.make_turn.new.connection c.settle.new.connection _ y z
    (rounds_both c.args.worker.now.settings c.args.connection.now c.loop.connection c.make_turn.new.connection _ x y
    c.loop.invariant.rounds (subst (λ (s : Settings). Rounds s c.loop.connection x c.make_turn.new.connection y)
    c.loop.invariant.settings c.in_ok-last.ensures.ok))
    (subst (λ (s : Settings). Stops s c.make_turn.new.connection c.settle.new.connection y z)
    (c.make_turn.ensures.settings ∙ c.loop.invariant.settings) c.in_err-settle.ensures.err))

pub returns-then-is_over-clause-ok : goal.returns-then-is_over-clause-ok
returns-then-is_over-clause-ok g c =
    let x = stands c.loop.worker c.loop.jobs.over (string_bytes c.loop.jobs.stream) (g.D.Write.contents c.loop.jobs.lines)
    (g.C.Read.remaining c.loop.jobs.replies) in
    let y = stands c.make_turn.new.worker c.make_turn.new.jobs.over (string_bytes c.make_turn.new.jobs.stream)
    (g.D.Write.contents c.make_turn.new.jobs.lines) (g.C.Read.remaining c.make_turn.new.jobs.replies) in
    let z = stands c.settle.new.worker c.settle.new.jobs.over (string_bytes c.settle.new.jobs.stream)
    (g.D.Write.contents c.settle.new.jobs.lines) (g.C.Read.remaining c.settle.new.jobs.replies) in
    rounds_both c.args.worker.now.settings c.args.connection.now c.make_turn.new.connection c.settle.new.connection _ y z
    (rounds_both c.args.worker.now.settings c.args.connection.now c.loop.connection c.make_turn.new.connection _ x y
    c.loop.invariant.rounds (subst (λ (s : Settings). Rounds s c.loop.connection x c.make_turn.new.connection y)
    c.loop.invariant.settings c.in_ok-last.ensures.ok))
    (subst (λ (s : Settings). Rounds s c.make_turn.new.connection y c.settle.new.connection z)
    (c.make_turn.ensures.settings ∙ c.loop.invariant.settings) c.in_ok-settle.ensures.ok)

pub returns-in_err-check_stop-clause-err : goal.returns-in_err-check_stop-clause-err
returns-in_err-check_stop-clause-err g c =
    let x = stands c.loop.worker c.loop.jobs.over (string_bytes c.loop.jobs.stream) (g.D.Write.contents c.loop.jobs.lines)
    (g.C.Read.remaining c.loop.jobs.replies) in
    let y = stands c.make_turn.new.worker c.make_turn.new.jobs.over (string_bytes c.make_turn.new.jobs.stream)
    (g.D.Write.contents c.make_turn.new.jobs.lines) (g.C.Read.remaining c.make_turn.new.jobs.replies) in
    let z = stands c.settle.new.worker c.settle.new.jobs.over (string_bytes c.settle.new.jobs.stream)
    (g.D.Write.contents c.settle.new.jobs.lines) (g.C.Read.remaining c.settle.new.jobs.replies) in
    on_err c.from_residual-in_err-check_stop.result
    (rounds_end c.args.worker.now.settings c.args.connection.now c.settle.new.connection _ z
    (rounds_both c.args.worker.now.settings c.args.connection.now c.make_turn.new.connection c.settle.new.connection _ y z
    (rounds_both c.args.worker.now.settings c.args.connection.now c.loop.connection c.make_turn.new.connection _ x y
    c.loop.invariant.rounds (subst (λ (s : Settings). Rounds s c.loop.connection x c.make_turn.new.connection y)
    c.loop.invariant.settings c.in_ok-last.ensures.ok))
    (subst (λ (s : Settings). Rounds s c.make_turn.new.connection y c.settle.new.connection z)
    (c.make_turn.ensures.settings ∙ c.loop.invariant.settings) c.in_ok-settle.ensures.ok)))

pub returns-then-jobs-last-clause-ok : goal.returns-then-jobs-last-clause-ok
returns-then-jobs-last-clause-ok g c =
    let x = stands c.loop.worker c.loop.jobs.over (string_bytes c.loop.jobs.stream) (g.D.Write.contents c.loop.jobs.lines)
    (g.C.Read.remaining c.loop.jobs.replies) in
    let y = stands c.make_turn.new.worker c.make_turn.new.jobs.over (string_bytes c.make_turn.new.jobs.stream)
    (g.D.Write.contents c.make_turn.new.jobs.lines) (g.C.Read.remaining c.make_turn.new.jobs.replies) in
    rounds_both c.args.worker.now.settings c.args.connection.now c.loop.connection c.make_turn.new.connection _ x y
    c.loop.invariant.rounds (subst (λ (s : Settings). Rounds s c.loop.connection x c.make_turn.new.connection y)
    c.loop.invariant.settings c.in_ok-last.ensures.ok)

pub loop-preserved : goal.loop-preserved
loop-preserved g c =
    let x = stands c.loop.worker c.loop.jobs.over (string_bytes c.loop.jobs.stream) (g.D.Write.contents c.loop.jobs.lines)
    (g.C.Read.remaining c.loop.jobs.replies) in
    let y = stands c.make_turn.new.worker c.make_turn.new.jobs.over (string_bytes c.make_turn.new.jobs.stream)
    (g.D.Write.contents c.make_turn.new.jobs.lines) (g.C.Read.remaining c.make_turn.new.jobs.replies) in
    record {
      settings = c.make_turn.ensures.settings ∙ c.loop.invariant.settings;
      same_search = c.make_turn.ensures.same_search ∙ c.loop.invariant.same_search;
      rounds = rounds_both c.args.worker.now.settings c.args.connection.now c.loop.connection c.make_turn.new.connection _ x y
          c.loop.invariant.rounds (subst (λ (s : Settings). Rounds s c.loop.connection x c.make_turn.new.connection y)
          c.loop.invariant.settings c.in_ok-last.ensures.ok);
    }
