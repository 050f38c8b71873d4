use Rattle.std.proofs.Common.{◌∙◌, ◌+◌, IfSome, refl, subst, ℕ, Bool, List, Option}
use Rattle.worker.specs.Session.{Standing, standing_of}
use Rattle.worker.specs.declared.state.Settings.{Settings}
use Rattle.worker.specs.declared.worker.Worker.{Worker}
use Rattle.stream_drain.specs.Lived.{Leads}
use Rattle.model_workers.specs.Loops.Loop.{Loops, Stops}
use Rattle.stream_drain.specs.Known.{Known, known_by}
use Rattle.stream_drain.specs.Turn.{IsConfirmedTurn}
use Rattle.stream_drain.specs.Written.{Written, committed_with, written_by, written_too}
use Rattle.worker.proofs.DeadLettersLemmas.DeadLemmas.{on_err}
use Rattle.stream_drain.proofs.FiledLemmas.{filed_from, with_loops, with_stops}
use Rattle.stream_drain.proofs.LivedLemmas.{leads_both, leads_end, leads_same, leads_stop}
use Rattle.stream_drain.proofs.TurnLemmas.{no_turn, one_more_turn, so_many_turns}
use Rattle.stream_drain.proofs.drain.drain.Goals as goal

-- the state of a worker, with what its handler has written
abbrev stands : Worker → Bool → Known → List ℕ → Option (List ℕ) → ℕ → Standing Written
stands w json known loose file len = standing_of w (written_by json known loose file len)

pub returns-in_err-last-clause-err : goal.returns-in_err-last-clause-err
returns-in_err-last-clause-err g c =
    let settings = c.args.worker.now.settings in
    let w = stands c.args.worker.now c.args.lines.now.json (known_by c.args.lines.now.known) c.args.lines.now.log.batch.items
    (g.D.LogFile.seen c.args.lines.now.log.file) c.args.lines.now.log.len in
    let x = stands c.loop-turn.worker c.loop-turn.lines.json (known_by c.loop-turn.lines.known) c.loop-turn.lines.log.batch.items
    (g.D.LogFile.seen c.loop-turn.lines.log.file) c.loop-turn.lines.log.len in
    let y = stands c.make_turn.new.worker c.make_turn.new.lines.json (known_by c.make_turn.new.lines.known) c.make_turn.new.lines.log.batch.items
    (g.D.LogFile.seen c.make_turn.new.lines.log.file) c.make_turn.new.lines.log.len in
    on_err c.from_residual.result
    (leads_stop settings c.args.connection.now c.loop-turn.connection c.make_turn.new.connection w x y c.loop-turn.invariant.leads
    (subst (λ (s : Settings). Leads (Stops s) c.loop-turn.connection c.make_turn.new.connection x y)
    c.loop-turn.invariant.settings c.in_err-last.ensures.err))

pub returns-in_err-last-clause-filed : goal.returns-in_err-last-clause-filed
returns-in_err-last-clause-filed g c =
    let settings = c.args.worker.now.settings in
    let w = stands c.args.worker.now c.args.lines.now.json (known_by c.args.lines.now.known) c.args.lines.now.log.batch.items
    (g.D.LogFile.seen c.args.lines.now.log.file) c.args.lines.now.log.len in
    let x = stands c.loop-turn.worker c.loop-turn.lines.json (known_by c.loop-turn.lines.known) c.loop-turn.lines.log.batch.items
    (g.D.LogFile.seen c.loop-turn.lines.log.file) c.loop-turn.lines.log.len in
    let y = stands c.make_turn.new.worker c.make_turn.new.lines.json (known_by c.make_turn.new.lines.known) c.make_turn.new.lines.log.batch.items
    (g.D.LogFile.seen c.make_turn.new.lines.log.file) c.make_turn.new.lines.log.len in
    filed_from g.D.LogFile.seen g.D.LogFile.may_leave g.D.LogFile.is_sound settings c.args.connection.now
    c.make_turn.new.connection w c.make_turn.new.worker c.make_turn.new.lines.json (known_by c.make_turn.new.lines.known) c.make_turn.new.lines.log.batch.items
    c.make_turn.new.lines.log.file c.make_turn.new.lines.log.len c.make_turn.new.lines.log.is_broken c.make_turn.new.lines.held
    (with_stops settings c.args.connection.now c.make_turn.new.connection w y
    (leads_stop settings c.args.connection.now c.loop-turn.connection c.make_turn.new.connection w x y c.loop-turn.invariant.leads
    (subst (λ (s : Settings). Leads (Stops s) c.loop-turn.connection c.make_turn.new.connection x y)
    c.loop-turn.invariant.settings c.in_err-last.ensures.err)))

pub returns-then-lines-last-clause-ok : goal.returns-then-lines-last-clause-ok
returns-then-lines-last-clause-ok g c =
    let settings = c.args.worker.now.settings in
    let w = stands c.args.worker.now c.args.lines.now.json (known_by c.args.lines.now.known) c.args.lines.now.log.batch.items
    (g.D.LogFile.seen c.args.lines.now.log.file) c.args.lines.now.log.len in
    let x = stands c.loop-turn.worker c.loop-turn.lines.json (known_by c.loop-turn.lines.known) c.loop-turn.lines.log.batch.items
    (g.D.LogFile.seen c.loop-turn.lines.log.file) c.loop-turn.lines.log.len in
    let y = stands c.make_turn.new.worker c.make_turn.new.lines.json (known_by c.make_turn.new.lines.known) c.make_turn.new.lines.log.batch.items
    (g.D.LogFile.seen c.make_turn.new.lines.log.file) c.make_turn.new.lines.log.len in
    leads_both settings c.args.connection.now c.loop-turn.connection c.make_turn.new.connection w x y c.loop-turn.invariant.leads
    (subst (λ (s : Settings). Leads (Loops s) c.loop-turn.connection c.make_turn.new.connection x y)
    c.loop-turn.invariant.settings c.in_ok-last.ensures.ok)

pub returns-then-lines-last-clause-confirmed : goal.returns-then-lines-last-clause-confirmed
returns-then-lines-last-clause-confirmed g c =
    let settings = c.args.worker.now.settings in
    let w = stands c.args.worker.now c.args.lines.now.json (known_by c.args.lines.now.known) c.args.lines.now.log.batch.items
    (g.D.LogFile.seen c.args.lines.now.log.file) c.args.lines.now.log.len in
    let x = stands c.loop-turn.worker c.loop-turn.lines.json (known_by c.loop-turn.lines.known) c.loop-turn.lines.log.batch.items
    (g.D.LogFile.seen c.loop-turn.lines.log.file) c.loop-turn.lines.log.len in
    let y = stands c.make_turn.new.worker c.make_turn.new.lines.json (known_by c.make_turn.new.lines.known) c.make_turn.new.lines.log.batch.items
    (g.D.LogFile.seen c.make_turn.new.lines.log.file) c.make_turn.new.lines.log.len in
    so_many_turns c.args.wait settings (c.loop-turn._turn + 1) c.args.connection.now c.make_turn.new.connection w y
    (one_more_turn c.args.wait settings c.loop-turn._turn c.args.connection.now c.loop-turn.connection
    c.make_turn.new.connection w x y c.in_ok-last.last.asked c.loop-turn.invariant.confirmed
    (subst (λ (s : Settings). IfSome c.args.wait (λ one. IsConfirmedTurn written_too committed_with s one
    c.loop-turn.connection c.make_turn.new.connection x y c.in_ok-last.last.asked))
    c.loop-turn.invariant.settings c.in_ok-last.ensures.confirmed))

pub returns-then-lines-last-clause-filed : goal.returns-then-lines-last-clause-filed
returns-then-lines-last-clause-filed g c =
    let settings = c.args.worker.now.settings in
    let w = stands c.args.worker.now c.args.lines.now.json (known_by c.args.lines.now.known) c.args.lines.now.log.batch.items
    (g.D.LogFile.seen c.args.lines.now.log.file) c.args.lines.now.log.len in
    let y = stands c.make_turn.new.worker c.make_turn.new.lines.json (known_by c.make_turn.new.lines.known) c.make_turn.new.lines.log.batch.items
    (g.D.LogFile.seen c.make_turn.new.lines.log.file) c.make_turn.new.lines.log.len in
    filed_from g.D.LogFile.seen g.D.LogFile.may_leave g.D.LogFile.is_sound settings c.args.connection.now
    c.make_turn.new.connection w c.make_turn.new.worker c.make_turn.new.lines.json (known_by c.make_turn.new.lines.known) c.make_turn.new.lines.log.batch.items
    c.make_turn.new.lines.log.file c.make_turn.new.lines.log.len c.make_turn.new.lines.log.is_broken c.make_turn.new.lines.held
    (with_loops settings c.args.connection.now c.make_turn.new.connection w y (returns-then-lines-last-clause-ok g c))

pub returns-clause-err : goal.returns-clause-err
returns-clause-err g c =
    let w = stands c.args.worker.now c.args.lines.now.json (known_by c.args.lines.now.known) c.args.lines.now.log.batch.items
    (g.D.LogFile.seen c.args.lines.now.log.file) c.args.lines.now.log.len in
    let x = stands c.loop-turn.worker c.loop-turn.lines.json (known_by c.loop-turn.lines.known) c.loop-turn.lines.log.batch.items
    (g.D.LogFile.seen c.loop-turn.lines.log.file) c.loop-turn.lines.log.len in
    leads_end c.args.worker.now.settings c.args.connection.now c.loop-turn.connection w x c.loop-turn.invariant.leads

pub returns-clause-filed : goal.returns-clause-filed
returns-clause-filed g c =
    let settings = c.args.worker.now.settings in
    let w = stands c.args.worker.now c.args.lines.now.json (known_by c.args.lines.now.known) c.args.lines.now.log.batch.items
    (g.D.LogFile.seen c.args.lines.now.log.file) c.args.lines.now.log.len in
    let x = stands c.loop-turn.worker c.loop-turn.lines.json (known_by c.loop-turn.lines.known) c.loop-turn.lines.log.batch.items
    (g.D.LogFile.seen c.loop-turn.lines.log.file) c.loop-turn.lines.log.len in
    filed_from g.D.LogFile.seen g.D.LogFile.may_leave g.D.LogFile.is_sound settings c.args.connection.now
    c.loop-turn.connection w c.loop-turn.worker c.loop-turn.lines.json (known_by c.loop-turn.lines.known) c.loop-turn.lines.log.batch.items c.loop-turn.lines.log.file
    c.loop-turn.lines.log.len c.loop-turn.lines.log.is_broken c.loop-turn.lines.held
    (with_loops settings c.args.connection.now c.loop-turn.connection w x c.loop-turn.invariant.leads)

pub loop-turn-init : goal.loop-turn-init
loop-turn-init g c =
    let w = stands c.args.worker.now c.args.lines.now.json (known_by c.args.lines.now.known) c.args.lines.now.log.batch.items
    (g.D.LogFile.seen c.args.lines.now.log.file) c.args.lines.now.log.len in
    record {
      settings = refl;
      same_search = refl;
      leads = leads_same c.args.worker.now.settings c.args.connection.now w;
      confirmed = no_turn c.args.wait c.args.worker.now.settings c.args.connection.now w;
    }

pub loop-turn-preserved : goal.loop-turn-preserved
loop-turn-preserved g c =
    let settings = c.args.worker.now.settings in
    let w = stands c.args.worker.now c.args.lines.now.json (known_by c.args.lines.now.known) c.args.lines.now.log.batch.items
    (g.D.LogFile.seen c.args.lines.now.log.file) c.args.lines.now.log.len in
    let x = stands c.loop-turn.worker c.loop-turn.lines.json (known_by c.loop-turn.lines.known) c.loop-turn.lines.log.batch.items
    (g.D.LogFile.seen c.loop-turn.lines.log.file) c.loop-turn.lines.log.len in
    let y = stands c.make_turn.new.worker c.make_turn.new.lines.json (known_by c.make_turn.new.lines.known) c.make_turn.new.lines.log.batch.items
    (g.D.LogFile.seen c.make_turn.new.lines.log.file) c.make_turn.new.lines.log.len in
    record {
      settings = c.make_turn.ensures.settings ∙ c.loop-turn.invariant.settings;
      same_search = c.make_turn.ensures.same_search ∙ c.loop-turn.invariant.same_search;
      leads = leads_both settings c.args.connection.now c.loop-turn.connection c.make_turn.new.connection w x y
          c.loop-turn.invariant.leads
          (subst (λ (s : Settings). Leads (Loops s) c.loop-turn.connection c.make_turn.new.connection x y)
          c.loop-turn.invariant.settings c.in_ok-last.ensures.ok);
      confirmed = one_more_turn c.args.wait settings c.loop-turn._turn c.args.connection.now c.loop-turn.connection
          c.make_turn.new.connection w x y c.in_ok-last.last.asked c.loop-turn.invariant.confirmed
          (subst (λ (s : Settings). IfSome c.args.wait (λ one. IsConfirmedTurn written_too committed_with s one
          c.loop-turn.connection c.make_turn.new.connection x y c.in_ok-last.last.asked))
          c.loop-turn.invariant.settings c.in_ok-last.ensures.confirmed);
    }
