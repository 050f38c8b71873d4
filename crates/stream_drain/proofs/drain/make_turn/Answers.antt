use Rattle.std.proofs.Common.{ℕ, Bool, List, Option}
use Rattle.worker.specs.Session.{Standing, standing_of}
use Rattle.worker.specs.declared.worker.Worker.{Worker}
use Rattle.stream_drain.specs.Known.{Known, known_by}
use Rattle.stream_drain.specs.Written.{Written, written_by}
use Rattle.worker.proofs.DeadLettersLemmas.DeadLemmas.{on_err}
use Rattle.stream_drain.proofs.LivedLemmas.{leads_besides, leads_both, leads_breaks, leads_stop}
use Rattle.stream_drain.proofs.ProgramLemmas.{searched_first}
use Rattle.stream_drain.proofs.TurnLemmas.{confirmed_turn}
use Rattle.stream_drain.proofs.drain.make_turn.Goals as goal

-- the state of a worker, with what its handler has written
abbrev stands : Worker → Bool → Known → List ℕ → Option (List ℕ) → ℕ → Standing Written
stands w json known loose file len = standing_of w (written_by json known loose file len)

pub returns-in_err-look-clause-err : goal.returns-in_err-look-clause-err
returns-in_err-look-clause-err g c =
    let w = stands c.args.worker.now c.args.lines.now.json (known_by c.args.lines.now.known) c.args.lines.now.log.batch.items
    (g.D.LogFile.seen c.args.lines.now.log.file) c.args.lines.now.log.len in
    on_err c.from_residual.result
    (leads_breaks c.args.worker.now.settings c.args.connection.now c.look.new.connection w c.in_err-look.ensures.err)

pub returns-in_err-made-clause-err : goal.returns-in_err-made-clause-err
returns-in_err-made-clause-err g c =
    let settings = c.args.worker.now.settings in
    let w = stands c.args.worker.now c.args.lines.now.json (known_by c.args.lines.now.known) c.args.lines.now.log.batch.items
    (g.D.LogFile.seen c.args.lines.now.log.file) c.args.lines.now.log.len in
    let y = stands c.make_any_round.new.worker c.make_any_round.new.lines.json (known_by c.make_any_round.new.lines.known) c.make_any_round.new.lines.log.batch.items
    (g.D.LogFile.seen c.make_any_round.new.lines.log.file) c.make_any_round.new.lines.log.len in
    on_err c.from_residual-in_err-made.result
    (leads_stop settings c.args.connection.now c.look.new.connection c.make_any_round.new.connection w w y
    (leads_besides settings c.args.connection.now c.look.new.connection w c.in_ok-look.ensures.ok)
    c.in_err-made.ensures.err)

pub returns-in_err-count-clause-err : goal.returns-in_err-count-clause-err
returns-in_err-count-clause-err g c =
    let settings = c.args.worker.now.settings in
    let w = stands c.args.worker.now c.args.lines.now.json (known_by c.args.lines.now.known) c.args.lines.now.log.batch.items
    (g.D.LogFile.seen c.args.lines.now.log.file) c.args.lines.now.log.len in
    let y = stands c.make_any_round.new.worker c.make_any_round.new.lines.json (known_by c.make_any_round.new.lines.known) c.make_any_round.new.lines.log.batch.items
    (g.D.LogFile.seen c.make_any_round.new.lines.log.file) c.make_any_round.new.lines.log.len in
    on_err c.from_residual-in_err-count.result
    (leads_stop settings c.args.connection.now c.make_any_round.new.connection c.count.new.connection w y y
    (leads_both settings c.args.connection.now c.look.new.connection c.make_any_round.new.connection w w y
    (leads_besides settings c.args.connection.now c.look.new.connection w c.in_ok-look.ensures.ok)
    c.in_ok-made.ensures.ok)
    (leads_breaks settings c.make_any_round.new.connection c.count.new.connection y c.in_err-count.ensures.err))

pub returns-clause-ok : goal.returns-clause-ok
returns-clause-ok g c =
    let settings = c.args.worker.now.settings in
    let w = stands c.args.worker.now c.args.lines.now.json (known_by c.args.lines.now.known) c.args.lines.now.log.batch.items
    (g.D.LogFile.seen c.args.lines.now.log.file) c.args.lines.now.log.len in
    let y = stands c.make_any_round.new.worker c.make_any_round.new.lines.json (known_by c.make_any_round.new.lines.known) c.make_any_round.new.lines.log.batch.items
    (g.D.LogFile.seen c.make_any_round.new.lines.log.file) c.make_any_round.new.lines.log.len in
    leads_both settings c.args.connection.now c.make_any_round.new.connection c.count.new.connection w y y
    (leads_both settings c.args.connection.now c.look.new.connection c.make_any_round.new.connection w w y
    (leads_besides settings c.args.connection.now c.look.new.connection w c.in_ok-look.ensures.ok)
    c.in_ok-made.ensures.ok)
    (leads_besides settings c.make_any_round.new.connection c.count.new.connection y c.in_ok-count.ensures.ok)

pub returns-clause-confirmed : goal.returns-clause-confirmed
returns-clause-confirmed g c =
    confirmed_turn _ _ c.args.worker.now.settings c.args.wait c.args.connection.now c.look.new.connection
    c.make_any_round.new.connection c.count.new.connection _ _ c.in_ok-made.made.round.asked c.in_ok-made.made.round.progress
    c.in_ok-look.ensures.ok c.in_ok-made.ensures.confirmed c.in_ok-count.ensures.ok

pub returns-clause-searches : goal.returns-clause-searches
returns-clause-searches g c = λ settled.
    let settings = c.args.worker.now.settings in
    let w = stands c.args.worker.now c.args.lines.now.json (known_by c.args.lines.now.known) c.args.lines.now.log.batch.items
    (g.D.LogFile.seen c.args.lines.now.log.file) c.args.lines.now.log.len in
    let y = stands c.make_any_round.new.worker c.make_any_round.new.lines.json (known_by c.make_any_round.new.lines.known) c.make_any_round.new.lines.log.batch.items
    (g.D.LogFile.seen c.make_any_round.new.lines.log.file) c.make_any_round.new.lines.log.len in
    searched_first settings c.args.dead.now c.args.asked c.args.connection.now c.look.new.connection c.count.new.connection
    w y (c.in_ok-look.ensures.searches settled)
    (leads_both settings c.look.new.connection c.make_any_round.new.connection c.count.new.connection w y y
    c.in_ok-made.ensures.ok
    (leads_besides settings c.make_any_round.new.connection c.count.new.connection y c.in_ok-count.ensures.ok))
