use Rattle.std.proofs.lemmas.Bool.{le-ltb}
use Rattle.worker.proofs.DeadLettersLemmas.DeadLemmas.{on_err}
use Rattle.stream_run.proofs.GivenUpLemmas.{dead_besides}
use Rattle.stream_run.proofs.ProgramLemmas.{searched_first}
use Rattle.stream_run.proofs.RoundsLemmas.{rounds_adds, rounds_besides, rounds_both, rounds_end, rounds_stop, stops_adding}
use Rattle.stream_run.proofs.RoundsLemmas.{stops_besides}
use Rattle.stream_run.proofs.drain.make_turn.Goals as goal

pub returns-in_err-look-clause-err : goal.returns-in_err-look-clause-err
returns-in_err-look-clause-err g c = on_err c.from_residual.result
    (stops_besides c.args.worker.now.settings c.args.connection.now c.look.new.connection _ c.in_err-look.ensures.err)

pub returns-in_err-made-clause-err : goal.returns-in_err-made-clause-err
returns-in_err-made-clause-err g c = on_err c.from_residual-in_err-made.result
    (rounds_stop c.args.worker.now.settings c.args.connection.now c.look.new.connection c.make_round.new.connection _ _ _
    (rounds_besides c.args.worker.now.settings c.args.connection.now c.look.new.connection _ c.in_ok-look.ensures.ok)
    c.in_err-made.ensures.err)

pub returns-in_err-send_added-clause-err : goal.returns-in_err-send_added-clause-err
returns-in_err-send_added-clause-err g c = on_err c.from_residual-in_err-send_added.result
    (rw c.send_added.ensures.kept
    (rounds_stop c.args.worker.now.settings c.args.connection.now c.make_round.new.connection c.send_added.new.connection _ _ _
    (rounds_both c.args.worker.now.settings c.args.connection.now c.look.new.connection c.make_round.new.connection _ _ _
    (rounds_besides c.args.worker.now.settings c.args.connection.now c.look.new.connection _ c.in_ok-look.ensures.ok)
    c.in_ok-made.ensures.ok)
    (stops_adding c.args.worker.now.settings c.make_round.new.connection c.send_added.new.connection _
    c.in_err-send_added.ensures.err)))

pub returns-in_err-show_notes-clause-err : goal.returns-in_err-show_notes-clause-err
returns-in_err-show_notes-clause-err g c = on_err c.from_residual-in_err-show_notes.result
    (rw c.take_notes-notes.ensures.kept (rw c.send_added.ensures.kept
    (rounds_end c.args.worker.now.settings c.args.connection.now c.send_added.new.connection _ _
    (rounds_both c.args.worker.now.settings c.args.connection.now c.make_round.new.connection c.send_added.new.connection _ _ _
    (rounds_both c.args.worker.now.settings c.args.connection.now c.look.new.connection c.make_round.new.connection _ _ _
    (rounds_besides c.args.worker.now.settings c.args.connection.now c.look.new.connection _ c.in_ok-look.ensures.ok)
    c.in_ok-made.ensures.ok)
    (rounds_adds c.args.worker.now.settings c.make_round.new.connection c.send_added.new.connection _
    c.in_ok-send_added.ensures.ok)))))

pub returns-in_err-give_up_dead-clause-err : goal.returns-in_err-give_up_dead-clause-err
returns-in_err-give_up_dead-clause-err g c = on_err c.from_residual-in_err-give_up_dead.result
    (rw c.take_notes-notes.ensures.kept (rw c.send_added.ensures.kept
    (rounds_stop c.args.worker.now.settings c.args.connection.now c.send_added.new.connection
    c.give_up_dead.new.connection _ _ _
    (rounds_both c.args.worker.now.settings c.args.connection.now c.make_round.new.connection c.send_added.new.connection _ _ _
    (rounds_both c.args.worker.now.settings c.args.connection.now c.look.new.connection c.make_round.new.connection _ _ _
    (rounds_besides c.args.worker.now.settings c.args.connection.now c.look.new.connection _ c.in_ok-look.ensures.ok)
    c.in_ok-made.ensures.ok)
    (rounds_adds c.args.worker.now.settings c.make_round.new.connection c.send_added.new.connection _
    c.in_ok-send_added.ensures.ok))
    (stops_besides c.args.worker.now.settings c.send_added.new.connection c.give_up_dead.new.connection _
    c.in_err-give_up_dead.ensures.err))))

pub returns-clause-ok : goal.returns-clause-ok
returns-clause-ok g c =
    rw c.take_notes-notes.ensures.kept (rw c.send_added.ensures.kept
    (rounds_both c.args.worker.now.settings c.args.connection.now c.send_added.new.connection
    c.give_up_dead.new.connection _ _ _
    (rounds_both c.args.worker.now.settings c.args.connection.now c.make_round.new.connection c.send_added.new.connection _ _ _
    (rounds_both c.args.worker.now.settings c.args.connection.now c.look.new.connection c.make_round.new.connection _ _ _
    (rounds_besides c.args.worker.now.settings c.args.connection.now c.look.new.connection _ c.in_ok-look.ensures.ok)
    c.in_ok-made.ensures.ok)
    (rounds_adds c.args.worker.now.settings c.make_round.new.connection c.send_added.new.connection _
    c.in_ok-send_added.ensures.ok))
    (rounds_besides c.args.worker.now.settings c.send_added.new.connection c.give_up_dead.new.connection _
    (dead_besides _ _ _ _ c.in_ok-give_up_dead.ensures.ok))))

pub returns-clause-searches : goal.returns-clause-searches
returns-clause-searches g c = λ settled.
    rw c.take_notes-notes.ensures.kept (rw c.send_added.ensures.kept
    (searched_first c.args.worker.now.settings c.args.dead.now c.args.asked c.args.connection.now c.look.new.connection
    c.give_up_dead.new.connection _ _ (c.in_ok-look.ensures.searches (le-ltb _ _ settled))
    (rounds_both c.args.worker.now.settings c.look.new.connection c.send_added.new.connection
    c.give_up_dead.new.connection _ _ _
    (rounds_both c.args.worker.now.settings c.look.new.connection c.make_round.new.connection c.send_added.new.connection _ _ _
    c.in_ok-made.ensures.ok
    (rounds_adds c.args.worker.now.settings c.make_round.new.connection c.send_added.new.connection _
    c.in_ok-send_added.ensures.ok))
    (rounds_besides c.args.worker.now.settings c.send_added.new.connection c.give_up_dead.new.connection _
    (dead_besides _ _ _ _ c.in_ok-give_up_dead.ensures.ok)))))
