use Rattle.worker.specs.Session.{standing_of}
use Rattle.worker.proofs.SessionLemmas.{not_received, unanswered, was_asked}
use Rattle.worker.proofs.worker.Worker.try_ask.Goals as goal

pub returns-clause-ok : goal.returns-clause-ok
returns-clause-ok g c =
    let h = g.H.Handler.history in
    was_asked g.H.Handler.with_commit c.args.self.now.settings c.args.connection.now c.send_next.new.connection
    c.receive.new.self (standing_of c.args.self.now (h c.args.handler.now))
    (standing_of c.send_next.new.self (h c.send_next.new.handler)) c.asked.result c.receive.result c.name_command.result
    c.in_ok-send_next.ensures.ok c.name_command.ensures c.receive.ensures.ok

pub returns-clause-err : goal.returns-clause-err
returns-clause-err g c =
    let h = g.H.Handler.history in
    unanswered g.H.Handler.with_commit c.args.self.now.settings c.args.connection.now c.send_next.new.connection
    c.receive.new.self (standing_of c.args.self.now (h c.args.handler.now))
    (standing_of c.send_next.new.self (h c.send_next.new.handler)) c.asked.result c.name_command.result
    c.in_ok-send_next.ensures.ok c.asked.ensures
    (not_received c.asked.result c.send_next.new.connection c.receive.new.self c.receive.result c.name_command.result
    c.name_command.ensures c.receive.ensures.err c.receive.ensures.ended c.receive.ensures.faulty)
