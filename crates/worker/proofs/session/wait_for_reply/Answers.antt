use Rattle.redis_connection.specs.Passing.{IsAnswerInPlace}
use Rattle.worker.proofs.SessionLemmas.{not_received, received_ok}
use Rattle.worker.proofs.session.wait_for_reply.Goals as goal

pub returns-clause-ok : goal.returns-clause-ok
returns-clause-ok g c =
    received_ok (IsAnswerInPlace c.args.connection.now c.receive_in_place.new.self) c.args.asked c.receive_in_place.result
    c.name_command.result c.name_command.ensures c.receive_in_place.ensures.ok

pub returns-clause-err : goal.returns-clause-err
returns-clause-err g c =
    not_received c.args.asked c.args.connection.now c.receive_in_place.new.self c.receive_in_place.result
    c.name_command.result c.name_command.ensures c.receive_in_place.ensures.err c.receive_in_place.ensures.ended
    c.receive_in_place.ensures.faulty
