use Rattle.worker_producer.proofs.SessionLemmas.{sends_and_none}
use Rattle.worker_producer.proofs.producer.Producer.send_ahead.Goals as goal

pub returns-clause-ok : goal.returns-clause-ok
returns-clause-ok g c =
    sends_and_none c.args.connection.now c.send_bytes.new.self c.send_early.new.self c.args.bytes.now
    c.in_ok-send_bytes.ensures.ok c.send_early.ensures
