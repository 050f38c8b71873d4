use Rattle.std.proofs.Common.{None}
use Rattle.std.proofs.lemmas.Result.{err_from_is_err_and}
use Rattle.redis_connection.proofs.LinkLemmas.{faulty_len}
use Rattle.redis_connection.proofs.incoming.receive_in_place_from.Goals as goal

pub returns-in_err-len-clause-faulty : goal.returns-in_err-len-clause-faulty
returns-in_err-len-clause-faulty g c =
    let p = err_from_is_err_and c.from_residual.result c.from_residual.ensures.1 in
    rw (p.1, p.2)
    (faulty_len None c.loop-turn.replies c.next_in_place.new.self c.loop-turn.piece c.loop-turn.unfed
    c.in_err-len.field-0.0 c.in_err-len.ensures.same c.in_err-len.ensures.len)
