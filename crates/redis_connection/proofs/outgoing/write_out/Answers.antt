use Rattle.redis_connection.proofs.WayLemmas.{flushed, flushed_err}
use Rattle.redis_connection.proofs.outgoing.write_out.Goals as goal

pub returns-clause-err : goal.returns-clause-err
returns-clause-err g c =
    flushed_err c.flush_all.result _ _ _ c.args.bytes.now c.in_ok-write_whole.ensures.ok c.flush_all.ensures.bytes

pub returns-clause-ok : goal.returns-clause-ok
returns-clause-ok g c =
    flushed c.flush_all.result _ _ _ c.args.bytes.now c.in_ok-write_whole.ensures.ok c.flush_all.ensures.bytes
