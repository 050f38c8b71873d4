use Rattle.std.proofs.Common.{None}
use Rattle.std.proofs.lemmas.Result.{err_from_is_err_and}
use Rattle.redis_connection.specs.Seen.{seen}
use Rattle.redis_connection.proofs.LinkLemmas.{faulty_next, waits_same, waits_on}
use Rattle.redis_connection.proofs.incoming.receive_from.Goals as goal

pub returns-in_err-reply-clause-faulty : goal.returns-in_err-reply-clause-faulty
returns-in_err-reply-clause-faulty g c =
    let p = err_from_is_err_and c.from_residual.result c.from_residual.ensures.1 in
    rw (p.1, p.2)
    (faulty_next None c.loop-turn.replies c.next.new.self c.loop-turn.piece c.loop-turn.unfed
    c.in_err-reply.field-0.0 c.in_err-reply.ensures)

pub loop-turn-preserved : goal.loop-turn-preserved
loop-turn-preserved g c =
    let old = seen 0 None (g.S.Source.remaining c.args.reader.now) c.args.replies.now c.args.piece.now c.args.unfed.now in
    let n = rw c.in_default.is at c.in_ok-reply.ensures in
    let same =
    waits_same old
    (g.S.Source.remaining c.loop-turn.reader) c.loop-turn.replies c.loop-turn.piece c.loop-turn.unfed
    c.loop-turn.invariant.waits c.next.new.self n.0 in
    record {
      within = c.take_in.ensures.within;
      room = c.take_in.ensures.room;
      waits = waits_on old _ _ same c.take_in.ensures.waits;
      usable = c.in_ok-take_in.ensures.again;
    }
