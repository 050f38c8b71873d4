use Rattle.std.proofs.Common.{arith}
use Rattle.server_store.proofs.PendingListLemmas.{last_live}
use Rattle.server_store.proofs.pending_list.find_last.Goals as goal

pub returns-in-Some-clause-some : goal.returns-in-Some-clause-some
returns-in-Some-clause-some c =
    last_live c.args.slots.now.items c.loop-index.index c.index.result.now c.in-Some.pending c.loop-index-test.true
    (omega (arith, c.loop-index.auto.index, c.len-index.ensures, c.args.slots.now.ok.0)) c.index.ensures
    c.in-Some.ensures.some c.loop-index.invariant
