use Rattle.server_store.proofs.PendingListLemmas.{nowhere_live, on_err}
use Rattle.server_store.proofs.pending_list.PendingList.put.Goals as goal

pub returns-in_err-insert-in-Err-clause-err_new : goal.returns-in_err-insert-in-Err-clause-err_new
returns-in_err-insert-in-Err-clause-err_new c =
    rw (← c.self.view_is)
    (on_err _ c.from_residual.result
    (nowhere_live c.args.held.id c.self.inside.slots.items c.in-Err.index
    (rw c.get-pending.ensures at (c.in-Err.ensures.missing c.self.invariant.ascend))))
