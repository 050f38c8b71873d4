use Rattle.server_store.proofs.PendingListLemmas.{nowhere_live, on_err}
use Rattle.server_store.proofs.pending_list.PendingList.give.Goals as goal

pub returns-in_err-held-in-Err-clause-err_new : goal.returns-in_err-held-in-Err-clause-err_new
returns-in_err-held-in-Err-clause-err_new c =
    rw (← c.self.view_is)
    (on_err _ c.from_residual.result
    (nowhere_live c.args.pending.id c.self.inside.slots.items c.in-Err.index (c.in-Err.ensures.missing c.self.invariant.ascend)))

pub returns-in_err-insert-in-Err-clause-err_new : goal.returns-in_err-insert-in-Err-clause-err_new
returns-in_err-insert-in-Err-clause-err_new c =
    rw (← c.self.view_is)
    (on_err _ c.from_residual-in_err-insert-in-Err.result
    (nowhere_live c.args.pending.id c.self.inside.slots.items c.in-Err.index (c.in-Err.ensures.missing c.self.invariant.ascend)))
