use Rattle.std.proofs.Common.{refl}
use Rattle.redis_resp.specs.Value.{tree}
use Rattle.worker.specs.Machine.{machine_of}
use Rattle.worker.proofs.WorkerLemmas.{err_is, memory_err, own_cut, own_not_read, own_went}
use Rattle.worker.proofs.worker.Worker.take_own.Goals as goal

pub returns-in_err-take-clause-err : goal.returns-in_err-take-clause-err
returns-in_err-take-clause-err g c =
    let said = rw c.deref.ensures at c.in_ok-entries.ensures.ok in
    let next = rw c.deref-2.ensures.value at c.in_ok-next.ensures in
    let moved = rw c.deref-3.ensures.value at c.in_err-take.ensures.moved in
    memory_err c.from_residual-in_err-take.result _ c.from_residual-in_err-take.ensures.1
    (own_cut g.H.Handler.with_verdict c.args.self.now.settings (tree c.args.value)
    (machine_of c.args.self.now) _ _ _ _ _ said next moved)

pub returns-clause-ok : goal.returns-clause-ok
returns-clause-ok g c =
    let said = rw c.deref.ensures at c.in_ok-entries.ensures.ok in
    let next = rw c.deref-2.ensures.value at c.in_ok-next.ensures in
    let moved = rw c.deref-3.ensures.value at c.in_ok-take.ensures.moved in
    own_went g.H.Handler.with_verdict c.args.self.now.settings (tree c.args.value)
    (machine_of c.args.self.now) _ _ _ _ _ c.in_ok-take.field-0 said next moved

pub returns-in_err-entries-clause-err : goal.returns-in_err-entries-clause-err
returns-in_err-entries-clause-err g c =
    let said = rw c.deref.ensures at c.in_err-entries.ensures.err in
    err_is c.from_residual.result _ c.in_err-entries.field-0.0 c.from_residual.ensures.1
    (own_not_read g.H.Handler.with_verdict c.args.self.now.settings (tree c.args.value)
    (machine_of c.args.self.now) _ _ _ c.in_err-entries.field-0.0 said refl refl)
