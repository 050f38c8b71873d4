use Rattle.std.proofs.Common.{refl}
use Rattle.redis_resp.specs.Value.{tree}
use Rattle.worker.specs.Machine.{machine_of}
use Rattle.worker.proofs.WorkerLemmas.{err_is, memory_err, news_cut, news_refused, news_went}
use Rattle.worker.proofs.worker.Worker.take_new.Goals as goal

pub returns-in_err-take-clause-err : goal.returns-in_err-take-clause-err
returns-in_err-take-clause-err g c =
    let said = rw c.deref.ensures at c.in_ok-entries.ensures.ok in
    let next = rw c.replace-phase.ensures.value at c.next_round-next.ensures in
    let taken = rw c.deref-2.ensures.value at c.in_err-take.ensures.moved in
    let moved = rw c.replace-phase.ensures.after at taken in
    memory_err c.from_residual-in_err-take.result _ c.from_residual-in_err-take.ensures.1
    (news_cut g.H.Handler.with_verdict c.args.self.now.settings (tree c.args.value)
    (machine_of c.args.self.now) _ _ _ _ _ said next moved)

pub returns-clause-ok : goal.returns-clause-ok
returns-clause-ok g c =
    let said = rw c.deref.ensures at c.in_ok-entries.ensures.ok in
    let next = rw c.replace-phase.ensures.value at c.next_round-next.ensures in
    let taken = rw c.deref-2.ensures.value at c.in_ok-take.ensures.moved in
    let moved = rw c.replace-phase.ensures.after at taken in
    news_went g.H.Handler.with_verdict c.args.self.now.settings (tree c.args.value)
    (machine_of c.args.self.now) _ _ _ _ _ c.in_ok-take.field-0 said next moved

pub returns-in_err-entries-clause-err : goal.returns-in_err-entries-clause-err
returns-in_err-entries-clause-err g c =
    let said = rw c.deref.ensures at c.in_err-entries.ensures.err in
    rw c.replace-phase.ensures.after
    (err_is c.from_residual.result _ c.in_err-entries.field-0.0 c.from_residual.ensures.1
    (news_refused g.H.Handler.with_verdict c.args.self.now.settings (tree c.args.value)
    (machine_of c.args.self.now) _ _ _ c.in_err-entries.field-0.0 said refl refl))
