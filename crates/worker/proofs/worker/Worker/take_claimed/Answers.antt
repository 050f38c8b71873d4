use Rattle.std.proofs.Common.{refl, []}
use Rattle.redis_resp.specs.Value.{tree}
use Rattle.stream_in_place.specs.SentMeaning.{claim_of}
use Rattle.worker.specs.Machine.{machine_of}
use Rattle.worker.proofs.WorkerLemmas.{claim_cut, claim_refused, claim_went, err_is, memory_err}
use Rattle.worker.proofs.worker.Worker.take_claimed.Goals as goal

pub returns-in_err-take-clause-err : goal.returns-in_err-take-clause-err
returns-in_err-take-clause-err g c =
    let moved = rw c.deref.ensures.value at c.in_err-take.ensures.moved in
    memory_err c.from_residual-in_err-take.result _ c.from_residual-in_err-take.ensures.1
    (claim_cut g.H.Handler.with_verdict c.args.self.now.settings (tree c.args.value) (machine_of c.args.self.now) _ _ _
    (claim_of c.in_ok-claim.claim) _ c.in_ok-claim.ensures.ok c.next_claim-next.ensures moved)

pub returns-clause-ok : goal.returns-clause-ok
returns-clause-ok g c =
    let moved = rw c.deref.ensures.value at c.in_ok-take.ensures.moved in
    claim_went g.H.Handler.with_verdict c.args.self.now.settings (tree c.args.value) (machine_of c.args.self.now) _ _ _
    (claim_of c.in_ok-claim.claim) _ c.in_ok-take.field-0 c.in_ok-claim.ensures.ok
    c.next_claim-next.ensures moved

pub returns-in_err-claim-clause-err : goal.returns-in_err-claim-clause-err
returns-in_err-claim-clause-err g c =
    err_is c.from_residual.result _ c.in_err-claim.field-0.0 c.from_residual.ensures.1
    (claim_refused g.H.Handler.with_verdict c.args.self.now.settings (tree c.args.value) (machine_of c.args.self.now) _ _ _
    [] c.in_err-claim.field-0.0 c.in_err-claim.ensures.err refl refl)
