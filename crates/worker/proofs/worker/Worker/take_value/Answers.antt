use Rattle.std.proofs.Common.{refl}
use Rattle.redis_resp.specs.Value.{tree}
use Rattle.worker.specs.Machine.{machine_of}
use Rattle.worker.proofs.WorkerLemmas.{ack_unread, ack_went, first_failed, first_went, if_err, if_ok}
use Rattle.worker.proofs.worker.Worker.take_value.Goals as goal

pub returns-in-Acknowledgement-clause-ok : goal.returns-in-Acknowledgement-clause-ok
returns-in-Acknowledgement-clause-ok g c =
    if_ok c.take_count.result _ _ (λ p. ack_went g.H.Handler.with_verdict c.args.self.now.settings c.args.asked
    (machine_of c.args.self.now) _ _ _ (tree c.args.value) p c.in-Acknowledgement.is refl) c.take_count.ensures.ok

pub returns-in-Acknowledgement-clause-err : goal.returns-in-Acknowledgement-clause-err
returns-in-Acknowledgement-clause-err g c = rw c.in-Acknowledgement.is
    (if_err c.take_count.result _ _ (λ e h. ack_unread g.H.Handler.with_verdict c.args.self.now.settings
    (tree c.args.value) (machine_of c.args.self.now) _ _ _ e h.0 h.1 refl) c.take_count.ensures.err)

pub returns-in-Own-clause-ok : goal.returns-in-Own-clause-ok
returns-in-Own-clause-ok g c = rw c.in-Own.is c.take_own-in-Own.ensures.ok

pub returns-in-Own-clause-err : goal.returns-in-Own-clause-err
returns-in-Own-clause-err g c = rw c.in-Own.is c.take_own-in-Own.ensures.err

pub returns-in-Claim-clause-ok : goal.returns-in-Claim-clause-ok
returns-in-Claim-clause-ok g c = rw c.in-Claim.is c.take_claimed.ensures.ok

pub returns-in-Claim-clause-err : goal.returns-in-Claim-clause-err
returns-in-Claim-clause-err g c = rw c.in-Claim.is c.take_claimed.ensures.err

pub returns-in-New-clause-ok : goal.returns-in-New-clause-ok
returns-in-New-clause-ok g c = rw c.in-New.is c.take_new.ensures.ok

pub returns-in-New-clause-err : goal.returns-in-New-clause-err
returns-in-New-clause-err g c = rw c.in-New.is c.take_new.ensures.err

pub returns-in-First-clause-ok : goal.returns-in-First-clause-ok
returns-in-First-clause-ok g c = rw c.in-First.is
    (if_ok c.take_own.result _ _ (λ p. first_went g.H.Handler.with_verdict c.args.self.now.settings
    (tree c.args.value) (machine_of c.args.self.now) _ _ _ p) c.take_own.ensures.ok)

pub returns-in-First-clause-err : goal.returns-in-First-clause-err
returns-in-First-clause-err g c = rw c.in-First.is
    (if_err c.take_own.result _ _ (λ e. first_failed g.H.Handler.with_verdict c.args.self.now.settings
    (tree c.args.value) (machine_of c.args.self.now) _ _ _ e) c.take_own.ensures.err)
