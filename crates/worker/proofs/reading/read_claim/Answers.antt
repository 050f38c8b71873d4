use Rattle.std.proofs.Common.{inr, refl, sym}
use Rattle.redis_resp.specs.Value.{tree}
use Rattle.stream_in_place.specs.SentMeaning.{claim_of, sent_all}
use Rattle.worker.proofs.InPlaceLemmas.{claim_says}
use Rattle.worker.proofs.ReadLemmas.{there_all}
use Rattle.worker.proofs.reading.read_claim.Goals as goal

pub returns-in-None-clause-ok : goal.returns-in-None-clause-ok
returns-in-None-clause-ok c =
    let none = rw c.in-None.is at c.in_ok-find_nil_id.ensures in
    let all = rw c.deref.ensures.value at none in
    claim_says (tree c.args.value) (claim_of c.in_ok-claim.claim) c.in_ok-claim.ensures.ok
    (there_all (sent_all c.in_ok-claim.claim.claimed) (sym all))

pub returns-in-Some-clause-err : goal.returns-in-Some-clause-err
returns-in-Some-clause-err c =
    let some = rw c.in-Some.is at c.in_ok-find_nil_id.ensures in
    let first = rw c.deref.ensures.value at some in
    inr (c.in-Some.id, refl, (claim_of c.in_ok-claim.claim, c.in_ok-claim.ensures.ok, sym first))
