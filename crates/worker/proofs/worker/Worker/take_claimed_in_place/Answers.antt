use Rattle.std.proofs.Common.{refl}
use Rattle.stream_in_place.specs.AutoClaim.{autoclaim_tree}
use Rattle.worker.proofs.InPlaceLemmas.{value_taken}
use Rattle.worker.proofs.worker.Worker.take_claimed_in_place.Goals as goal

pub returns-in-Some-clause-taken : goal.returns-in-Some-clause-taken
returns-in-Some-clause-taken g c =
    let r = rw c.in-Some.is at c.in_ok-found.ensures.is in
    let t = autoclaim_tree r.told (record {
      next = c.in-Some.found.next_stream_id.now;
      claimed = c.in-Some.found.claimed;
      deleted = c.in-Some.found.deleted_ids;
    }) in
    rw c.name_answer_error.ensures
    (value_taken g.H.Handler.with_verdict _ _ _ _ _ _ c.in-Some.found.len t c.take_found_claimed-outcome.result
    c.requires r.reply (c.take_found_claimed-outcome.ensures.taken t r.sent) refl
    c.take_found_claimed-outcome.ensures.group c.take_found_claimed-outcome.ensures.asked)
