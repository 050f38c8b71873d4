use Rattle.std.proofs.Common.{refl}
use Rattle.worker.proofs.InPlaceLemmas.{value_taken}
use Rattle.worker.proofs.worker.Worker.take_new_in_place.Goals as goal

pub returns-in-Some-clause-taken : goal.returns-in-Some-clause-taken
returns-in-Some-clause-taken g c =
    let r = rw c.in-Some.is at c.in_ok-found.ensures.is in
    rw c.name_answer_error.ensures
    (value_taken g.H.Handler.with_verdict _ _ _ _ _ _ c.in-Some.found.len r.tree c.take_found_new-outcome.result
    c.requires r.reply (c.take_found_new-outcome.ensures.taken r.tree r.sent) refl
    c.take_found_new-outcome.ensures.group c.take_found_new-outcome.ensures.asked)
