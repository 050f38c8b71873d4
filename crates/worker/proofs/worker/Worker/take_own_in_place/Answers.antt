use Rattle.std.proofs.Common.{refl}
use Rattle.worker.proofs.InPlaceLemmas.{own_taken_as_asked, shows_own, value_taken}
use Rattle.worker.proofs.worker.Worker.take_own_in_place.Goals as goal

pub returns-in-Some-clause-taken : goal.returns-in-Some-clause-taken
returns-in-Some-clause-taken g c =
    let r = rw c.in-Some.is at c.in_ok-found.ensures.is in
    rw c.name_answer_error.ensures
    (value_taken g.H.Handler.with_verdict _ _ _ _ _ c.args.self.now.asked c.in-Some.found.len r.tree
    c.take_found_own-outcome.result refl r.reply
    (own_taken_as_asked g.H.Handler.with_verdict _ r.tree _ _ _ _ c.args.self.now.asked c.take_found_own-outcome.result
    c.requires (c.take_found_own-outcome.ensures.taken r.tree r.sent))
    (shows_own c.args.self.now.asked c.requires) c.take_found_own-outcome.ensures.group
    c.take_found_own-outcome.ensures.asked)
