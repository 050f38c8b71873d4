use Rattle.std.proofs.Common.{◌∙◌, ap, sym, refl, Some}
use Rattle.worker.specs.Answers.{first_nil}
use Rattle.worker.specs.Machine.{machine_of}
use Rattle.worker.proofs.InPlaceLemmas.{claim_says, memory_taken}
use Rattle.worker.proofs.ReadLemmas.{there_all}
use Rattle.worker.proofs.WorkerLemmas.{claim_nil, claim_went, claim_cut}
use Rattle.worker.proofs.worker.Worker.take_found_claimed.Goals as goal

pub returns-in_ok-from_str-in-Some-clause-taken : goal.returns-in_ok-from_str-in-Some-clause-taken
returns-in_ok-from_str-in-Some-clause-taken g c t reads =
    let some = rw c.in-Some.is at c.nil_id_in_place.ensures in
    let first = sym (ap first_nil c.again.ensures) ∙ sym some ∙ ap Some (sym c.in_ok-from_str-in-Some.ensures.ok) in
    claim_nil g.H.Handler.with_verdict c.args.self.now.settings t (machine_of c.args.self.now) _ _ _
    c.in_ok-from_str-in-Some.field-0 (_, reads, first) refl refl

pub returns-in_err-take_in_place-in-None-clause-taken : goal.returns-in_err-take_in_place-in-None-clause-taken
returns-in_err-take_in_place-in-None-clause-taken g c t reads =
    let none = rw c.in-None.is at c.nil_id_in_place.ensures in
    let there = there_all c.args.found.claimed (sym (ap first_nil c.again.ensures) ∙ sym none) in
    let said = claim_says t _ reads there in
    let next = rw c.in_ok-from_str-in-None.ensures.ok at c.next_claim-next.ensures in
    let moved = c.in_err-take_in_place-in-None.ensures.moved in
    memory_taken g.H.Handler.with_verdict c.args.self.now.settings _ t _ _ _ _
    c.from_residual-in_err-take_in_place-in-None.result c.from_residual-in_err-take_in_place-in-None.ensures.1
    (claim_cut g.H.Handler.with_verdict c.args.self.now.settings t (machine_of c.args.self.now) _ _ _ _ _ said next moved)

pub returns-in_ok-take_in_place-in-None-clause-taken : goal.returns-in_ok-take_in_place-in-None-clause-taken
returns-in_ok-take_in_place-in-None-clause-taken g c t reads =
    let none = rw c.in-None.is at c.nil_id_in_place.ensures in
    let there = there_all c.args.found.claimed (sym (ap first_nil c.again.ensures) ∙ sym none) in
    let said = claim_says t _ reads there in
    let next = rw c.in_ok-from_str-in-None.ensures.ok at c.next_claim-next.ensures in
    let moved = c.in_ok-take_in_place-in-None.ensures.moved in
    claim_went g.H.Handler.with_verdict c.args.self.now.settings t (machine_of c.args.self.now) _ _ _ _ _
    c.in_ok-take_in_place-in-None.field-0 said next moved
