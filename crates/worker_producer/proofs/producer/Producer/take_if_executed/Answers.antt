use Rattle.std.proofs.Common.{◌∙◌, ℕ, Ok, ap, subst, sym}
use Rattle.worker_producer.specs.Executed.{HoldsExecuted}
use Rattle.worker_producer.specs.Machine.{stage_of, standing_of}
use Rattle.worker_producer.proofs.ExecutedLemmas.{executed_heard}
use Rattle.worker_producer.proofs.producer.Producer.take_if_executed.Goals as goal

pub returns-in-Some-clause-taken : goal.returns-in-Some-clause-taken
returns-in-Some-clause-taken g c is base count =
    let batch = c.in-Some.batch in
    let held = c.receive.new.connection in
    let there = c.in-Ok-true.ensures.ok (ap Ok c.in-Ok-true.field-0-test) in
    executed_heard base count batch.known batch.sent c.len.result c.args.connection.now held c.give_out.new.self
    (standing_of c.args.self.now) (standing_of c.count_executed.new.self) c.in-Ok-true.ensures.held
    (subst (λ (n : ℕ). HoldsExecuted n held c.len.result) (sym (c.in-Some.ensures.sent ∙ c.sent.ensures))
    (subst (λ (k : ℕ). HoldsExecuted c.args.expected.now.sent held k) (sym c.len.ensures) there))
    c.give_out.ensures.receives (ap stage_of c.in-Some.ensures.stage) c.in-Some.ensures.coming
    c.count_executed.ensures.stage c.count_executed.ensures.coming
