use Rattle.std.proofs.Common.{◌∙◌, string_bytes}
use Rattle.worker.proofs.DeadLettersLemmas.DeadLemmas.{posted_pairs}
use Rattle.worker.proofs.dead_letters.search.queue_letter_with_fields.Goals as goal

pub returns-in-Ok-clause-ok : goal.returns-in-Ok-clause-ok
returns-in-Ok-clause-ok c =
    posted_pairs (λ p. p.0.now) (λ p. p.1.now) (string_bytes c.args.desk.now.dead) c.args.entry.now
    c.in-Some-new.fields.first c.in-Some-new.fields.rest
    c.in-Some.fields.items _ c.as_str-id.result.now _ _ (c.in-Some-new.ensures ∙ c.deref.ensures.value)
    (rw c.in-Some.is at c.in_ok-fields.ensures) c.as_str-id.ensures.value
    (rw c.deref-2.ensures.value at c.in-Ok.ensures.ok)
