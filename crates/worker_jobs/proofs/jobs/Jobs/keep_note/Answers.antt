use Rattle.std.proofs.Common.{◌≡◌, ◌==◌, ◌∙◌, ap, false, length, refl, sym, true}
use Rattle.worker_jobs.specs.VerdictOf.{text_of}
use Rattle.worker_jobs.proofs.NotedLemmas.{noted}
use Rattle.worker_jobs.proofs.jobs.Jobs.keep_note.Goals as goal
use Rattle.worker_jobs.proofs.jobs.Jobs.keep_note.Goals.{else-not-dead-via-then-not-dead+else-is_empty, else-not-dead-via-else-not-dead}

pub returns-clause-noted : goal.returns-clause-noted
returns-clause-noted g c = noted c.args.id.now c.args.dead _ _ _ (record {
  note = record { id = c.in_ok-from_str.field-0; dead = c.args.dead; text = c.in_ok-from_slice.field-0 };
  more = c.in_ok-push.ensures.items;
  of = c.in_ok-from_str.ensures.ok;
  given_up = refl;
  with_text = c.in_ok-from_slice.ensures.items ∙ c.text_in-text.ensures ∙ ap text_of c.deref.ensures.value;
}) (λ is none.
    let text = c.text_in-text.ensures ∙ ap text_of c.deref.ensures.value ∙ none in
    elim c.else-not-dead.branch [
      | else-not-dead-via-then-not-dead+else-is_empty w ↦ absurd (let z : true ≡ false
          = ap (λ t. length t == 0) (sym text) ∙ sym w.is_empty.ensures ∙ w.if-is_empty.false in cc)
      | else-not-dead-via-else-not-dead w ↦ absurd (let live = is in let not_live = w.if-not-dead.false in cc)
    ])
