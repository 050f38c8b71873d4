use Rattle.std.proofs.Common.{◌==◌, ◌∙◌, ap, length, sym}
use Rattle.json.specs.Value.{members_view}
use Rattle.worker_jobs.specs.Added.{fields_in}
use Rattle.worker_jobs.proofs.AddedLemmas.{entry_queued}
use Rattle.worker_jobs.proofs.added.queue_entry.Goals as goal

pub returns-in-Ok-clause-ok : goal.returns-in-Ok-clause-ok
returns-in-Ok-clause-ok c =
    entry_queued c.args.stream.now (fields_in (members_view c.args.members.now)) c.in-Some.words.items _ _
    (rw c.in-Some.is at c.in_ok-words.ensures) (sym c.is_empty.ensures ∙ c.if-is_empty.false)
    (ap (λ ws. length ws == 0) (sym c.as_slice.ensures.value) ∙ sym c.is_empty-else-is_empty.ensures ∙ c.if-is_empty-2.false)
    c.in-Ok.ensures.ok
