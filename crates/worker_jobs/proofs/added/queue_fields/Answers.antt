use Rattle.std.proofs.Common.{◌∙◌, IfOk, ap, subst, sym}
use Rattle.json.proofs.Trees.{view-Object}
use Rattle.json.specs.Value.{members_view, value_view}
use Rattle.worker.specs.Outbox.Sent.{unsent_of}
use Rattle.worker_jobs.specs.Added.{QueuesOne, entry_of, entry_with, fields_in}
use Rattle.worker_jobs.proofs.added.queue_fields.Goals as goal

pub returns-in-Object-clause-ok : goal.returns-in-Object-clause-ok
returns-in-Object-clause-ok c =
    subst (λ o. IfOk c.queue_entry.result (λ is. QueuesOne o is (unsent_of c.args.outbox.now)
    (unsent_of c.queue_entry.new.outbox)))
    (ap (λ ms. entry_with c.args.stream.now (fields_in (members_view ms))) c.deref.ensures.value
    ∙ ap (λ j. entry_of c.args.stream.now j) (sym (ap value_view c.in-Object.is ∙ view-Object c.in-Object.members)))
    c.queue_entry.ensures.ok
