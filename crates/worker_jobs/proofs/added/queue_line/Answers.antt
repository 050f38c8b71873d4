use Rattle.std.proofs.Common.{◌∙◌, IfOk, ap, option_and_then, subst, sym}
use Rattle.json.proofs.Trees.{view-Object}
use Rattle.json.specs.Json.{document}
use Rattle.json.specs.Value.{members_view, value_view}
use Rattle.worker.specs.Outbox.Sent.{unsent_of}
use Rattle.worker_jobs.specs.Added.{QueuesSome, added_by, entries_in, entries_of}
use Rattle.worker_jobs.proofs.AddedLemmas.{line_entries, not_text}
use Rattle.worker_jobs.proofs.added.queue_line.Goals as goal

pub returns-in_default-clause-ok : goal.returns-in_default-clause-ok
returns-in_default-clause-ok c = not_text c.args.line.now _ c.in_default.ensures.cases.0

pub returns-in-Object-clause-ok : goal.returns-in-Object-clause-ok
returns-in-Object-clause-ok c =
    subst (λ o. IfOk c.queue_members.result (λ is. QueuesSome o is (unsent_of c.args.outbox.now)
    (unsent_of c.queue_members.new.outbox)))
    (ap (λ ms. option_and_then entries_in (added_by (members_view ms))) c.deref.ensures.value
    ∙ ap entries_of (sym (ap value_view c.in-Object.is ∙ view-Object c.in-Object.members))
    ∙ sym (line_entries c.args.line.now (value_view c.in-Ok-parse.value) c.in-Ok.ensures.cases.1
    (ap document (sym c.in-Ok.ensures.cases.0) ∙ c.in-Ok-parse.ensures.ok)))
    c.queue_members.ensures.ok
