use Rattle.std.proofs.Common.{◌≡◌, ◌∙◌, ◌++◌, Some, ap}
use Rattle.worker.proofs.DeadLettersLemmas.DeadLemmas.{on_err}
use Rattle.worker.specs.Outbox.Sent.{unsent_of}
use Rattle.worker_jobs.proofs.AddedLemmas.{append_none, no_commands}
use Rattle.worker_jobs.specs.Added.{entries_of_line}
use Rattle.worker_jobs.specs.VerdictOf.{word_of}
use Rattle.worker_jobs.specs.declared.reply.Reply.TheVariants.{Dead, Done, Later}
use Rattle.worker_jobs.proofs.jobs.Jobs.ask.Goals as goal

pub returns-in_err-keep_note-in-Later-clause-not_added : goal.returns-in_err-keep_note-in-Later-clause-not_added
returns-in_err-keep_note-in-Later-clause-not_added g c =
    let line = c.exchange.new.self.reply.items in
    on_err c.from_residual-in_err-keep_note-in-Later.result
    (ap (λ s. unsent_of s.outbox) c.in_err-keep_note-in-Later.ensures.kept ∙ c.in_ok-reply.ensures.added
    ∙ ap (λ cs. unsent_of c.args.self.now.outbox ++ cs)
    (no_commands (word_of line) (entries_of_line line) Later (c.in_ok-reply.ensures.says ∙ ap Some c.in-Later.is)
    (λ e. absurd (let z : Later ≡ Done = e in cc)))
    ∙ append_none (unsent_of c.args.self.now.outbox))

pub returns-in_err-keep_note-in-Dead-clause-not_added : goal.returns-in_err-keep_note-in-Dead-clause-not_added
returns-in_err-keep_note-in-Dead-clause-not_added g c =
    let line = c.exchange.new.self.reply.items in
    on_err c.from_residual-in_err-keep_note-in-Dead.result
    (ap (λ s. unsent_of s.outbox) c.in_err-keep_note-in-Dead.ensures.kept ∙ c.in_ok-reply.ensures.added
    ∙ ap (λ cs. unsent_of c.args.self.now.outbox ++ cs)
    (no_commands (word_of line) (entries_of_line line) Dead (c.in_ok-reply.ensures.says ∙ ap Some c.in-Dead.is)
    (λ e. absurd (let z : Dead ≡ Done = e in cc)))
    ∙ append_none (unsent_of c.args.self.now.outbox))
