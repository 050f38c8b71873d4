use Rattle.std.proofs.Common.{◌≡◌, ◌∙◌, ◌++◌, Some, ap}
use Rattle.std.specs.Prelude.{string_bytes}
use Rattle.model_server.specs.Group.Worker.{done, left_pending}
use Rattle.worker.specs.Outbox.Sent.{unsent_of}
use Rattle.worker_jobs.proofs.AddedLemmas.{append_none, no_commands}
use Rattle.worker_jobs.specs.Added.{entries_of_line}
use Rattle.worker_jobs.specs.VerdictOf.{word_of}
use Rattle.worker_jobs.specs.declared.reply.Reply.TheVariants.{Done, Later, Dead, Stop}
use Rattle.worker_jobs.proofs.TalkLemmas.{is_dead, is_done, is_later, went_on}
use Rattle.worker.specs.Handling.{pair_of}
use Rattle.worker_jobs.proofs.jobs.JobsHandler.handle.Goals as goal

pub returns-in-Ok-Done-clause-history : goal.returns-in-Ok-Done-clause-history
returns-in-Ok-Done-clause-history g c =
    let old = c.args.self.now in
    let new = c.ask.new.self in
    went_on (string_bytes old.stream) (string_bytes new.stream) (pair_of c.args.entry.now) old.over new.over
    (g.W.Write.contents old.lines) (g.W.Write.contents new.lines) (g.R.Read.remaining old.replies)
    (g.R.Read.remaining new.replies) new.reply.items c.in-Ok-Done.field-0 Done done c.if-self.false
    c.in-Ok-Done.ensures.over (ap string_bytes c.in-Ok-Done.ensures.stream)
    (g.met.W.SteadyWrite.stays_unknown old.lines new.lines) (g.met.R.SteadyRead.stays_unknown old.replies new.replies)
    c.in-Ok-Done.ensures.went c.in-Ok-Done.ensures.says c.in-Ok-Done.field-0-is is_done

pub returns-in-Ok-Later-clause-history : goal.returns-in-Ok-Later-clause-history
returns-in-Ok-Later-clause-history g c =
    let old = c.args.self.now in
    let new = c.ask.new.self in
    went_on (string_bytes old.stream) (string_bytes new.stream) (pair_of c.args.entry.now) old.over new.over
    (g.W.Write.contents old.lines) (g.W.Write.contents new.lines) (g.R.Read.remaining old.replies)
    (g.R.Read.remaining new.replies) new.reply.items c.in-Ok-Later.field-0 Later left_pending c.if-self.false
    c.in-Ok-Later.ensures.over (ap string_bytes c.in-Ok-Later.ensures.stream)
    (g.met.W.SteadyWrite.stays_unknown old.lines new.lines) (g.met.R.SteadyRead.stays_unknown old.replies new.replies)
    c.in-Ok-Later.ensures.went c.in-Ok-Later.ensures.says c.in-Ok-Later.field-0-is is_later

pub returns-in-Ok-Dead-clause-history : goal.returns-in-Ok-Dead-clause-history
returns-in-Ok-Dead-clause-history g c =
    let old = c.args.self.now in
    let new = c.ask.new.self in
    went_on (string_bytes old.stream) (string_bytes new.stream) (pair_of c.args.entry.now) old.over new.over
    (g.W.Write.contents old.lines) (g.W.Write.contents new.lines) (g.R.Read.remaining old.replies)
    (g.R.Read.remaining new.replies) new.reply.items c.in-Ok-Dead.field-0 Dead left_pending c.if-self.false
    c.in-Ok-Dead.ensures.over (ap string_bytes c.in-Ok-Dead.ensures.stream)
    (g.met.W.SteadyWrite.stays_unknown old.lines new.lines) (g.met.R.SteadyRead.stays_unknown old.replies new.replies)
    c.in-Ok-Dead.ensures.went c.in-Ok-Dead.ensures.says c.in-Ok-Dead.field-0-is is_dead

pub returns-in-Ok-Stop-clause-not_added : goal.returns-in-Ok-Stop-clause-not_added
returns-in-Ok-Stop-clause-not_added g c = λ _.
    let line = c.ask.new.self.reply.items in
    ap unsent_of c.stop.ensures.outbox ∙ c.in-Ok-Stop.ensures.added
    ∙ ap (λ cs. unsent_of c.args.self.now.outbox ++ cs)
    (no_commands (word_of line) (entries_of_line line) Stop (c.in-Ok-Stop.ensures.says ∙ ap Some c.in-Ok-Stop.field-0-is)
    (λ e. absurd (let z : Stop ≡ Done = e in cc)))
    ∙ append_none (unsent_of c.args.self.now.outbox)
