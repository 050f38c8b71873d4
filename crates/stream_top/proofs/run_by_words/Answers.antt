use Rattle.std.proofs.Common.{◌≡◌, List, IsTrue, inr, map, rules, string_bytes, subst}
use Rattle.std.specs.Process.{exit_status}
use Rattle.command_lines.specs.Words.{Text, asks_help}
use Rattle.stream_top.specs.Options.{IsTaskOf, text_of}
use Rattle.stream_top.proofs.StatusLemmas.{as_said, no_other, on_err, two_at_most}
use Rattle.stream_top.proofs.run_by_words.Goals as goal

pub returns-in-Ok-clause-status : goal.returns-in-Ok-clause-status
returns-in-Ok-clause-status g c = two_at_most exit_status c.run.result c.run.ensures.status

pub returns-in-Ok-clause-ended : goal.returns-in-Ok-clause-ended
returns-in-Ok-clause-ended g c =
    let words = c.args.words.now in
    let same : map string_bytes c.deref.result.now ≡ map text_of words = search rules in
    as_said exit_status c.run.result (IsTrue (asks_help (map text_of words))) words c.in-Ok.task c.args.connection.now
    c.run.new.connection (subst (λ (texts : List Text). IsTaskOf words texts c.in-Ok.task) same c.in-Ok.ensures.said)
    c.run.ensures.ended

pub returns-in-Ok-clause-wrong : goal.returns-in-Ok-clause-wrong
returns-in-Ok-clause-wrong g c = no_other exit_status c.run.result c.run.ensures.status
    (c.run.new.connection ≡ c.args.connection.now)

pub returns-in-Ok-clause-err : goal.returns-in-Ok-clause-err
returns-in-Ok-clause-err g c =
    let words = c.args.words.now in
    let same : map string_bytes c.deref.result.now ≡ map text_of words = search rules in
    on_err c.run.result (inr (record {
      task = c.in-Ok.task;
      said = subst (λ (texts : List Text). IsTaskOf words texts c.in-Ok.task) same c.in-Ok.ensures.said;
    }))
