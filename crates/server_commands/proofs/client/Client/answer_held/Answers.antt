use Rattle.std.proofs.Common.{◌≡◌, Ok, map, ap, refl, rules, subst}
use Rattle.std.specs.Prelude.{OnErr, OnOk}
use Rattle.server_commands.specs.Incoming.{command_at}
use Rattle.server_commands.specs.Serving.{GivesUp, Leaves, left_of, state_of}
use Rattle.server_commands.specs.Steps.{State}
use Rattle.server_commands.proofs.ScanLemmas.{none_so}
use Rattle.server_commands.proofs.ServingLemmas.{gives_up_first, gives_up_now, gives_up_within, no_turns, on_err_any, on_err_so, on_ok_so, serves_first}
use Rattle.server_commands.proofs.client.Client.answer_held.Goals as goal

pub invariant_of-self : goal.invariant_of-self
invariant_of-self c = none_so _ _ refl refl

pub invariant_of-self-in-Ok : goal.invariant_of-self-in-Ok
invariant_of-self-in-Ok c = none_so _ _ refl refl

pub returns-in_ok-answer_one-in-Ok-clause-ok : goal.returns-in_ok-answer_one-in-Ok-clause-ok
returns-in_ok-answer_one-in-Ok-clause-ok c =
    let read : command_at c.args.self.now.unread ≡ Ok (map (λ w. w.items) c.in-Ok.words.items, c.deref-in-Ok.result.now) =
    search rules in
    let new = state_of c.answer_new.new.server c.answer_new.new.self in
    subst (λ (old : State). OnOk c.answer_new.result (Leaves c.answer_new.new.self c.args.self.now.unread
    c.args.answers.now.items c.answer_new.new.answers.items old new))
    (ap (state_of c.args.server.now) c.self.view_is)
    (on_ok_so c.answer_new.result
    (serves_first c.args.self.now.unread c.deref-in-Ok.result.now (map (λ w. w.items) c.in-Ok.words.items) c.args.answers.now.items
    c.answer_one.new.answers.items (record { streams = c.args.server.now; session = c.self.inside.session })
    (record { streams = c.answer_one.new.server; session = c.answer_one.new.session })
    read c.in_ok-answer_one-in-Ok.ensures.ok c.answer_new.new.answers.items
    (left_of c.answer_new.new.self.has_ended c.answer_new.new.self.unread) new) c.answer_new.ensures.ok)

pub returns-in_ok-answer_one-in-Ok-clause-err : goal.returns-in_ok-answer_one-in-Ok-clause-err
returns-in_ok-answer_one-in-Ok-clause-err c =
    let read : command_at c.args.self.now.unread ≡ Ok (map (λ w. w.items) c.in-Ok.words.items, c.deref-in-Ok.result.now) =
    search rules in
    let new = state_of c.answer_new.new.server c.answer_new.new.self in
    subst (λ (old : State). OnErr c.answer_new.result (GivesUp c.args.self.now.unread
    c.args.answers.now.items c.answer_new.new.answers.items old new))
    (ap (state_of c.args.server.now) c.self.view_is)
    (on_err_so c.answer_new.result
    (gives_up_first c.args.self.now.unread c.deref-in-Ok.result.now (map (λ w. w.items) c.in-Ok.words.items)
    c.args.answers.now.items c.answer_one.new.answers.items (record { streams = c.args.server.now; session = c.self.inside.session })
    (record { streams = c.answer_one.new.server; session = c.answer_one.new.session })
    read c.in_ok-answer_one-in-Ok.ensures.ok c.answer_new.new.answers.items new) c.answer_new.ensures.err)

pub returns-in_err-answer_one-in-Ok-clause-err : goal.returns-in_err-answer_one-in-Ok-clause-err
returns-in_err-answer_one-in-Ok-clause-err c =
    let read : command_at c.args.self.now.unread ≡ Ok (map (λ w. w.items) c.in-Ok.words.items, c.in-Ok.behind.items) =
    search rules in
    let old : State = record { streams = c.args.server.now; session = c.self.inside.session } in
    let new : State = record { streams = c.answer_one.new.server; session = c.answer_one.new.session } in
    on_err_any _
    (subst (λ (s : State). GivesUp c.args.self.now.unread c.args.answers.now.items c.answer_one.new.answers.items s new)
    (ap (state_of c.args.server.now) c.self.view_is)
    (gives_up_within c.args.self.now.unread c.args.self.now.unread c.in-Ok.behind.items
    (map (λ w. w.items) c.in-Ok.words.items) c.args.answers.now.items c.args.answers.now.items c.answer_one.new.answers.items
    old old new (no_turns _ _ old) read c.in_err-answer_one-in-Ok.ensures.err c.in_err-answer_one-in-Ok.ensures.stepped))

pub returns-in-Err-Memory-clause-err : goal.returns-in-Err-Memory-clause-err
returns-in-Err-Memory-clause-err c = gives_up_now _ _ _ _ _ refl refl

pub returns-in-Err-Fault-clause-err : goal.returns-in-Err-Fault-clause-err
returns-in-Err-Fault-clause-err c =
    on_err_so c.push_protocol_error.result
    (λ same. gives_up_now _ _ _ _ _ same refl) c.push_protocol_error.ensures.err
