use Rattle.std.proofs.Common.{◌≡◌, Some, ap, option_map, refl, rules, subst}
use Rattle.server_commands.specs.Serving.{GivesUp, state_of}
use Rattle.server_commands.specs.Steps.{State}
use Rattle.server_commands.proofs.ScanLemmas.{none_so}
use Rattle.server_commands.proofs.ServingLemmas.{gives_up_behind, on_err_any}
use Rattle.server_commands.proofs.client.Client.answer_new.Goals as goal

pub invariant_of-self-in_err-hold : goal.invariant_of-self-in_err-hold
invariant_of-self-in_err-hold c = none_so _ _ refl refl

pub invariant_of-self-in-Some : goal.invariant_of-self-in-Some
invariant_of-self-in-Some c = none_so _ _ refl refl

pub returns-in_err-hold-clause-err : goal.returns-in_err-hold-clause-err
returns-in_err-hold-clause-err c =
    let new : State = record { streams = c.answer_all.new.server; session = c.answer_all.new.session } in
    let left : option_map (λ r. r.now) c.in_ok-rest.rest ≡ Some c.in-Some.rest.now = search rules in
    on_err_any _
    (subst (λ (old : State). GivesUp c.args.bytes.now c.args.answers.now.items c.answer_all.new.answers.items old new)
    (ap (state_of c.args.server.now) c.self.view_is)
    (gives_up_behind c.args.bytes.now c.args.answers.now.items c.answer_all.new.answers.items c.in-Some.rest.now _
    (record { streams = c.args.server.now; session = c.self.inside.session }) new c.in_ok-rest.ensures.ok left))
