use Rattle.std.proofs.Common.{◌≡◌, ◌∙◌, [], ap, arith, length, refl, subst, sym}
use Rattle.std.specs.Prelude.{OnErr}
use Rattle.std.proofs.lemmas.Bool.Decides.{nat_tests}
use Rattle.std.proofs.lemmas.List.{nil_from_length}
use Rattle.std.proofs.lemmas.Result.{err_from_is_err_and}
use Rattle.server_commands.specs.Serving.{GivesUp, Standing, state_of}
use Rattle.server_commands.specs.Steps.{State}
use Rattle.server_commands.proofs.ServingLemmas.{gives_up_now}
use Rattle.server_commands.proofs.client.Client.answer.Goals as goal

pub returns-then-is_empty-clause-err : goal.returns-then-is_empty-clause-err
returns-then-is_empty-clause-err c =
    let len : length c.self.inside.unread.items ≡ 0 =
    grind (arith, nat_tests, c.is_empty.ensures, c.if-is_empty.true, c.self.inside.unread.ok.0) in
    let none : c.args.self.now.unread ≡ [] =
    sym (ap (λ (s : Standing). s.unread) c.self.view_is) ∙ nil_from_length c.self.inside.unread.items len in
    rw none
    (subst (λ (old : State). OnErr c.answer_new.result (GivesUp c.args.bytes.now c.args.answers.now.items
    c.answer_new.new.answers.items old (state_of c.answer_new.new.server c.answer_new.new.self)))
    (ap (state_of c.args.server.now) c.self.view_is) c.answer_new.ensures.err)

pub returns-in_err-hold-clause-err : goal.returns-in_err-hold-clause-err
returns-in_err-hold-clause-err c =
    let p = err_from_is_err_and c.from_residual.result c.from_residual.ensures.1 in
    rw p.1 (gives_up_now _ _ _ _ _ refl (ap (state_of c.args.server.now) c.self.view_is))
