use Rattle.std.proofs.Common.{◌∙◌, arith, rules}
use Rattle.server_commands.proofs.IdWordLemmas.{memory_refused, none_refused, not_refused, read_more, told_read}
use Rattle.server_commands.proofs.commands.id_words.ids.Goals as goal

pub returns-in_err-id-clause-refused : goal.returns-in_err-id-clause-refused
returns-in_err-id-clause-refused c =
    not_refused c.args.arguments.now c.from_residual.result
    (none_refused c.args.arguments.now c.loop-argument.argument-index c.argument-item.result c.loop-argument-test.true
    c.argument-item.is (λ id fit is. absurd (grind (arith, c.id.ensures.id id fit (c.deref.ensures.value ∙ is), c.in_err-id.was))))

pub returns-in_err-push-clause-refused : goal.returns-in_err-push-clause-refused
returns-in_err-push-clause-refused c =
    memory_refused c.args.arguments.now c.from_residual-in_err-push.result c.from_residual-in_err-push.ensures.1

pub loop-argument-preserved : goal.loop-argument-preserved
loop-argument-preserved c = record {
  len = search rules;
  read =
      rw c.in_ok-push.ensures.items
      (read_more c.args.arguments.now c.loop-argument.argument-index c.argument-item.result c.loop-argument.ids.items
      c.in_ok-id.field-0 c.loop-argument-test.true c.argument-item.is c.loop-argument.invariant.read
      (told_read c.deref.result.now c.argument-item.result c.id.result c.in_ok-id.field-0 (search rules) c.in_ok-id.was c.id.ensures.id));
}
