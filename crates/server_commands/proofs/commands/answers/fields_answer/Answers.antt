use Rattle.std.proofs.Common.{List, ℕ, ◌∙◌, ap}
use Rattle.redis_resp.specs.Tree.{bulk}
use Rattle.server_commands.specs.Sent.{plain}
use Rattle.server_commands.proofs.ReadLemmas.{field_more, fields_sent}
use Rattle.server_commands.proofs.commands.answers.fields_answer.Goals as goal

pub loop-field-preserved : goal.loop-field-preserved
loop-field-preserved c =
    field_more c.args.fields.now c.loop-field.field-index c.field-item.result c.loop-field.answers.items c.put.new.answers.items
    c.in_ok-bytes_answer.field-0 c.loop-field-test.true c.field-item.is c.in_ok-put.ensures
    (c.in_ok-bytes_answer.ensures ∙ ap (λ (bytes : List ℕ). plain (bulk bytes)) c.deref.ensures.value) c.loop-field.invariant

pub returns : goal.returns
returns c =
    fields_sent c.loop-field.answers c.args.fields.now c.loop-field.field-index c.loop-field-test.false c.loop-field.invariant
