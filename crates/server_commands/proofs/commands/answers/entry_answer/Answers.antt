use Rattle.std.proofs.Common.{List, ◌∙◌, ap}
use Rattle.std.specs.Global.{Vec}
use Rattle.std.specs.Prelude.{ℕ}
use Rattle.server_commands.specs.Claiming.{sent_fields}
use Rattle.server_commands.proofs.ReadLemmas.{entry_answered}
use Rattle.server_commands.proofs.commands.answers.entry_answer.Goals as goal

pub returns : goal.returns
returns c =
    entry_answered c.array.result c.args.entry.now c.in_ok-fields.fields
    (c.in_ok-fields.ensures ∙ ap (λ (fields : List (Vec ℕ)). sent_fields fields) c.deref.ensures.value) c.array.ensures
