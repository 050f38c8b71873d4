use Rattle.std.proofs.Common.{◌∙◌}
use Rattle.std.proofs.lemmas.Result.{IfOk-weaker, IfErr-weaker}
use Rattle.stream_entries.proofs.ItemFormLemmas.{ids_are_entries}
use Rattle.stream_entries.proofs.items.read_ids.Goals as goal

pub returns-clause-ok : goal.returns-clause-ok
returns-clause-ok g c = IfOk-weaker c.read_list_of.result _ _
    (λ entries h. ids_are_entries (g.S.Source.seen c.args.v) ∙ h) c.read_list_of.ensures.ok

pub returns-clause-err : goal.returns-clause-err
returns-clause-err g c = IfErr-weaker c.read_list_of.result _ _
    (λ e r. (r.0, λ h. ids_are_entries (g.S.Source.seen c.args.v) ∙ r.1 h)) c.read_list_of.ensures.err
