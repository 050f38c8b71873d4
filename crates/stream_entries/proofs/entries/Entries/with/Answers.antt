use Rattle.std.proofs.Common.{◌∙◌, sym}
use Rattle.std.proofs.lemmas.Result.{IfOk-weaker, IfErr-weaker}
use Rattle.stream_entries.proofs.InFormsLemmas.{same_item}
use Rattle.stream_entries.proofs.entries.Entries.with.Goals as goal

pub returns-in-Whole-clause-ok : goal.returns-in-Whole-clause-ok
returns-in-Whole-clause-ok g c = IfOk-weaker c.with_either.result _ _
    (λ r h. h ∙ same_item g.S.Source.seen _ _ _ _ c.in-Both.is c.in-Whole.is) c.with_either.ensures.ok

pub returns-in-Whole-clause-err : goal.returns-in-Whole-clause-err
returns-in-Whole-clause-err g c = IfErr-weaker c.with_either.result _ _
    (λ e r n. sym (same_item g.S.Source.seen _ _ _ _ c.in-Both.is c.in-Whole.is) ∙ r n) c.with_either.ensures.err

pub returns-in-Pair-clause-ok : goal.returns-in-Pair-clause-ok
returns-in-Pair-clause-ok g c = IfOk-weaker c.rule_out_claim.result _ _
    (λ r h. h ∙ same_item g.S.Source.seen _ _ _ _ c.in-Both.is c.in-Pair.is) c.rule_out_claim.ensures.ok

pub returns-in-Pair-clause-err : goal.returns-in-Pair-clause-err
returns-in-Pair-clause-err g c = IfErr-weaker c.rule_out_claim.result _ _
    (λ e r n. sym (same_item g.S.Source.seen _ _ _ _ c.in-Both.is c.in-Pair.is) ∙ r n) c.rule_out_claim.ensures.err
