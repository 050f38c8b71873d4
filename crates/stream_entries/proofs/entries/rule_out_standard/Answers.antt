use Rattle.std.proofs.Common.{◌∙◌}
use Rattle.std.proofs.lemmas.Result.{IfOk-weaker}
use Rattle.stream_entries.specs.EntryMeaning.{entries_of}
use Rattle.stream_entries.specs.InFormsMeaning.{settled_in}
use Rattle.stream_entries.specs.declared.overlap.Form.TheVariants.{Standard, Claim}
use Rattle.stream_entries.proofs.InFormsLemmas.{standard_ruled_out}
use Rattle.stream_entries.proofs.entries.rule_out_standard.Goals as goal

pub returns-clause-ok : goal.returns-clause-ok
returns-clause-ok g c =
    IfOk-weaker c.with_delivery.result _ _
    (λ r h. h ∙ standard_ruled_out (g.S.Source.seen c.args.v) (entries_of c.in_ok-ids.ids)
    (settled_in Standard c.args.overlaps)
    (settled_in Claim c.args.overlaps) c.in_ok-ids.ensures c.requires) c.with_delivery.ensures.ok
