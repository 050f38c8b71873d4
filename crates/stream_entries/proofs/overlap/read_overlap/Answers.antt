use Rattle.std.proofs.Common.{◌≡◌, ◌≢◌, None, rules, sym}
use Rattle.redis_resp.specs.declared.value.error.ParsingError.TheVariants.{Memory}
use Rattle.stream_entries.specs.InForms.{item_in_forms}
use Rattle.stream_entries.proofs.NumbersLemmas.{no_id, no_fields, number_has_text, overlap_read}
use Rattle.stream_entries.proofs.overlap.read_overlap.Goals as goal

pub returns-in_err-id-clause-err : goal.returns-in_err-id-clause-err
returns-in_err-id-clause-err g c =
    let t = g.S.Source.seen c.args.v in
    let stop : c.in_err-id.field-0.0 ≢ Memory → item_in_forms t ≡ (None, None) =
    λ h. no_id t _ (sym c.in-Some.ensures) (c.in_err-id.ensures.err.1 h) in
    search rules

pub returns-in_err-map-clause-err : goal.returns-in_err-map-clause-err
returns-in_err-map-clause-err g c =
    let t = g.S.Source.seen c.args.v in
    let stop : c.in_err-map.field-0.0 ≢ Memory → item_in_forms t ≡ (None, None) =
    λ h. no_fields t _ (sym c.in-Some.ensures) (c.in_err-map.ensures.err.1 h) in
    search rules

pub returns-in_err-text-clause-err : goal.returns-in_err-text-clause-err
returns-in_err-text-clause-err g c =
    let t = g.S.Source.seen c.args.v in
    let stop : c.in_err-text.field-0.0 ≢ Memory → item_in_forms t ≡ (None, None) =
    λ h. number_has_text t _ c.args.number (sym c.in-Some.ensures) c.requires (c.in_err-text.ensures.err.1 h) in
    search rules

pub returns-clause-ok : goal.returns-clause-ok
returns-clause-ok g c =
    overlap_read (g.S.Source.seen c.args.v) _ _
    (sym c.in-Some.ensures) c.requires c.in_ok-id.ensures.ok c.in_ok-map.ensures.ok c.in_ok-text.ensures.ok
