use Rattle.std.proofs.Common.{inr, sym, ◌∙◌}
use Rattle.redis_resp.specs.Refusal.{Refuses}
use Rattle.redis_streams.specs.Info.{tracked_of}
use Rattle.redis_streams.specs.InfoMeaning.{fields_by_name}
use Rattle.redis_streams.specs.InfoRefusal.{RefusesTrackedField}
use Rattle.redis_streams.proofs.InfoLemmas.{no_base, passed_on}
use Rattle.redis_streams.proofs.info.idempotency.read_tracked.Goals as goal

pub returns-in_err-base-clause-err : goal.returns-in_err-base-clause-err
returns-in_err-base-clause-err g c =
    let fields = fields_by_name g.S.Source.seen c.args.fields in
    let why = c.in_err-base.ensures.err in
    passed_on
    (Refuses tracked_of RefusesTrackedField fields) c.in_err-base.field-0.0 _ c.from_residual-in_err-base.ensures.1 (
      inr (inr (inr (inr (inr (inr (c.take_producer_fields-producers.ensures.refused _ why.0)))))),
      λ h. no_base fields (sym c.take_producer_fields-producers.ensures.stream ∙ why.1 h),
    )
