use Rattle.std.proofs.Common.{ap, map}
use Rattle.redis_resp.specs.Refusal.{Refuses}
use Rattle.redis_streams.specs.InfoFull.{full_group_of}
use Rattle.redis_streams.specs.InfoFullRefusal.{RefusesFullGroupField}
use Rattle.redis_streams.specs.InfoFullMeaning.{full_consumer_meaning}
use Rattle.redis_streams.specs.InfoMeaning.{fields_by_name}
use Rattle.redis_streams.proofs.InfoFullLemmas.{refused_by_consumers}
use Rattle.redis_streams.proofs.InfoLemmas.{passed_on}
use Rattle.redis_streams.proofs.info.full.group.read_full_group.Goals as goal

pub returns-in_err-consumers-clause-err : goal.returns-in_err-consumers-clause-err
returns-in_err-consumers-clause-err g c =
    let fields = fields_by_name g.S.Source.seen c.args.fields in
    passed_on
    (Refuses full_group_of RefusesFullGroupField fields) c.in_err-consumers.field-0.0 _
    c.from_residual-in_err-consumers.ensures.1
    (refused_by_consumers fields _ _ c.in_err-consumers.field-0.0
    (ap
    (map full_consumer_meaning) c.new-4.ensures.items) c.take_full_group_fields-fields.ensures.consumers
    c.in_err-consumers.ensures.err)
