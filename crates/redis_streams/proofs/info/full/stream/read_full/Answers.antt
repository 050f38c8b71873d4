use Rattle.std.proofs.Common.{ap, map}
use Rattle.redis_resp.specs.Refusal.{Refuses}
use Rattle.redis_streams.specs.InfoFull.{full_stream_of}
use Rattle.redis_streams.specs.InfoFullRefusal.{RefusesFullField}
use Rattle.redis_streams.specs.InfoFullMeaning.{full_group_meaning}
use Rattle.redis_streams.specs.InfoMeaning.{fields_by_name}
use Rattle.redis_streams.proofs.InfoFullLemmas.{refused_by_groups}
use Rattle.redis_streams.proofs.InfoLemmas.{passed_on}
use Rattle.redis_streams.proofs.info.full.stream.read_full.Goals as goal

pub returns-in_err-groups-clause-err : goal.returns-in_err-groups-clause-err
returns-in_err-groups-clause-err g c =
    let fields = fields_by_name g.S.Source.seen c.args.fields in
    passed_on
    (Refuses full_stream_of RefusesFullField fields) c.in_err-groups.field-0.0 _
    c.from_residual-in_err-groups.ensures.1
    (refused_by_groups fields _ _ c.in_err-groups.field-0.0
    (ap
    (map full_group_meaning) c.new-5.ensures.items) c.take_full_fields-fields.ensures.groups
    c.in_err-groups.ensures.err)
