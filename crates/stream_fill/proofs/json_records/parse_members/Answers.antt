use Rattle.json.specs.Value.{members_view, value_view}
use Rattle.stream_fill.specs.JsonRecord.{field_of_member, fields_of_members}
use Rattle.worker_producer.specs.Records.{field_of, fields_of}
use Rattle.stream_fill.proofs.JsonLemmas.{each_more, members_begun, one_field_more}
use Rattle.stream_fill.proofs.json_records.parse_members.Goals as goal

pub loop-member-init : goal.loop-member-init
loop-member-init c = members_begun c.args.members.now c.new-record.result c.new-record.ensures.items

pub loop-member-preserved : goal.loop-member-preserved
loop-member-preserved c =
    let ms = c.args.members.now in
    let field = c.in_ok-parse_member.field-0 in
    each_more (λ m. field_of_member m.0.now (value_view m.1)) (fields_of_members (members_view ms)) ms
    (fields_of c.loop-member.record) c.loop-member.member-index c.member-item.result (field_of field) (fields_of c.push.new.self)
    c.loop-member-test.true c.member-item.is c.in_ok-parse_member.ensures.ok
    (one_field_more c.loop-member.record c.push.new.self field c.in_ok-push.ensures.items) c.loop-member.invariant
