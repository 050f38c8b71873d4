use Rattle.std.proofs.Common.{◌≡◌, drop}
use Rattle.json.specs.Value.{members_view, value_view}
use Rattle.stream_fill.specs.JsonRecord.{field_of_member, fields_of_members}
use Rattle.worker_producer.specs.Records.{fields_of}
use Rattle.stream_fill.proofs.JsonLemmas.{and_rest, each_of}
use Rattle.stream_fill.proofs.json_records.parse_members.Given as goal

-- the fields so far, and those of the members that are left
abbrev pub invariant-loop-member : goal.invariant-loop-member
invariant-loop-member l = fields_of_members (members_view l.members)
    ≡ and_rest (fields_of l.record) (each_of (λ m. field_of_member m.0.now (value_view m.1)) (drop l.member-index l.members))
