use Rattle.json.specs.Value.{items_view, value_view}
use Rattle.stream_fill.specs.JsonRecord.{field_of_pair, fields_of_pairs}
use Rattle.worker_producer.specs.Records.{field_of, fields_of}
use Rattle.stream_fill.proofs.JsonLemmas.{each_more, pairs_begun, one_field_more}
use Rattle.stream_fill.proofs.json_records.parse_pairs.Goals as goal

pub loop-pair-init : goal.loop-pair-init
loop-pair-init c = pairs_begun c.args.pairs.now c.new-record.result c.new-record.ensures.items

pub loop-pair-preserved : goal.loop-pair-preserved
loop-pair-preserved c =
    let vs = c.args.pairs.now in
    let field = c.in_ok-parse_pair.field-0 in
    each_more (λ v. field_of_pair (value_view v)) (fields_of_pairs (items_view vs)) vs
    (fields_of c.loop-pair.record) c.loop-pair.pair-index c.pair-item.result (field_of field) (fields_of c.push.new.self)
    c.loop-pair-test.true c.pair-item.is c.in_ok-parse_pair.ensures.ok
    (one_field_more c.loop-pair.record c.push.new.self field c.in_ok-push.ensures.items) c.loop-pair.invariant
