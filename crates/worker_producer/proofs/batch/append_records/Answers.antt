use Rattle.std.proofs.Common.{◌+◌, ◌++◌, ◌∙◌, ap, arith}
use Rattle.worker_producer.specs.Records.{fields_of}
use Rattle.worker_producer.specs.Sentences.{head_of}
use Rattle.worker_producer.proofs.RequestLemmas.{in_parts, written}
use Rattle.worker_producer.proofs.batch.append_records.Goals as goal

pub loop-fields-preserved : goal.loop-fields-preserved
loop-fields-preserved c = record {
  number = omega arith;
  bytes =
      let fields = fields_of c.fields-item.result in
      let head = head_of c.args.settings.now in
      let parts = in_parts head c.in_ok-front.front.count c.in_ok-front.front.bytes.items (c.loop-fields.number + 1) fields
      c.in_ok-front.ensures.count c.in_ok-front.ensures.bytes in
      written fields_of head c.loop-fields.number c.loop-fields.fields-index c.args.records.now
      c.fields-item.result _ _ _ c.loop-fields-test.true c.fields-item.is
      (c.in_ok-append_record.ensures ∙ ap (λ bytes. c.loop-fields.out.items ++ bytes) parts)
      c.loop-fields.invariant.bytes;
}
