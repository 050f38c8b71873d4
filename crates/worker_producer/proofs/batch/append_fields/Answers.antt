use Rattle.worker_producer.proofs.RequestLemmas.{field_written}
use Rattle.worker_producer.proofs.batch.append_fields.Goals as goal

pub loop-field-preserved : goal.loop-field-preserved
loop-field-preserved c =
    field_written c.loop-field.field-index c.args.fields.now c.field-item.result _ _ _ c.loop-field-test.true
    c.field-item.is c.in_ok-append_field.ensures c.loop-field.invariant
