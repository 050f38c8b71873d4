use Rattle.std.proofs.Common.{◌≡◌, map, take}
use Rattle.worker_producer.specs.Records.{field_of}
use Rattle.worker_producer.proofs.kept.copy_record.Given as goal

abbrev pub invariant-loop-field : goal.invariant-loop-field
invariant-loop-field l =
    map field_of l.copy.items ≡ map field_of (take l.field-index l.original.items)
