use Rattle.std.proofs.Common.{◌≡◌, ◌++◌, drop, map}
use Rattle.std.specs.List.{flat_map}
use Rattle.redis_wire.specs.Packed.{bulk_bytes}
use Rattle.worker_producer.specs.Records.{arguments_of, field_of}
use Rattle.worker_producer.proofs.batch.append_fields.Given as goal

-- the bytes written so far and those still to be written are all bytes
abbrev pub invariant-loop-field : goal.invariant-loop-field
invariant-loop-field l =
    l.out.items ++ flat_map bulk_bytes (arguments_of (map field_of (drop l.field-index l.fields)))
    ≡ l.initial.out.items ++ flat_map bulk_bytes (arguments_of (map field_of l.fields))
