use Rattle.std.proofs.Common.{◌≡◌, map, take}
use Rattle.worker_producer.specs.Records.{fields_of}
use Rattle.worker_producer.proofs.kept.copy_records.Given as goal

abbrev pub invariant-loop-original : goal.invariant-loop-original
invariant-loop-original l = map fields_of l.copies.items ≡ map fields_of (take l.original-index l.records)
