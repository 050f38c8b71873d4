use Rattle.std.proofs.Common.{◌≡◌, ◌+◌, ◌++◌, map, drop}
use Rattle.model_server.specs.Once.Feed.{numbered}
use Rattle.worker_producer.specs.Records.{fields_of}
use Rattle.worker_producer.specs.Sentences.{adds_bytes, head_of}
use Rattle.worker_producer.proofs.batch.append_records.Given as goal

-- the bytes written so far and those still to be written are all bytes
abbrev pub invariant-loop-fields : goal.invariant-loop-fields
invariant-loop-fields l = record {
  number : l.number ≡ l.before + l.fields-index;
  bytes : l.out.items
      ++ adds_bytes (head_of l.settings) (numbered l.number (map fields_of (drop l.fields-index l.records)))
      ≡ l.initial.out.items ++ adds_bytes (head_of l.settings) (numbered l.before (map fields_of l.records));
}
