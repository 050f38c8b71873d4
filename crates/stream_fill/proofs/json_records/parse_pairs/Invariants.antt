use Rattle.std.proofs.Common.{◌≡◌, drop}
use Rattle.json.specs.Value.{items_view, value_view}
use Rattle.stream_fill.specs.JsonRecord.{field_of_pair, fields_of_pairs}
use Rattle.worker_producer.specs.Records.{fields_of}
use Rattle.stream_fill.proofs.JsonLemmas.{and_rest, each_of}
use Rattle.stream_fill.proofs.json_records.parse_pairs.Given as goal

-- the fields so far, and those of the pairs that are left
abbrev pub invariant-loop-pair : goal.invariant-loop-pair
invariant-loop-pair l = fields_of_pairs (items_view l.pairs)
    ≡ and_rest (fields_of l.record) (each_of (λ v. field_of_pair (value_view v)) (drop l.pair-index l.pairs))
