use Rattle.std.proofs.Common.{◌≡◌, ◌++◌, drop, map}
use Rattle.std.specs.List.{flat_map}
use Rattle.redis_wire.specs.Packed.{bulk_bytes}
use Rattle.worker_producer.proofs.batch.append_arguments.Given as goal

-- the bytes written so far and those still to be written are all bytes
abbrev pub invariant-loop-word : goal.invariant-loop-word
invariant-loop-word l =
    l.out.items ++ flat_map bulk_bytes (map (λ w. w.items) (drop l.word-index l.words))
    ≡ l.initial.out.items ++ flat_map bulk_bytes (map (λ w. w.items) l.words)
