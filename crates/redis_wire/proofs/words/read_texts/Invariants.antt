use Rattle.std.proofs.Common.{◌≡◌, map, length}
use Rattle.std.specs.Vec.Iter.{into_iter_items, into_iter_len}
use Rattle.redis_resp.specs.Value.{tree}
use Rattle.redis_resp.proofs.ReadLemmas.{ReadSoFar}
use Rattle.redis_wire.specs.Words.{bulk_text}
use Rattle.redis_wire.proofs.words.read_texts.Given as goal

abbrev pub invariant-loop-value : goal.invariant-loop-value
invariant-loop-value l = record {
  so_far : ReadSoFar bulk_text (map tree (into_iter_items l.initial.value-iterator))
      (map tree (into_iter_items l.value-iterator)) (map (λ w. w.items) l.words.items);
  count : into_iter_len l.value-iterator ≡ length (into_iter_items l.value-iterator);
}
