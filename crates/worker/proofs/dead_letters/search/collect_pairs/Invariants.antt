use Rattle.std.proofs.Common.{◌≡◌, ◌%◌, ◌∷◌, [], ◌++◌, length, map}
use Rattle.std.specs.List.{flat_map}
use Rattle.worker.proofs.dead_letters.search.collect_pairs.Given as goal

-- the pairs so far and what is left are all the texts
abbrev pub invariant-loop-rest : goal.invariant-loop-rest
invariant-loop-rest l = record {
  texts : flat_map (λ pair. pair.0.now ∷ pair.1.now ∷ []) l.pairs.items ++ map (λ text. text.0.items) l.rest
      ≡ map (λ text. text.0.items) l.fn.texts;
  parity : length l.rest % 2 ≡ length l.fn.texts % 2;
}

abbrev pub decreases-loop-rest : goal.decreases-loop-rest
decreases-loop-rest l = length l.rest
