use Rattle.std.proofs.Common.{◌≡◌, ◌++◌, ◌∷◌, [], flat_map, length, option_map}
use Rattle.json.specs.Value.{members_view}
use Rattle.worker.specs.Letters.{Fields, words_of}
use Rattle.worker_jobs.specs.Added.{fields_in}
use Rattle.worker_jobs.proofs.added.collect_fields.Given as goal

-- the names and values of the first members are collected
abbrev pub invariant-loop-rest : goal.invariant-loop-rest
invariant-loop-rest l = record {
  collected : (first : Fields) × (flat_map (λ word. word.now ∷ []) l.words.items ≡ words_of first)
      × (fields_in (members_view l.fn.members) ≡ option_map (λ fields. first ++ fields) (fields_in (members_view l.rest)));
}

abbrev pub decreases-loop-rest : goal.decreases-loop-rest
decreases-loop-rest l = length l.rest
