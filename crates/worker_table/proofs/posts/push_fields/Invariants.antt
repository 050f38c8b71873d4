use Rattle.std.proofs.Common.{◌≡◌, ◌++◌, ◌∷◌, [], flat_map}
use Rattle.worker_table.specs.Forwarded.{field_words}
use Rattle.worker_table.proofs.posts.push_fields.Given as goal

-- the words so far, followed by those of the fields that are left, are all words
abbrev pub invariant-loop-name : goal.invariant-loop-name
invariant-loop-name l = flat_map (λ word. word.now ∷ []) l.out.items ++ field_words l.name-iterator
    ≡ flat_map (λ word. word.now ∷ []) l.fn.out.items ++ field_words l.fn.fields
