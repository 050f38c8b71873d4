-- The meaning of the arguments of XADD after the key.
use Rattle.std.specs.Prelude.{◌≡◌, ℕ, List, ◌∷◌, ◌++◌, false}
use Rattle.redis.specs.Words.{AddFits, AddSettings as Add, add_sentence, add_words, among}

-- `args` are these options, `id` and `fields`, in this order. `id` is not a fixed word of the options
pub record Asks (args : List (List ℕ)) (add : Add) (id : List ℕ) (fields : List (List ℕ)) : Type 0 where
  pub fits : AddFits add
  pub spelled : args ≡ add_sentence add ++ id ∷ fields
  pub apart : among add_words id ≡ false
