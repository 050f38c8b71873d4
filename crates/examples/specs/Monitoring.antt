-- The lag of a group among groups.
use Rattle.std.specs.Prelude.{ℕ, List, Option, option_and_then}
use Rattle.std.specs.List.{find}
use Rattle.std.specs.Str.{bytes_eq}
use Rattle.redis.specs.Words.{Group}

-- the lag of the first group with this name. `None` if there is no such group, or if its lag is not known
abbrev pub lag_in : List ℕ → List Group → Option ℕ
lag_in name groups = option_and_then (λ g. g.lag) (find (λ g. bytes_eq g.name name) groups)
