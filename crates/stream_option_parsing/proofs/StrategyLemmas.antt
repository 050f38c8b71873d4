-- A strategy is a bound, and a limit if one is set.
use Rattle.std.proofs.Common.{◌≡◌, ℕ, List, codes, Option, Some, None, refl, ◌∙◌, ap}
use Rattle.std.proofs.lemmas.Option.{some_pair_parts}
use Rattle.std.specs.Option.{option_map, option_and_then}
use Rattle.stream_options.specs.ReadBack.{seen, followed, bound_at, number_clause, strategy_with, strategy_at}
use Rattle.stream_options.specs.Trim.{Bound, Strategy, unlimited}
use Rattle.stream_option_parsing.specs.Split.{unlimited_at}

by_limit : (b : Bound) (z : Option (Option ℕ × List (List ℕ)))
    → option_map (seen strategy_with) (option_map (λ x. ((b, x.0), x.1)) z)
    ≡ option_map (λ x. (record { bound = b; limit = x.0 }, x.1)) z
by_limit b None = refl
by_limit b (Some x) = refl

-- what is read where the bound is this one
after_bound : (o : Option (Bound × List (List ℕ))) (s : Strategy) (r : List (List ℕ))
    (z : Option (Option ℕ × List (List ℕ))) → option_map (seen unlimited) o ≡ Some (s, r)
    → number_clause (codes "LIMIT") r ≡ z
    → option_map (seen strategy_with) (option_and_then (followed (number_clause (codes "LIMIT"))) o)
    ≡ option_map (λ x. (record s { limit = x.0 }, x.1)) z
after_bound None s r z e f = absurd cc
after_bound (Some b) s r z e f =
    let p = some_pair_parts (unlimited b.0) s b.1 r e in
    rw (← p.0, p.1, f) (by_limit b.0 z)

no_limit : (o : Option (Bound × List (List ℕ))) (s : Strategy) (r : List (List ℕ))
    → option_map (seen unlimited) o ≡ Some (s, r) → record s { limit = None } ≡ s
no_limit None s r e = absurd cc
no_limit (Some b) s r e = rw (← (some_pair_parts (unlimited b.0) s b.1 r e).0) refl

no_bound : (o : Option (Bound × List (List ℕ))) → option_map (seen unlimited) o ≡ None
    → option_map (seen strategy_with) (option_and_then (followed (number_clause (codes "LIMIT"))) o) ≡ None
no_bound None e = refl
no_bound (Some b) e = absurd cc

-- a limit follows
pub strategy_limited : (args rest more : List (List ℕ)) (s : Strategy) (n : ℕ) → unlimited_at args ≡ Some (s, rest)
    → number_clause (codes "LIMIT") rest ≡ Some (Some n, more)
    → strategy_at args ≡ Some (record s { limit = Some n }, more)
strategy_limited args rest more s n e f = after_bound (bound_at args) s rest (Some (Some n, more)) e f

-- none does
pub strategy_unlimited : (args rest more : List (List ℕ)) (s : Strategy) → unlimited_at args ≡ Some (s, rest)
    → number_clause (codes "LIMIT") rest ≡ Some (None, more) → strategy_at args ≡ Some (s, more)
strategy_unlimited args rest more s e f = after_bound (bound_at args) s rest (Some (None, more)) e f
    ∙ ap (λ t. Some (t, more)) (no_limit (bound_at args) s rest e)

-- what is no number follows its word
pub strategy_ends : (args rest : List (List ℕ)) (s : Strategy) → unlimited_at args ≡ Some (s, rest)
    → number_clause (codes "LIMIT") rest ≡ None → strategy_at args ≡ None
strategy_ends args rest s e f = after_bound (bound_at args) s rest None e f

-- the arguments do not begin with a bound
pub strategy_missing : (args : List (List ℕ)) → unlimited_at args ≡ None → strategy_at args ≡ None
strategy_missing args e = no_bound (bound_at args) e

pub ruleset limits = (strategy_limited, strategy_unlimited, strategy_ends, strategy_missing)
