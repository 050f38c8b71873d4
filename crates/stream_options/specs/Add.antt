-- The options of an addition, as settings and as arguments.
use Rattle.std.specs.Prelude.{ℕ, Bool, false, List, ◌∷◌, ◌++◌, codes, Option, None, IfSome}
use Rattle.redis_args.specs.Clause.{clause, flag}
use Rattle.stream_options.specs.Idempotency.{Idempotency, idempotency_sentence, idempotency_words, IdempotencyFits}
use Rattle.stream_options.specs.Policy.{Policy, policy_sentence, policy_words}
use Rattle.stream_options.specs.Trim.{Strategy, strategy_sentence, strategy_words, StrategyFits}

-- the settings of `XADD`
pub record Add : Type 0 where
  pub nomkstream : Bool
  pub policy : Option Policy
  pub idempotency : Option Idempotency
  pub trim : Option Strategy

-- no setting
abbrev pub default_add : Add
default_add = record { nomkstream = false; policy = None; idempotency = None; trim = None }

-- `[NOMKSTREAM] [policy] [idempotency] [strategy]`
abbrev pub add_sentence : Add → List (List ℕ)
add_sentence a =
    flag (codes "NOMKSTREAM") a.nomkstream
    ++ (clause policy_sentence a.policy
    ++ (clause idempotency_sentence a.idempotency
    ++ clause strategy_sentence a.trim))

-- the fixed words
abbrev pub add_words : List (List ℕ)
add_words = codes "NOMKSTREAM" ∷ (policy_words ++ (idempotency_words ++ strategy_words))

-- numbers are in their ranges, ids are texts
pub record AddFits (a : Add) : Type 0 where
  pub idempotency : IfSome a.idempotency IdempotencyFits
  pub trim : IfSome a.trim StrategyFits
