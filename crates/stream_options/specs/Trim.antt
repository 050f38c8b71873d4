-- The options of trimming, as settings and as arguments.
use Rattle.std.specs.Prelude.{ℕ, List, [], ◌∷◌, ◌++◌, codes, decimal, Option, None, IfSome}
use Rattle.std.specs.Str.{IsUtf8}
use Rattle.redis_args.specs.Clause.{clause, word_number}
use Rattle.stream_options.specs.Policy.{Policy, policy_sentence, policy_words}
use Rattle.stream_options.specs.Words.{IsUsize}

-- to exactly the bound, or approximately
pub data Mode : Type 0 where
  exact : Mode
  approx : Mode

-- `=` or `~`
abbrev pub mode_word : Mode → List ℕ
mode_word exact = codes "="
mode_word approx = codes "~"

-- the word alone
abbrev pub mode_sentence : Mode → List (List ℕ)
mode_sentence mode = mode_word mode ∷ []

-- the fixed words
abbrev pub mode_words : List (List ℕ)
mode_words = codes "=" ∷ codes "~" ∷ []

-- the number of entries that are kept, or the id of the first one kept
pub data Bound : Type 0 where
  max_len : Mode → ℕ → Bound
  min_id : Mode → List ℕ → Bound

-- `MAXLEN mode n` or `MINID mode id`
abbrev pub bound_sentence : Bound → List (List ℕ)
bound_sentence (max_len mode n) = codes "MAXLEN" ∷ mode_word mode ∷ decimal n ∷ []
bound_sentence (min_id mode id) = codes "MINID" ∷ mode_word mode ∷ id ∷ []

-- the number is in its range, the id a text
abbrev pub BoundFits : Bound → Type 0
BoundFits (max_len mode n) = IsUsize n
BoundFits (min_id mode id) = IsUtf8 id

-- a bound, and the maximum number of entries that one call removes
pub record Strategy : Type 0 where
  pub bound : Bound
  pub limit : Option ℕ

-- the strategy of a bound, with no limit
abbrev pub unlimited : Bound → Strategy
unlimited bound = record { bound = bound; limit = None }

-- `MAXLEN mode n [LIMIT l]` or `MINID mode id [LIMIT l]`
abbrev pub strategy_sentence : Strategy → List (List ℕ)
strategy_sentence s = bound_sentence s.bound ++ clause (word_number (codes "LIMIT")) s.limit

-- the fixed words
abbrev pub strategy_words : List (List ℕ)
strategy_words = codes "MAXLEN" ∷ codes "MINID" ∷ codes "LIMIT" ∷ mode_words

-- numbers are in their ranges, the id is a text
pub record StrategyFits (s : Strategy) : Type 0 where
  pub bound : BoundFits s.bound
  pub limit : IfSome s.limit IsUsize

-- the settings of `XTRIM`
pub record Trim : Type 0 where
  pub strategy : Strategy
  pub policy : Option Policy

-- `strategy [policy]`
abbrev pub trim_sentence : Trim → List (List ℕ)
trim_sentence t = strategy_sentence t.strategy ++ clause policy_sentence t.policy

-- the fixed words
abbrev pub trim_words : List (List ℕ)
trim_words = strategy_words ++ policy_words

-- numbers are in their ranges, the id is a text
abbrev pub TrimFits : Trim → Type 0
TrimFits t = StrategyFits t.strategy
