-- How long and how many ids a stream keeps to detect duplicate entries, as settings and as
-- arguments.
use Rattle.std.specs.Prelude.{ℕ, ◌≤◌, ◌⊎◌, List, [], ◌∷◌, ◌++◌, codes, Option, IfSome, IsSome}
use Rattle.redis_args.specs.Clause.{clause, word_number}

-- the settings of `XCFGSET`: seconds, and entries
pub record Config : Type 0 where
  pub seconds : Option ℕ
  pub maxsize : Option ℕ

-- a duration in seconds: up to a day
abbrev pub IsDuration : ℕ → Type 0
IsDuration n = (1 ≤ n) × (n ≤ 86400)

-- a number of entries
abbrev pub IsMaxsize : ℕ → Type 0
IsMaxsize n = (1 ≤ n) × (n ≤ 10000)

-- settings that the command accepts: at least one, and each in its range
pub record IsConfig (c : Config) : Type 0 where
  pub seconds : IfSome c.seconds IsDuration
  pub maxsize : IfSome c.maxsize IsMaxsize
  pub any : IsSome c.seconds ⊎ IsSome c.maxsize

-- `[IDMP-DURATION d] [IDMP-MAXSIZE m]`
abbrev pub config_sentence : Config → List (List ℕ)
config_sentence c =
    clause (word_number (codes "IDMP-DURATION")) c.seconds
    ++ clause (word_number (codes "IDMP-MAXSIZE")) c.maxsize

-- the fixed words
abbrev pub config_words : List (List ℕ)
config_words = codes "IDMP-DURATION" ∷ codes "IDMP-MAXSIZE" ∷ []
