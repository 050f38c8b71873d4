-- The options of an automatic claim, as settings and as arguments.
use Rattle.std.specs.Prelude.{ℕ, Bool, false, List, [], ◌∷◌, ◌++◌, codes, Option, None, IfSome}
use Rattle.redis_args.specs.Clause.{clause, word_number, flag}
use Rattle.stream_options.specs.Words.{IsUsize}

-- the settings of `XAUTOCLAIM`
pub record AutoClaim : Type 0 where
  pub count : Option ℕ
  pub justid : Bool

-- no setting
abbrev pub default_autoclaim : AutoClaim
default_autoclaim = record { count = None; justid = false }

-- `[COUNT n] [JUSTID]`
abbrev pub autoclaim_sentence : AutoClaim → List (List ℕ)
autoclaim_sentence c = clause (word_number (codes "COUNT")) c.count ++ flag (codes "JUSTID") c.justid

-- the fixed words
abbrev pub autoclaim_words : List (List ℕ)
autoclaim_words = codes "COUNT" ∷ codes "JUSTID" ∷ []

-- the number is in its range
abbrev pub AutoClaimFits : AutoClaim → Type 0
AutoClaimFits c = IfSome c.count IsUsize
