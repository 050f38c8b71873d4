-- The options of a claim, as settings and as arguments.
use Rattle.std.specs.Prelude.{ℕ, Bool, false, List, [], ◌∷◌, ◌++◌, codes, Option, None, IfSome}
use Rattle.std.specs.Str.{IsUtf8}
use Rattle.redis_args.specs.Clause.{clause, word_number, word_text, flag}
use Rattle.stream_options.specs.Words.{IsUsize}

-- the settings of `XCLAIM`; `idle` in milliseconds, `time` in milliseconds since 1970
pub record Claim : Type 0 where
  pub idle : Option ℕ
  pub time : Option ℕ
  pub retry : Option ℕ
  pub force : Bool
  pub justid : Bool
  pub lastid : Option (List ℕ)

-- no setting
abbrev pub default_claim : Claim
default_claim = record {
  idle = None;
  time = None;
  retry = None;
  force = false;
  justid = false;
  lastid = None;
}

-- `[IDLE n] [TIME n] [RETRYCOUNT n] [FORCE] [JUSTID] [LASTID id]`
abbrev pub claim_sentence : Claim → List (List ℕ)
claim_sentence c =
    clause (word_number (codes "IDLE")) c.idle
    ++ (clause (word_number (codes "TIME")) c.time
    ++ (clause (word_number (codes "RETRYCOUNT")) c.retry
    ++ (flag (codes "FORCE") c.force
    ++ (flag (codes "JUSTID") c.justid
    ++ clause (word_text (codes "LASTID")) c.lastid))))

-- the fixed words
abbrev pub claim_words : List (List ℕ)
claim_words = codes "IDLE" ∷ codes "TIME" ∷ codes "RETRYCOUNT" ∷ codes "FORCE" ∷ codes "JUSTID" ∷ codes "LASTID" ∷ []

-- numbers are in their ranges, the id is a text
pub record ClaimFits (c : Claim) : Type 0 where
  pub idle : IfSome c.idle IsUsize
  pub time : IfSome c.time IsUsize
  pub retry : IfSome c.retry IsUsize
  pub lastid : IfSome c.lastid IsUtf8
