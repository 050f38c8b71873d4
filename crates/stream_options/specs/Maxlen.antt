-- The maximum number of entries of a stream.
use Rattle.std.specs.Prelude.{ℕ, List, [], ◌∷◌, codes, decimal}
use Rattle.stream_options.specs.Trim.{Mode, mode_word, mode_words}
use Rattle.stream_options.specs.Words.{IsUsize}

-- the number of entries, and the mode
pub record Maxlen : Type 0 where
  pub mode : Mode
  pub count : ℕ

-- `MAXLEN = n` or `MAXLEN ~ n`
abbrev pub maxlen_sentence : Maxlen → List (List ℕ)
maxlen_sentence m = codes "MAXLEN" ∷ mode_word m.mode ∷ decimal m.count ∷ []

-- the fixed words
abbrev pub maxlen_words : List (List ℕ)
maxlen_words = codes "MAXLEN" ∷ mode_words

-- the number is in its range
abbrev pub MaxlenFits : Maxlen → Type 0
MaxlenFits m = IsUsize m.count
