-- What is shown of a word that was sent.
use Rattle.std.specs.Prelude.{ℕ, Bool, not, ◌==◌, List, take}
use Rattle.std.specs.List.{prefix_len}

-- a byte that is no NUL
abbrev pub is_not_nul : ℕ → Bool
is_not_nul b = not (b == 0)

-- what is before the first NUL
abbrev pub text_before_nul : List ℕ → List ℕ
text_before_nul word = take (prefix_len is_not_nul word) word
