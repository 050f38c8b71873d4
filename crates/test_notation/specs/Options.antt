-- How options are printed in a line.
use Rattle.std.specs.Prelude.{ℕ, List, codes, if◌then◌else◌}
use Rattle.std.specs.Str.{is_utf8}
use Rattle.test_notation.specs.Form.{listed}

-- an argument as it is, or a question mark if it is not UTF-8
abbrev pub argument_form : List ℕ → List ℕ
argument_form bytes = if is_utf8 bytes then bytes else codes "?"

-- the arguments, with a space between each two
abbrev pub sentence_form : List (List ℕ) → List ℕ
sentence_form args = listed argument_form (codes " ") args
