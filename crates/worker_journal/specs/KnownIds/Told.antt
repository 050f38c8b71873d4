-- The ids of lines, and the offsets of the lines.
use Rattle.std.specs.Prelude.{◌≡◌, ◌+◌, ℕ, suc, List, [], ◌∷◌, ◌++◌, take, drop, length, codes, ◌&&◌, Bool, true, false, Option, Some, None}
use Rattle.std.specs.Prelude.{if◌then◌else◌, option_and_then, option_map}
use Rattle.std.specs.Str.{bytes_eq}
use Rattle.worker_journal.specs.LastLines.{lines_of}
use Rattle.worker_journal.specs.Lines.{HasNoEnd}
use Rattle.worker_journal.specs.KnownIds.Cut.{before, from}
use Rattle.worker_journal.specs.KnownIds.Known.{Place}
use Rattle.worker_journal.specs.KnownIds.Number.{number_of}

-- whether `text` starts with `head`
abbrev pub begins : List ℕ → List ℕ → Bool
begins head text = bytes_eq (take (length head) text) head

-- the id in a line of JSON, or `None` if the line has another form
abbrev pub id_of_json : List ℕ → Option (List ℕ)
id_of_json line = if begins (codes "{\"id\":\"") line && begins (codes "\",\"fields\":[") (from 34 (drop 7 line))
    then Some (before 34 (drop 7 line)) else None

-- the number of the id at the start of a line. The line is JSON if `json` is true, and else texts that tabs
-- separate
abbrev pub line_number : Bool → List ℕ → Option ℕ
line_number true line = option_and_then number_of (id_of_json line)
line_number false line = number_of (before 9 line)

-- the places with the number of the line at the offset `at` in front. `None` if the line has no number
abbrev pub and_told : ℕ → Option ℕ → Option (List Place) → Option (List Place)
and_told at None places = None
and_told at (Some n) places = option_map (λ rest. (n, at) ∷ rest) places

-- the numbers of the ids of these lines, in order, with the offsets of the lines. The first line begins at
-- `at`. `None` if a line has no id
abbrev pub told : Bool → ℕ → List (List ℕ) → Option (List Place)
told json at [] = Some []
told json at (line ∷ lines) = and_told at (line_number json line) (told json (at + suc (length line)) lines)

-- `places`, and then the places of the lines in `bytes`, which begin at the offset `at`
abbrev pub told_too : Bool → List Place → ℕ → List ℕ → Option (List Place)
told_too json places at bytes = option_map (λ more. places ++ more) (told json at (lines_of bytes))

-- a part of `bytes` was read after the started line `line`. The ids of the lines that ended were added to
-- `old`. `begun` is the started line now, and `left` are the bytes that were not read
pub record Took (json : Bool) (old : List Place) (start : ℕ) (line bytes : List ℕ) (new : List Place) (next : ℕ)
    (begun left : List ℕ) : Type 0 where
  pub no_end : HasNoEnd begun
  pub same : (behind : List ℕ)
      → told_too json old start (line ++ (bytes ++ behind)) ≡ told_too json new next (begun ++ (left ++ behind))
