-- What the values of a command line say about a program's options.
use Rattle.std.specs.Prelude.{◌≡◌, [], ℕ, List, codes}
use Rattle.command_lines.specs.Numbers.{IsNumberIn, number_of}
use Rattle.command_lines.specs.WorkerSettings.{MakesGroup, largest}
use Rattle.command_lines.specs.Words.{Text, last_said, said}
use Rattle.worker.specs.declared.state.Settings.{Settings}

-- `number` is the value of `text`, and `text` is in the range from `least` to `most`
pub record IsNumberOf (least most : ℕ) (text : Text) (number : ℕ) : Type 0 where
  pub in_range : IsNumberIn least most text
  pub value : number ≡ number_of text

-- the value of the first text as a number, and the second text
abbrev pub number_and_text : Text × Text → ℕ × Text
number_and_text pair = (number_of pair.0, pair.1)

-- the values of the two texts as numbers
abbrev pub two_numbers : Text × Text → ℕ × ℕ
two_numbers pair = (number_of pair.0, number_of pair.1)

-- `s` has the numbers and the `--from` value that the values `line` specify. The names are not compared. The
-- last value of each option counts, or its default if it is absent. The default of `--count` is `usual`, and
-- its range is `least` to `most`.
pub record SaysSettings (usual : Text) (least most : ℕ) (line : List (Text × Text)) (s : Settings) : Type 0 where
  pub count : IsNumberOf least most (last_said usual (said (codes "--count") line)) s.count
  pub block : IsNumberOf 0 largest (last_said (codes "5000") (said (codes "--block") line)) s.block
  pub idle : IsNumberOf 0 largest (last_said (codes "60000") (said (codes "--idle") line)) s.min_idle
  pub every : IsNumberOf 0 largest (last_said (codes "10") (said (codes "--every") line)) s.every
  pub make_group : MakesGroup (last_said [] (said (codes "--from") line)) s.make_group
