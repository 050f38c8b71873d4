-- Which of the two commands a read of streams is.
use Rattle.std.specs.Prelude.{ℕ, List, codes, is_some, if◌then◌else◌}
use Rattle.stream_options.specs.Read.{Read}

-- `XREADGROUP` if a group is set, and else `XREAD`
abbrev pub read_word : Read → List ℕ
read_word options = if is_some options.group then codes "XREADGROUP" else codes "XREAD"
