use Rattle.std.proofs.Common.{◌≡◌, ◌+◌, take}
use Rattle.std.specs.Prelude.{vec_len}
use Rattle.test_notation.specs.ConfigText.{IsConfigText}
use Rattle.test_notation.specs.Vectors.{AddsRows}
use Rattle.test_notation.proofs.vectors.config.push_config_rows.Given as goal

-- the rows of the calls so far were added
abbrev pub invariant-loop-name : goal.invariant-loop-name
invariant-loop-name l = record {
  rows : AddsRows IsConfigText l.initial.rows.items l.rows.items (take l.name-index l.vectors);
  count : vec_len l.rows ≡ vec_len l.initial.rows + l.name-index;
}
