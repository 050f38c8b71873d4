use Rattle.std.proofs.Common.{◌≡◌, ◌+◌, ◌++◌, map, take}
use Rattle.std.specs.Prelude.{vec_len}
use Rattle.test_notation.specs.Vectors.{options_texts, row_texts}
use Rattle.test_notation.proofs.vectors.push_options_rows.Given as goal

-- the rows of the vectors so far were added
abbrev pub invariant-loop-name : goal.invariant-loop-name
invariant-loop-name g l = record {
  rows : map row_texts l.rows.items ≡ map row_texts l.initial.rows.items
      ++ map (options_texts g.T.PrintedForm.form) (take l.name-index l.vectors);
  count : vec_len l.rows ≡ vec_len l.initial.rows + l.name-index;
}
