use Rattle.std.proofs.Common.{◌≡◌, ◌+◌, take}
use Rattle.std.specs.Prelude.{vec_len}
use Rattle.test_notation.specs.Vectors.{AddsRows}
use Rattle.test_notation.specs.ReplyText.{IsReplyText}
use Rattle.test_notation.proofs.vectors.push_reply_rows.Given as goal

-- the rows of the vectors so far were added
abbrev pub invariant-loop-vector : goal.invariant-loop-vector
invariant-loop-vector g l = record {
  rows : AddsRows
      (IsReplyText g.T.FromRedisValue.meaning g.T.FromRedisValue.reading g.T.FromRedisValue.may_refuse
      g.T.PrintedForm.form) l.initial.rows.items l.rows.items
      (take l.vector-index l.vectors);
  count : vec_len l.rows ≡ vec_len l.initial.rows + l.vector-index;
}
