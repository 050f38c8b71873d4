use Rattle.std.proofs.Common.{rules, get_or, ℕ, List, []}
use Rattle.std.proofs.lemmas.List.{get_or_default}
use Rattle.test_notation.specs.ReplyText.{IsReplyText}
use Rattle.test_notation.proofs.VectorsLemmas.{adds_more}
use Rattle.test_notation.proofs.vectors.push_reply_rows.Goals as goal
use denote.Ref.{Bor}

pub loop-vector-preserved : goal.loop-vector-preserved
loop-vector-preserved g c =
    let vectors = c.args.vectors.now in
    let i = c.loop-vector.vector-index in
    let nothing : Bor (List ℕ) = record { ref_ptr = (0, 0); now = [] } in
    let vector = get_or vectors i (nothing, nothing, nothing) in
    let within = c.loop-vector-test.true in
    record {
      rows =
          adds_more
          (IsReplyText g.T.FromRedisValue.meaning g.T.FromRedisValue.reading g.T.FromRedisValue.may_refuse
          g.T.PrintedForm.form) c.args.rows.now.items c.loop-vector.rows.items c.push_reply_row.new.rows.items
          vectors i vector within
          (get_or_default vectors i (
            nothing,
            nothing,
            nothing,
          ) vector within) c.loop-vector.invariant.rows c.in_ok-push_reply_row.ensures.row;
      count = search rules;
    }
