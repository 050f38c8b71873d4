use Rattle.std.proofs.Common.{inl, inr, ◌∙◌}
use Rattle.test_notation.specs.Line.{IsSame, line_of}
use Rattle.test_notation.proofs.PrintLemmas.{appends_more, passes_more}
use Rattle.test_notation.proofs.row_lines.print_rows.Goals as goal
use Rattle.test_notation.proofs.row_lines.print_rows.Goals.{then-branch, else-branch}

pub loop-row-preserved : goal.loop-row-preserved
loop-row-preserved g c =
    let within = c.loop-row-test.true in
    record {
      lines =
          appends_more c.args.rows.now c.loop-row.row-index c.row-item.result within c.row-item.is line_of _ _ _
          c.loop-row.invariant.lines c.in_ok-all_same.ensures.line;
      same =
          passes_more c.args.rows.now c.loop-row.row-index c.row-item.result within c.row-item.is IsSame
          c.in_ok-all_same.all_same c.loop-row.all_same c.if-branch.all_same
          (elim c.if-branch.branch [
            | then-branch w ↦ inl (w.if-branch.true, w.all_same-is)
            | else-branch w ↦ inr (w.if-branch.false, w.all_same-is ∙ w.if-branch.false)
          ])
          c.loop-row.invariant.same c.in_ok-all_same.ensures.same;
    }
