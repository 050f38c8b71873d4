use Rattle.std.proofs.Common.{◌↔◌, All, IsTrue, take}
use Rattle.std.specs.Io.KnownBytes.{Appends}
use Rattle.std.specs.List.{flat_map}
use Rattle.test_notation.specs.Line.{IsSame, line_of}
use Rattle.test_notation.proofs.row_lines.print_rows.Given as goal

-- the lines so far were written, and `all_same` is true exactly if no text so far differed
abbrev pub invariant-loop-row : goal.invariant-loop-row
invariant-loop-row g l = record {
  lines : Appends (g.W.Write.contents l.initial.output) (g.W.Write.contents l.output)
      (flat_map line_of (take l.row-index l.rows));
  same : IsTrue l.all_same ↔ All IsSame (take l.row-index l.rows);
}
