use Rattle.std.proofs.Common.{◌≤◌, ◌-◌}
use Rattle.stream_fill.specs.Placed.{HasLines}
use Rattle.stream_fill.proofs.line_reader.count_lines.Given as goal

-- the lines before the rest were counted
abbrev pub invariant-loop-count : goal.invariant-loop-count
invariant-loop-count l = record { most : l.count ≤ l.most; lines : HasLines l.bytes l.count l.rest }

abbrev pub decreases-loop-count : goal.decreases-loop-count
decreases-loop-count l = l.most - l.count
