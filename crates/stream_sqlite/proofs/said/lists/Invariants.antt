use Rattle.std.proofs.Common.{◌≡◌, Some, length, map}
use denote.Shadow.{shadow}
use denote.Text.{Utf8}
use Rattle.stream_sqlite.specs.Columns.{columns_in, shape_of}
use Rattle.stream_sqlite.proofs.said.lists.Given as goal

-- if the rest of the list is of the columns that are left, the list is of all
abbrev pub invariant-loop-left : goal.invariant-loop-left
invariant-loop-left l = shadow (Utf8 l.rest)
    × (columns_in l.rest ≡ Some (map shape_of l.left) → columns_in l.list ≡ Some (map shape_of l.columns))

abbrev pub decreases-loop-left : goal.decreases-loop-left
decreases-loop-left l = length l.left
