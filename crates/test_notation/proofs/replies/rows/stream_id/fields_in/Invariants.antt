use Rattle.std.proofs.Common.{◌≡◌, ◌++◌, map}
use Rattle.test_notation.specs.Entry.{pair_of, pairs_of}
use Rattle.test_notation.proofs.replies.rows.stream_id.fields_in.Given as goal

abbrev pub invariant-loop-name : goal.invariant-loop-name
invariant-loop-name l = map pair_of l.fields.items ++ pairs_of l.name-iterator ≡ pairs_of l.sorted.entries
