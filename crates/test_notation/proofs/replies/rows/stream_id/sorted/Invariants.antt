use Rattle.std.proofs.Common.{◌≡◌, []}
use Rattle.test_notation.specs.Entry.{pairs_of, put_all}
use Rattle.test_notation.proofs.replies.rows.stream_id.sorted.Given as goal

abbrev pub invariant-loop-name : goal.invariant-loop-name
invariant-loop-name l = put_all (pairs_of l.fields.entries) l.name-iterator ≡ put_all [] l.map.entries
