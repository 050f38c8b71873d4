use Rattle.std.proofs.Common.{◌≡◌}
use Rattle.std.specs.Prelude.{length}
use Rattle.test_sessions.proofs.producer.make_records.Given as goal

-- the records made so far
abbrev pub invariant-loop-index : goal.invariant-loop-index
invariant-loop-index l = length l.records.items ≡ l.index
