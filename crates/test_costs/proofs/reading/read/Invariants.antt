use Rattle.std.specs.Option.{is_some}
use Rattle.redis_resp.specs.Value.{tree}
use Rattle.test_costs.specs.Reading.{IsRead}
use Rattle.test_costs.proofs.reading.read.Given as goal

-- the values that were read so far have a record
abbrev pub invariant-loop : goal.invariant-loop
invariant-loop g l = IsRead l.way l.counter (is_some (g.T.FromRedisValue.reading (tree l.value)))
