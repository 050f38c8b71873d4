use Rattle.stream_top.specs.Asked.{MeasuresAndWaits}
use Rattle.stream_top.specs.Options.{key_bytes}
use Rattle.stream_top.proofs.show_rounds.Given as goal

-- each round so far showed a table, and waited after it
abbrev pub invariant-loop-round : goal.invariant-loop-round
invariant-loop-round g l = MeasuresAndWaits (key_bytes l.key) l._round l.fn.connection l.connection
