use Rattle.std.proofs.Common.{length}
use Rattle.stream_option_parsing.specs.Told.{WroteUpTo}
use Rattle.stream_option_parsing.proofs.device.write_whole.Given as goal

abbrev pub invariant-pieces : goal.invariant-pieces
invariant-pieces g l = WroteUpTo l.bytes l.rest (g.W.Write.contents l.initial.output) (g.W.Write.contents l.output)

abbrev pub decreases-pieces : goal.decreases-pieces
decreases-pieces g l = length l.rest
