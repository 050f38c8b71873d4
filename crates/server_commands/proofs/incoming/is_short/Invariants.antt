use Rattle.server_commands.specs.Incoming.{IsScan}
use Rattle.server_commands.proofs.incoming.is_short.Given as goal

-- the scanned part determines where the command goes on
abbrev pub invariant-words : goal.invariant-words
invariant-words l = IsScan l.scan l.bytes

abbrev pub decreases-words : goal.decreases-words
decreases-words l = l.scan.left
