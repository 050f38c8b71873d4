use Rattle.std.proofs.Common.{length}
use Rattle.server_commands.proofs.commands.put_part.Given as goal

abbrev pub decreases-loop-pending : goal.decreases-loop-pending
decreases-loop-pending l = length l.left.items
