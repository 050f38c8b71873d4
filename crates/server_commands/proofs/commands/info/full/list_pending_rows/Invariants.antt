use Rattle.std.proofs.Common.{◌-◌, length}
use Rattle.server_commands.proofs.commands.info.full.list_pending_rows.Given as goal

abbrev pub decreases-loop-after : goal.decreases-loop-after
decreases-loop-after l = length l.group.pending.slots - l.at
