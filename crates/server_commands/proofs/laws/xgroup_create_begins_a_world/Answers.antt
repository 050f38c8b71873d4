use Rattle.server_commands.proofs.BeginningLemmas.{no_entries_end, xgroup_create_begins_a_world}
use Rattle.server_commands.proofs.laws.xgroup_create_begins_a_world.Goals as goal

pub returns-clause-begins : goal.returns-clause-begins
returns-clause-begins c = xgroup_create_begins_a_world

pub returns-clause-new : goal.returns-clause-new
returns-clause-new c = no_entries_end
