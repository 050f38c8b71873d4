use Rattle.server_commands.proofs.ReadLemmas.{array_sent}
use Rattle.server_commands.proofs.commands.answers.array.Goals as goal

pub returns-in-Ok : goal.returns-in-Ok
returns-in-Ok g c = array_sent c.in-Ok.items _ c.in-Ok.ensures.items
