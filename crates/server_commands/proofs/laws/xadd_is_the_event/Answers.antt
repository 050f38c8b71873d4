use Rattle.server_commands.proofs.AddModelLemmas.{xadd_is_the_event}
use Rattle.server_commands.proofs.laws.xadd_is_the_event.Goals as goal

pub returns : goal.returns
returns c = xadd_is_the_event
