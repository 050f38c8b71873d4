use Rattle.server_commands.proofs.ModelLemmas.{xack_is_the_event}
use Rattle.server_commands.proofs.laws.xack_is_the_event.Goals as goal

pub returns : goal.returns
returns c = xack_is_the_event
