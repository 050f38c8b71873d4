use Rattle.server_commands.proofs.ReadEventLemmas.{xreadgroup_is_the_event}
use Rattle.server_commands.proofs.laws.xreadgroup_is_the_event.Goals as goal

pub returns : goal.returns
returns c = xreadgroup_is_the_event
