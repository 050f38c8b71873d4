use Rattle.server_commands.proofs.DeleteLemmas.{xdel_is_the_events}
use Rattle.server_commands.proofs.laws.xdel_is_the_events.Goals as goal

pub returns : goal.returns
returns c = xdel_is_the_events
