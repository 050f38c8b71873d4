use Rattle.server_commands.proofs.RereadLawLemmas.{xreadgroup_with_an_id_is_the_event}
use Rattle.server_commands.proofs.laws.xreadgroup_with_an_id_is_the_event.Goals as goal

pub returns : goal.returns
returns c = xreadgroup_with_an_id_is_the_event
