use Rattle.server_commands.proofs.ReadModelLemmas.{handing_out_is_the_event}
use Rattle.server_commands.proofs.laws.handing_out_is_the_event.Goals as goal

pub returns : goal.returns
returns c = handing_out_is_the_event
