use Rattle.server_commands.proofs.ClaimLawLemmas.{xautoclaim_is_the_event}
use Rattle.server_commands.proofs.laws.xautoclaim_is_the_event.Goals as goal

pub returns : goal.returns
returns c = xautoclaim_is_the_event
