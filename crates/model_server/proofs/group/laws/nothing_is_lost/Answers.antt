use Rattle.model_server.proofs.GroupLemmas.Lost.{each_kept, acked_settled}
use Rattle.model_server.proofs.group.laws.nothing_is_lost.Goals as goal

pub returns-clause-kept : goal.returns-clause-kept
returns-clause-kept g c = each_kept

pub returns-clause-acknowledged : goal.returns-clause-acknowledged
returns-clause-acknowledged g c = acked_settled
