use Rattle.model_server.proofs.GroupLemmas.Unique.{log_ascends, ids_unique}
use Rattle.model_server.proofs.group.laws.ids_ascend.Goals as goal

pub returns-clause-ascends : goal.returns-clause-ascends
returns-clause-ascends g c = log_ascends

pub returns-clause-unique : goal.returns-clause-unique
returns-clause-unique g c = ids_unique
