use Rattle.model_server.proofs.GroupLemmas.Counts.{handled_as_delivered}
use Rattle.model_server.proofs.group.laws.nothing_twice_without_a_delivery.Goals as goal

pub returns : goal.returns
returns g c = handled_as_delivered
