use Rattle.model_server.proofs.GroupLemmas.Lost.{committed_handled, handled_logged}
use Rattle.model_server.proofs.group.laws.nothing_is_made_up.Goals as goal

pub returns-clause-committed : goal.returns-clause-committed
returns-clause-committed g c = committed_handled

pub returns-clause-handled : goal.returns-clause-handled
returns-clause-handled g c = handled_logged
