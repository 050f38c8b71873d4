use Rattle.model_server.proofs.GroupLemmas.Lost.{each_kept, acked_settled, committed_handled, handled_logged}
use Rattle.model_server.proofs.GroupLemmas.Counts.{handled_as_delivered}
use Rattle.worker.proofs.laws.nothing_is_lost.Goals as goal

pub returns-clause-kept : goal.returns-clause-kept
returns-clause-kept c = each_kept

pub returns-clause-acknowledged : goal.returns-clause-acknowledged
returns-clause-acknowledged c = acked_settled

pub returns-clause-committed : goal.returns-clause-committed
returns-clause-committed c = committed_handled

pub returns-clause-handled : goal.returns-clause-handled
returns-clause-handled c = handled_logged

pub returns-clause-delivered : goal.returns-clause-delivered
returns-clause-delivered c = handled_as_delivered
