use Rattle.model_server.proofs.FailoverLemmas.Safe.{nothing_confirmed_is_lost, each_comes_out_once}
use Rattle.model_server.proofs.failover.laws.nothing_confirmed_is_lost.Goals as goal

pub returns-clause-kept : goal.returns-clause-kept
returns-clause-kept g c = nothing_confirmed_is_lost

pub returns-clause-once : goal.returns-clause-once
returns-clause-once g c = each_comes_out_once
