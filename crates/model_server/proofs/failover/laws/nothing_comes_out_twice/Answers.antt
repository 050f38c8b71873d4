use Rattle.model_server.proofs.FailoverLemmas.Grows.{file_grows}
use Rattle.model_server.proofs.FailoverLemmas.Looked.{file_once, file_once_of_any_server}
use Rattle.model_server.proofs.failover.laws.nothing_comes_out_twice.Goals as goal

pub returns-clause-once : goal.returns-clause-once
returns-clause-once g c = file_once

pub returns-clause-any : goal.returns-clause-any
returns-clause-any g c = file_once_of_any_server

pub returns-clause-grows : goal.returns-clause-grows
returns-clause-grows g c = file_grows
