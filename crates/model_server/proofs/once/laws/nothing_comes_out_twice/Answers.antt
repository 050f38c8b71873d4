use Rattle.model_server.proofs.OnceLemmas.Write.{file_once, file_of_log}
use Rattle.model_server.proofs.once.laws.nothing_comes_out_twice.Goals as goal

pub returns-clause-once : goal.returns-clause-once
returns-clause-once g c = file_once

pub returns-clause-of_log : goal.returns-clause-of_log
returns-clause-of_log g c = file_of_log
