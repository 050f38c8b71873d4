use Rattle.model_server.proofs.OnceLemmas.Fill.{log_only_grows}
use Rattle.model_server.proofs.OnceLemmas.Grows.{file_grows}
use Rattle.model_server.proofs.once.laws.nothing_is_taken_back.Goals as goal

pub returns-clause-log : goal.returns-clause-log
returns-clause-log g c = log_only_grows

pub returns-clause-file : goal.returns-clause-file
returns-clause-file g c = file_grows
