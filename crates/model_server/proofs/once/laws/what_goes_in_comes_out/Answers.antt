use Rattle.model_server.proofs.OnceLemmas.Order.{file_is_first_of_log, what_goes_in_comes_out}
use Rattle.model_server.proofs.once.laws.what_goes_in_comes_out.Goals as goal

pub returns-clause-first : goal.returns-clause-first
returns-clause-first g c = file_is_first_of_log

pub returns-clause-all : goal.returns-clause-all
returns-clause-all g c = what_goes_in_comes_out
