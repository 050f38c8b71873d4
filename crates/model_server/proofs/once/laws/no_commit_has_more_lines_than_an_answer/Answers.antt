use Rattle.model_server.proofs.OnceLemmas.Within.{commits_are_within}
use Rattle.model_server.proofs.once.laws.no_commit_has_more_lines_than_an_answer.Goals as goal

pub returns : goal.returns
returns g c = commits_are_within
