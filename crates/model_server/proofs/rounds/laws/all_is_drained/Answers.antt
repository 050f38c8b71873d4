use Rattle.model_server.proofs.RoundsLemmas.Drained as drained
use Rattle.model_server.proofs.rounds.laws.all_is_drained.Goals as goal

pub returns : goal.returns
returns g c = drained.all_is_drained
