use Rattle.model_server.proofs.RoundsLemmas.Drained as drained
use Rattle.model_server.proofs.rounds.laws.rounds_are_a_schedule.Goals as goal

pub returns : goal.returns
returns g c = drained.rounds_are_a_schedule
