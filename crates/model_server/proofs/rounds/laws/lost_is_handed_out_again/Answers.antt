use Rattle.model_server.proofs.RoundsLemmas.Again as again
use Rattle.model_server.proofs.rounds.laws.lost_is_handed_out_again.Goals as goal

pub returns : goal.returns
returns g c = again.lost_is_handed_out_again
