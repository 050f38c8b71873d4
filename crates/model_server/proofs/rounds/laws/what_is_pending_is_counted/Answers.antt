use Rattle.model_server.proofs.RoundsLemmas.Counted.{counts_what_is_pending}
use Rattle.model_server.proofs.rounds.laws.what_is_pending_is_counted.Goals as goal

pub returns : goal.returns
returns g c = counts_what_is_pending
