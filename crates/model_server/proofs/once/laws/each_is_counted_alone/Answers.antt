use Rattle.model_server.proofs.OnceLemmas.Alone.{each_is_counted_alone}
use Rattle.model_server.proofs.once.laws.each_is_counted_alone.Goals as goal

pub returns : goal.returns
returns g c = each_is_counted_alone
