use Rattle.server_store.proofs.LawLemmas.{pending_laws}
use Rattle.server_store.proofs.laws.pending_stays_in_order.Goals as goal

pub returns : goal.returns
returns c = pending_laws
