use Rattle.server_store.proofs.LawLemmas.{entry_laws}
use Rattle.server_store.proofs.laws.entries_stay_in_order.Goals as goal

pub returns : goal.returns
returns c = entry_laws
