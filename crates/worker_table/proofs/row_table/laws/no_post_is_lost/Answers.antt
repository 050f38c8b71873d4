use Rattle.worker_table.proofs.RowTableLemmas.SentLemmas.{law_holds}
use Rattle.worker_table.proofs.row_table.laws.no_post_is_lost.Goals as goal

pub returns : goal.returns
returns c = law_holds
