use Rattle.worker_table.proofs.RowTableLemmas.RowsLemmas.{law}
use Rattle.worker_table.proofs.row_table.laws.rows_are_put_in.Goals as goal

pub returns : goal.returns
returns c = law
