use Rattle.model_workers.proofs.SystemLemmas.AloneLemmas.{code_is_counted_alone}
use Rattle.model_workers.proofs.system.laws.the_code_counts_each_entry_alone.Goals as goal

pub returns : goal.returns
returns c = code_is_counted_alone
