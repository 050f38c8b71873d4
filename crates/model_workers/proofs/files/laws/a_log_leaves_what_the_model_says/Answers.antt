use Rattle.model_workers.proofs.FilesLemmas.BoundLemmas.{held_leaves_so}
use Rattle.model_workers.proofs.files.laws.a_log_leaves_what_the_model_says.Goals as goal

pub returns : goal.returns
returns g c = held_leaves_so g.D.LogFile.seen g.D.LogFile.may_leave g.D.LogFile.is_sound
