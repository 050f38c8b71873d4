use Rattle.stream_drain.proofs.ResumedLemmas.{starts_over_its_file}
use Rattle.stream_drain.proofs.laws.starts_over_its_file.Goals as goal

pub returns : goal.returns
returns c = starts_over_its_file
