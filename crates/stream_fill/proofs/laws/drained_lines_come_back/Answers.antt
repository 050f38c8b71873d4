use Rattle.stream_fill.proofs.DrainedLemmas.{drained_lines_come_back}
use Rattle.stream_fill.proofs.laws.drained_lines_come_back.Goals as goal

pub returns : goal.returns
returns c = drained_lines_come_back
