use Rattle.stream_drain.proofs.WrittenLemmas.{gathers}
use Rattle.stream_drain.proofs.laws.gathers_its_lines.Goals as goal

pub returns : goal.returns
returns c = gathers
