use Rattle.stream_drain.proofs.ModelLemmas.{looks_up_as_the_model}
use Rattle.stream_drain.proofs.laws.looks_up_as_the_model.Goals as goal

pub returns : goal.returns
returns c = looks_up_as_the_model
