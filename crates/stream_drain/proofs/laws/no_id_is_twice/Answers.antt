use Rattle.stream_drain.proofs.ReachLemmas.{no_id_is_twice, starts_looking_up}
use Rattle.stream_drain.proofs.laws.no_id_is_twice.Goals as goal

pub returns-clause-twice : goal.returns-clause-twice
returns-clause-twice c = no_id_is_twice

pub returns-clause-starts : goal.returns-clause-starts
returns-clause-starts c = starts_looking_up
