use Rattle.model_workers.proofs.BothEndsLemmas.{each_comes_out_once, first_ones_come_out, nothing_comes_out_twice}
use Rattle.model_workers.proofs.BothEndsLemmas as lemmas
use Rattle.model_workers.proofs.both_ends.what_goes_in_comes_out.Goals as goal

pub returns-clause-twice : goal.returns-clause-twice
returns-clause-twice c = nothing_comes_out_twice

pub returns-clause-first : goal.returns-clause-first
returns-clause-first c = first_ones_come_out

pub returns-clause-all : goal.returns-clause-all
returns-clause-all c = lemmas.what_goes_in_comes_out

pub returns-clause-each : goal.returns-clause-each
returns-clause-each c = each_comes_out_once
