use Rattle.model_workers.proofs.FailoverLemmas.ScheduleLemmas.{code_writes_once, code_writes_the_log, code_loses_nothing}
use Rattle.model_workers.proofs.FailoverLemmas.ScheduleLemmas.{code_loses_nothing_added, code_writes_each_record}
use Rattle.model_workers.proofs.failover.laws.the_code_writes_each_entry_once.Goals as goal

pub returns-clause-once : goal.returns-clause-once
returns-clause-once g c = code_writes_once

pub returns-clause-of_log : goal.returns-clause-of_log
returns-clause-of_log g c = code_writes_the_log

pub returns-clause-kept : goal.returns-clause-kept
returns-clause-kept g c = code_loses_nothing

pub returns-clause-added : goal.returns-clause-added
returns-clause-added g c = code_loses_nothing_added

pub returns-clause-all : goal.returns-clause-all
returns-clause-all g c = code_writes_each_record
