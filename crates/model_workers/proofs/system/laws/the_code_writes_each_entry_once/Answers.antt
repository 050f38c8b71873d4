use Rattle.model_workers.proofs.SystemLemmas.OnceLemmas.{code_writes_once, code_writes_the_log, code_keeps_each, code_writes_in_order}
use Rattle.model_workers.proofs.SystemLemmas.OnceLemmas.{code_writes_the_records}
use Rattle.model_workers.proofs.system.laws.the_code_writes_each_entry_once.Goals as goal

pub returns-clause-once : goal.returns-clause-once
returns-clause-once c = code_writes_once

pub returns-clause-of_log : goal.returns-clause-of_log
returns-clause-of_log c = code_writes_the_log

pub returns-clause-kept : goal.returns-clause-kept
returns-clause-kept c = code_keeps_each

pub returns-clause-first : goal.returns-clause-first
returns-clause-first c = code_writes_in_order

pub returns-clause-all : goal.returns-clause-all
returns-clause-all c = code_writes_the_records
