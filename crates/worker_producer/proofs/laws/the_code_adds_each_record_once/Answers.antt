use Rattle.worker_producer.proofs.ScheduleLemmas.{code_adds_first_records, code_adds_once, code_knows_what_is_in, asking_nothing_is_all}
use Rattle.worker_producer.proofs.ScheduleLemmas.{finished_is_all}
use Rattle.worker_producer.proofs.laws.the_code_adds_each_record_once.Goals as goal

pub returns-clause-first : goal.returns-clause-first
returns-clause-first c = code_adds_first_records

pub returns-clause-once : goal.returns-clause-once
returns-clause-once c = code_adds_once

pub returns-clause-known : goal.returns-clause-known
returns-clause-known c = code_knows_what_is_in

pub returns-clause-nothing : goal.returns-clause-nothing
returns-clause-nothing c = asking_nothing_is_all

pub returns-clause-all : goal.returns-clause-all
returns-clause-all c = finished_is_all
