use Rattle.std.proofs.Common.{◌∙◌, inl}
use Rattle.worker.proofs.DeadLettersLemmas.BesidesLemmas.{look_not_breaks, looked_not}
use Rattle.worker.proofs.DeadLettersLemmas.DeadLemmas.{rows_are}
use Rattle.worker.proofs.dead_letters.search.ask_page.Goals as goal

pub returns-in-Err-clause-err : goal.returns-in-Err-clause-err
returns-in-Err-clause-err g c only =
    look_not_breaks _ _ c.in-Err.error (looked_not _ _ _ _ _ c.in-Err.error only c.in-Err.ensures.err)

pub returns-in_ok-collect_waiting-in-Ok-clause-reads : goal.returns-in_ok-collect_waiting-in-Ok-clause-reads
returns-in_ok-collect_waiting-in-Ok-clause-reads g c =
    inl (_, c.in-Ok.ensures.ok, c.in_ok-collect_waiting-in-Ok.ensures ∙ rows_are c.in-Ok.rows.items)
