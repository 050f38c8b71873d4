use Rattle.worker.specs.DeadLetters.Dead.{claimer_of, letter_names}
use Rattle.worker.proofs.DeadLettersLemmas.BesidesLemmas.{look_breaks, one_break, then_gives_some, then_gives_up}
use Rattle.worker.proofs.DeadLettersLemmas.DeadLemmas.{on_err}
use Rattle.worker.proofs.dead_letters.search.DeadLetterSearch.search_page.Goals as goal

pub returns-in_err-page-clause-err : goal.returns-in_err-page-clause-err
returns-in_err-page-clause-err g c = on_err c.from_residual.result (one_break _ _ c.in_err-page.ensures.err)

pub returns-in_err-next-clause-err : goal.returns-in_err-next-clause-err
returns-in_err-next-clause-err g c =
    on_err c.from_residual-in_err-next.result (one_break _ _ (look_breaks _ _ c.in_ok-page.ensures.ok))

pub returns-in_err-give_up-clause-err : goal.returns-in_err-give_up-clause-err
returns-in_err-give_up-clause-err g c = on_err c.from_residual-in_err-give_up.result
    (then_gives_some _ _ _ (claimer_of c.args.self.now c.if-own.min_idle) (letter_names c.args.self.now) _
    c.in_ok-page.ensures.ok c.in_err-give_up.ensures.err)

pub returns-clause-ok : goal.returns-clause-ok
returns-clause-ok g c = then_gives_up _ _ _ _ _ _ c.in_ok-page.ensures.ok c.in_ok-give_up.ensures.ok
