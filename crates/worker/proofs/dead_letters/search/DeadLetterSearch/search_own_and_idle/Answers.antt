use Rattle.std.proofs.Common.{ap, false, subst}
use Rattle.worker.specs.DeadLetters.Dead.{Searcher, Searches, searcher_of}
use Rattle.worker.proofs.DeadLettersLemmas.BesidesLemmas.{besides_both, besides_breaks}
use Rattle.worker.proofs.DeadLettersLemmas.DeadLemmas.{err_too, ok_too, on_err}
use Rattle.worker.proofs.dead_letters.search.DeadLetterSearch.search_own_and_idle.Goals as goal

pub returns-in_err-look-clause-err : goal.returns-in_err-look-clause-err
returns-in_err-look-clause-err g c = on_err c.from_residual.result c.in_err-look.ensures.err

pub returns-clause-ok : goal.returns-clause-ok
returns-clause-ok g c = ok_too c.look-2.result c.look-2.ensures.ok (λ b. besides_both _ _ _ c.in_ok-look.ensures.ok b)

pub returns-clause-err : goal.returns-clause-err
returns-clause-err g c = err_too c.look-2.result c.look-2.ensures.err (λ b. besides_breaks _ _ _ c.in_ok-look.ensures.ok b)

pub returns-clause-searches : goal.returns-clause-searches
returns-clause-searches g c = ok_too c.look-2.result c.look-2.ensures.searches (λ idle. (
  c.look.new.connection,
  c.in_ok-look.ensures.searches,
  subst (λ (s : Searcher). Searches s false c.look.new.connection c.look-2.new.connection)
      (ap searcher_of c.in_ok-look.ensures.same) idle,
))
