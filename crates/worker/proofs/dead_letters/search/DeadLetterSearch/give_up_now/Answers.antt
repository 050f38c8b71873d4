use Rattle.std.proofs.Common.{◌∷◌, [], inr}
use Rattle.worker.specs.DeadLetters.Dead.{claimer_of, letter_names}
use Rattle.worker.proofs.DeadLettersLemmas.BesidesLemmas.{one_break, then_gives_some}
use Rattle.worker.proofs.DeadLettersLemmas.DeadLemmas.{err_too, ok_too, on_err}
use Rattle.worker.proofs.dead_letters.search.DeadLetterSearch.give_up_now.Goals as goal

pub returns-in_err-found-clause-err : goal.returns-in_err-found-clause-err
returns-in_err-found-clause-err g c = on_err c.from_residual.result (one_break _ _ c.in_err-found.ensures.err)

pub returns-in-Some-clause-ok : goal.returns-in-Some-clause-ok
returns-in-Some-clause-ok g c =
    let is = rw c.in-Some.is at c.in_ok-found.ensures.found in
    ok_too c.give_up.result c.give_up.ensures.ok (λ gives. inr (
      c.find_own.new.connection,
      c.in-Some.entry,
      c.in_ok-found.ensures.looks,
      is.0,
      is.1,
      gives,
    ))

pub returns-in-Some-clause-err : goal.returns-in-Some-clause-err
returns-in-Some-clause-err g c = err_too c.give_up.result c.give_up.ensures.err (λ some. then_gives_some
    c.args.connection.now c.find_own.new.connection c.give_up.new.connection (claimer_of c.args.self.now 0)
    (letter_names c.args.self.now) (c.in-Some.entry ∷ []) c.in_ok-found.ensures.looks some)
