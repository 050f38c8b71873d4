use Rattle.std.proofs.Common.{inl, map, refl, subst, sym}
use Rattle.worker.specs.DeadLetters.Besides.{OnlyLooks}
use Rattle.worker.specs.DeadLetters.Dead.{ReadsPage, waiting_of}
use Rattle.worker.proofs.DeadLettersLemmas.BesidesLemmas.{look_breaks}
use Rattle.worker.proofs.DeadLettersLemmas.DeadLemmas.{on_err}
use Rattle.worker.proofs.dead_letters.search.DeadLetterSearch.find_own.Goals as goal

pub returns-in_err-pick_own-clause-err : goal.returns-in_err-pick_own-clause-err
returns-in_err-pick_own-clause-err g c = on_err c.from_residual-in_err-pick_own.result (look_breaks _ _
    (c.in_ok-page.ensures.ok (subst OnlyLooks (sym c.xpending_consumer_count-command.ensures) (inl refl))))

pub returns-clause-reads : goal.returns-clause-reads
returns-clause-reads g c = (
  c.in_ok-page.page.items,
  subst (λ words. ReadsPage c.args.connection.now c.ask_page.new.connection words (map waiting_of c.in_ok-page.page.items))
      c.xpending_consumer_count-command.ensures c.in_ok-page.ensures.reads,
)
