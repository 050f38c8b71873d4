use Rattle.std.proofs.Common.{◌∙◌, IfOk, ap, inl, map, refl, subst, sym}
use Rattle.worker.specs.DeadLetters.Besides.{OnlyLooks}
use Rattle.worker.specs.DeadLetters.Dead.{ReadsPage, page_words, searcher_of, waiting_of}
use Rattle.worker.proofs.dead_letters.search.DeadLetterSearch.list_pending.Goals as goal

pub returns-then-own-clause-ok : goal.returns-then-own-clause-ok
returns-then-own-clause-ok g c =
    c.ask_page.ensures.ok (subst OnlyLooks (sym c.xpending_consumer_count-command.ensures) (inl refl))

pub returns-then-own-clause-err : goal.returns-then-own-clause-err
returns-then-own-clause-err g c =
    c.ask_page.ensures.err (subst OnlyLooks (sym c.xpending_consumer_count-command.ensures) (inl refl))

pub returns-else-own-clause-ok : goal.returns-else-own-clause-ok
returns-else-own-clause-ok g c =
    c.ask_page-else-own.ensures.ok (subst OnlyLooks (sym c.xpending_idle_count-command.ensures) (inl refl))

pub returns-else-own-clause-err : goal.returns-else-own-clause-err
returns-else-own-clause-err g c =
    c.ask_page-else-own.ensures.err (subst OnlyLooks (sym c.xpending_idle_count-command.ensures) (inl refl))

pub returns-then-own-clause-reads : goal.returns-then-own-clause-reads
returns-then-own-clause-reads g c =
    subst (λ words. IfOk c.ask_page.result (λ page. ReadsPage c.args.connection.now c.ask_page.new.connection words
    (map waiting_of page.items)))
    (c.xpending_consumer_count-command.ensures
    ∙ ap (λ own. page_words (searcher_of c.args.self.now).claimer own c.args.start.now) (sym c.if-own.true))
    c.ask_page.ensures.reads

pub returns-else-own-clause-reads : goal.returns-else-own-clause-reads
returns-else-own-clause-reads g c =
    subst (λ words. IfOk c.ask_page-else-own.result (λ page. ReadsPage c.args.connection.now
    c.ask_page-else-own.new.connection words (map waiting_of page.items)))
    (c.xpending_idle_count-command.ensures
    ∙ ap (λ own. page_words (searcher_of c.args.self.now).claimer own c.args.start.now) (sym c.if-own.false))
    c.ask_page-else-own.ensures.reads
