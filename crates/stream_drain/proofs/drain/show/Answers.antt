use Rattle.std.proofs.Common.{subst}
use Rattle.worker.specs.DeadLetters.Besides.{LooksNot}
use Rattle.worker.proofs.DeadLettersLemmas.BesidesLemmas.{ends_so, look_not_breaks, one_break, one_look}
use Rattle.worker.proofs.DeadLettersLemmas.DeadLemmas.{on_err, on_ok}
use Rattle.stream_drain.proofs.drain.show.Goals as goal

pub returns-in-Ok-Some-clause-err : goal.returns-in-Ok-Some-clause-err
returns-in-Ok-Some-clause-err g c = on_err c.say.result (ends_so _ _ c.in-Ok-Some.ensures.ok)

pub returns-in-Ok-None-clause-err : goal.returns-in-Ok-None-clause-err
returns-in-Ok-None-clause-err g c = on_err c.say-in-Ok-None.result (ends_so _ _ c.in-Ok-None.ensures.ok)

pub returns-in-Err-Server-clause-ok : goal.returns-in-Err-Server-clause-ok
returns-in-Err-Server-clause-ok g c = on_ok c.say-in-Err-Server.result (one_look _ _ (subst (LooksNot c.args.connection.now c.find_backlog.new.connection)
    c.in-Err-Server.field-0-is c.in-Err-Server.ensures.err))

pub returns-in-Err-Server-clause-err : goal.returns-in-Err-Server-clause-err
returns-in-Err-Server-clause-err g c =
    on_err c.say-in-Err-Server.result (ends_so _ _ (one_look _ _ (subst (LooksNot c.args.connection.now c.find_backlog.new.connection)
    c.in-Err-Server.field-0-is c.in-Err-Server.ensures.err)))

pub returns-in-Err-Parsing-clause-ok : goal.returns-in-Err-Parsing-clause-ok
returns-in-Err-Parsing-clause-ok g c = on_ok c.say-in-Err-Parsing.result (one_look _ _ (subst (LooksNot c.args.connection.now c.find_backlog.new.connection)
    c.in-Err-Parsing.field-0-is c.in-Err-Parsing.ensures.err))

pub returns-in-Err-Parsing-clause-err : goal.returns-in-Err-Parsing-clause-err
returns-in-Err-Parsing-clause-err g c =
    on_err c.say-in-Err-Parsing.result (ends_so _ _ (one_look _ _ (subst (LooksNot c.args.connection.now c.find_backlog.new.connection)
    c.in-Err-Parsing.field-0-is c.in-Err-Parsing.ensures.err)))

pub returns-in-Err-clause-err : goal.returns-in-Err-clause-err
returns-in-Err-clause-err g c = one_break _ _ (look_not_breaks _ _ c.in-Err.error c.in-Err.ensures.err)
