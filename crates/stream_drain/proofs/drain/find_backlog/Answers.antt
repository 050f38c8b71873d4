use Rattle.std.proofs.Common.{inl, inr, refl, subst, sym}
use Rattle.worker.specs.DeadLetters.Besides.{OnlyLooks, nothing}
use Rattle.worker.proofs.DeadLettersLemmas.BesidesLemmas.{looked, looked_not, one_look}
use Rattle.stream_drain.proofs.drain.find_backlog.Goals as goal

pub returns-in_default-clause-ok : goal.returns-in_default-clause-ok
returns-in_default-clause-ok g c = nothing c.args.connection.now

pub returns-in-Ok-clause-ok : goal.returns-in-Ok-clause-ok
returns-in-Ok-clause-ok g c = one_look _ _
    (looked _ _ _ _ _ (subst OnlyLooks (sym c.xinfo_groups-asked.ensures) (inr (inl refl))) c.in-Ok.ensures.ok)

pub returns-in-Err-clause-err : goal.returns-in-Err-clause-err
returns-in-Err-clause-err g c = looked_not _ _ _ _ _ c.in-Err.error
    (subst OnlyLooks (sym c.xinfo_groups-asked.ensures) (inr (inl refl))) c.in-Err.ensures.err
