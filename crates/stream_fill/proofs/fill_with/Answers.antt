use Rattle.std.proofs.Common.{Err, IfErr, Ok, OnErr, OnOk, Result, ◌⊎◌, inl, inr}
use Rattle.stream_fill.proofs.fill_with.Goals as goal

-- however a session ended
either_way : {A E P : Type 0} {Q : E → Type 0} (r : Result A E) → OnOk r P → IfErr r Q → P ⊎ ((e : E) × Q e)
either_way (Ok a) all failed = inl all
either_way (Err e) all failed = inr (e, failed)

on_err : {A E P : Type 0} (r : Result A E) → P → OnErr r P
on_err (Ok a) p = tt
on_err (Err e) p = p

pub returns-in_err-eprintln-clause-failed : goal.returns-in_err-eprintln-clause-failed
returns-in_err-eprintln-clause-failed g c =
    on_err c.from_residual.result (either_way c.fill-ended.result c.fill-ended.ensures.ok c.fill-ended.ensures.err)
