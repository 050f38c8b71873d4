use Rattle.std.proofs.Common.{IfOk, Result, Ok, Err}
use Rattle.worker_sqlite.proofs.table.SqliteTable+FileStore+File.open.Goals as goal

if_ok_too : {A E : Type 0} {P Q : A → Type 0} (r : Result A E) → ((x : A) → P x → Q x) → IfOk r P → IfOk r Q
if_ok_too (Ok x) f p = f x p
if_ok_too (Err e) f p = tt

pub returns-in-Ok-clause-made : goal.returns-in-Ok-clause-made
returns-in-Ok-clause-made c = if_ok_too c.over.result
    (λ table made. (c.in-Ok.conn, c.in-Ok.ensures.fresh, c.in-Ok.ensures.opened, made)) c.over.ensures.made
