use Rattle.stream_run.proofs.drain.give_up.Goals as goal

pub returns-in-Ok-clause-ok : goal.returns-in-Ok-clause-ok
returns-in-Ok-clause-ok g c = rw c.as_str.ensures.value at (rw c.deref.ensures.value at c.in-Ok.ensures.ok)
