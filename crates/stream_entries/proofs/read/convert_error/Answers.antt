use Rattle.std.proofs.Common.{inl, inr, refl}
use Rattle.stream_entries.proofs.read.convert_error.Goals as goal

pub returns-in-Memory : goal.returns-in-Memory
returns-in-Memory c = inl (c.in-Memory.is, refl)

pub returns-in_default : goal.returns-in_default
returns-in_default c = inr (c.in_default.not-Memory, refl)
