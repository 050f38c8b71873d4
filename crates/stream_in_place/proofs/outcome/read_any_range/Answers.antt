use Rattle.stream_in_place.proofs.outcome.read_any_range.Goals as goal

pub returns-in-Ok-Some-clause-found : goal.returns-in-Ok-Some-clause-found
returns-in-Ok-Some-clause-found c = λ es len b.
    rw c.in-Ok-Some.field-0-is at (c.in-Ok-Some.ensures.found es len b)

pub returns-in-Ok-None-clause-found : goal.returns-in-Ok-None-clause-found
returns-in-Ok-None-clause-found c = λ es len b.
    absurd (rw c.in-Ok-None.field-0-is at (c.in-Ok-None.ensures.found es len b))
