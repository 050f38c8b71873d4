use Rattle.stream_in_place.proofs.claim_outcome.read_any_justid.Goals as goal

pub returns-in-Ok-Some-clause-found : goal.returns-in-Ok-Some-clause-found
returns-in-Ok-Some-clause-found c = λ sent len b.
    rw c.in-Ok-Some.field-0-is at (c.in-Ok-Some.ensures.found sent len b)

pub returns-in-Ok-None-clause-found : goal.returns-in-Ok-None-clause-found
returns-in-Ok-None-clause-found c = λ sent len b.
    absurd (rw c.in-Ok-None.field-0-is at (c.in-Ok-None.ensures.found sent len b))
