use Rattle.stream_in_place.proofs.short.field_at.Goals as goal

pub returns-in_err-name-clause-found : goal.returns-in_err-name-clause-found
returns-in_err-name-clause-found c = λ name value behind rest first second.
    absurd (c.in_err-name.ensures.found name value behind rest first second)
