use Rattle.std.proofs.Common.{◌∙◌, length, subst, sym}
use Rattle.redis_wire.specs.declared.limits.Limits.{Limits}
use Rattle.stream_in_place.specs.Shapes.{BeginsWithRange}
use Rattle.stream_in_place.specs.Sent.{all_fields}
use Rattle.redis_c.proofs.RoomLemmas.{as_many, entries_wanted, fields_wanted, found_so, none_found, some_found}
use Rattle.redis_c.proofs.entries.measure_range.Goals as goal

pub returns-in-Ok-None-clause-rows : goal.returns-in-Ok-None-clause-rows
returns-in-Ok-None-clause-rows c = λ most es len b. absurd (none_found _ _ c.in-Ok-None.field-0-is
    (c.in-Ok-None.ensures.found es len
    (subst (λ (l : Limits). BeginsWithRange l c.args.bytes.now es len) (sym c.default.ensures) b)))

pub returns-clause-rows : goal.returns-clause-rows
returns-clause-rows c = λ most es len b.
    let found = some_found _ c.in-Ok-Some.len _ c.in-Ok-Some.field-0-is
    (c.in-Ok-Some.ensures.found es len
    (subst (λ (l : Limits). BeginsWithRange l c.args.bytes.now es len) (sym c.default.ensures) b)) in
    entries_wanted _ c.counts_of.result c.args.room most (length es) len c.wanted.result c.wanted.ensures found.1
    (as_many _ _ es c.counts_of.result.entries found.0 c.counts_of.ensures.entries)

pub returns-in-Ok-None-clause-fields : goal.returns-in-Ok-None-clause-fields
returns-in-Ok-None-clause-fields c = λ most es len b. absurd (none_found _ _ c.in-Ok-None.field-0-is
    (c.in-Ok-None.ensures.found es len
    (subst (λ (l : Limits). BeginsWithRange l c.args.bytes.now es len) (sym c.default.ensures) b)))

pub returns-clause-fields : goal.returns-clause-fields
returns-clause-fields c = λ most es len b.
    let begins = subst (λ (l : Limits). BeginsWithRange l c.args.bytes.now es len) (sym c.default.ensures) b in
    let found = some_found _ c.in-Ok-Some.len _ c.in-Ok-Some.field-0-is (c.in-Ok-Some.ensures.found es len begins) in
    let many = found_so _ c.in-Ok-Some.len _ c.in-Ok-Some.field-0-is (c.in-Ok-Some.ensures.counts es len begins) in
    fields_wanted _ c.counts_of.result c.args.room most (length (all_fields es)) len c.wanted.result c.wanted.ensures found.1
    (c.counts_of.ensures.fields ∙ many)
