use Rattle.std.proofs.Common.{◌∙◌, ap, length, subst, sym}
use Rattle.redis_wire.specs.declared.limits.Limits.{Limits}
use Rattle.stream_in_place.specs.Shapes.{BeginsWithRange}
use Rattle.stream_in_place.specs.Sent.{all_fields}
use Rattle.redis_c.proofs.RoomLemmas.{as_many, entry_room, field_room, found_so, held_fits, places_there, some_found}
use Rattle.redis_c.proofs.entries.locate_range.Goals as goal

pub returns-in-Err-clause-rows : goal.returns-in-Err-clause-rows
returns-in-Err-clause-rows c = c.measure_range.ensures.rows (length c.args.entries.now)

pub returns-in-Ok-Some-clause-rows : goal.returns-in-Ok-Some-clause-rows
returns-in-Ok-Some-clause-rows c = λ es len b.
    let found = some_found _ c.in-Ok-Some.len _ c.in-Ok-Some.field-0-is
    (c.in-Ok-Some.ensures.found es len
    (subst (λ (l : Limits). BeginsWithRange l c.args.bytes.now es len) (sym c.default.ensures) b)) in
    places_there (length c.args.entries.now) (length es) len _ c.counts_of.result.entries (c.in-Ok-Some.len-is ∙ found.1)
    (as_many _ _ es c.counts_of.result.entries found.0 c.counts_of.ensures.entries)
    (held_fits _ c.find_range.new.places.entries.now c.counts_of.result.entries (length c.args.entries.now)
    c.counts_of.ensures.entries (ap entry_room (c.find_range.ensures.kept ∙ c.new-tables.ensures.lent)))

pub returns-in-Err-clause-fields : goal.returns-in-Err-clause-fields
returns-in-Err-clause-fields c = c.measure_range.ensures.fields (length c.args.fields.now)

pub returns-in-Ok-Some-clause-fields : goal.returns-in-Ok-Some-clause-fields
returns-in-Ok-Some-clause-fields c = λ es len b.
    let begins = subst (λ (l : Limits). BeginsWithRange l c.args.bytes.now es len) (sym c.default.ensures) b in
    let found = some_found _ c.in-Ok-Some.len _ c.in-Ok-Some.field-0-is (c.in-Ok-Some.ensures.found es len begins) in
    let many = found_so _ c.in-Ok-Some.len _ c.in-Ok-Some.field-0-is (c.in-Ok-Some.ensures.counts es len begins) in
    places_there (length c.args.fields.now) (length (all_fields es)) len _ c.counts_of.result.fields
    (c.in-Ok-Some.len-is ∙ found.1) (c.counts_of.ensures.fields ∙ many)
    (held_fits _ c.find_range.new.places.fields.now c.counts_of.result.fields (length c.args.fields.now)
    c.counts_of.ensures.fields (ap field_room (c.find_range.ensures.kept ∙ c.new-tables.ensures.lent)))
