use Rattle.std.proofs.Common.{◌∙◌, ap, length, subst, sym, false}
use Rattle.redis_wire.specs.declared.limits.Limits.{Limits}
use Rattle.stream_in_place.specs.Shapes.{BeginsWithStreams}
use Rattle.stream_in_place.specs.Sent.{all_entries, all_stream_fields}
use Rattle.redis_c.proofs.RoomLemmas.{as_many, entry_room, field_room, found_so, held_fits, places_there, some_found, stream_room}
use Rattle.redis_c.proofs.entries.locate_streams.Goals as goal

pub returns-in-Err-clause-rows : goal.returns-in-Err-clause-rows
returns-in-Err-clause-rows c = c.measure_streams.ensures.rows (length c.args.streams.now)

pub returns-in-Ok-Some-clause-rows : goal.returns-in-Ok-Some-clause-rows
returns-in-Ok-Some-clause-rows c = λ ss len b.
    let found = some_found _ c.in-Ok-Some.len _ c.in-Ok-Some.field-0-is
    (c.in-Ok-Some.ensures.found ss len
    (subst (λ (l : Limits). BeginsWithStreams l false c.args.bytes.now ss len) (sym c.default.ensures) b)) in
    places_there (length c.args.streams.now) (length ss) len _ c.counts_of.result.streams (c.in-Ok-Some.len-is ∙ found.1)
    (as_many _ _ ss c.counts_of.result.streams found.0 c.counts_of.ensures.streams)
    (held_fits _ c.find_streams.new.places.streams.now c.counts_of.result.streams (length c.args.streams.now)
    c.counts_of.ensures.streams (ap stream_room (c.find_streams.ensures.kept ∙ c.new-tables.ensures.lent)))

pub returns-in-Err-clause-entries : goal.returns-in-Err-clause-entries
returns-in-Err-clause-entries c = c.measure_streams.ensures.entries (length c.args.entries.now)

pub returns-in-Ok-Some-clause-entries : goal.returns-in-Ok-Some-clause-entries
returns-in-Ok-Some-clause-entries c = λ ss len b.
    let begins = subst (λ (l : Limits). BeginsWithStreams l false c.args.bytes.now ss len) (sym c.default.ensures) b in
    let found = some_found _ c.in-Ok-Some.len _ c.in-Ok-Some.field-0-is (c.in-Ok-Some.ensures.found ss len begins) in
    let many = found_so _ c.in-Ok-Some.len _ c.in-Ok-Some.field-0-is (c.in-Ok-Some.ensures.counts ss len begins) in
    places_there (length c.args.entries.now) (length (all_entries ss)) len _ c.counts_of.result.entries
    (c.in-Ok-Some.len-is ∙ found.1) (c.counts_of.ensures.entries ∙ many.entries)
    (held_fits _ c.find_streams.new.places.entries.now c.counts_of.result.entries (length c.args.entries.now)
    c.counts_of.ensures.entries (ap entry_room (c.find_streams.ensures.kept ∙ c.new-tables.ensures.lent)))

pub returns-in-Err-clause-fields : goal.returns-in-Err-clause-fields
returns-in-Err-clause-fields c = c.measure_streams.ensures.fields (length c.args.fields.now)

pub returns-in-Ok-Some-clause-fields : goal.returns-in-Ok-Some-clause-fields
returns-in-Ok-Some-clause-fields c = λ ss len b.
    let begins = subst (λ (l : Limits). BeginsWithStreams l false c.args.bytes.now ss len) (sym c.default.ensures) b in
    let found = some_found _ c.in-Ok-Some.len _ c.in-Ok-Some.field-0-is (c.in-Ok-Some.ensures.found ss len begins) in
    let many = found_so _ c.in-Ok-Some.len _ c.in-Ok-Some.field-0-is (c.in-Ok-Some.ensures.counts ss len begins) in
    places_there (length c.args.fields.now) (length (all_stream_fields ss)) len _ c.counts_of.result.fields
    (c.in-Ok-Some.len-is ∙ found.1) (c.counts_of.ensures.fields ∙ many.fields)
    (held_fits _ c.find_streams.new.places.fields.now c.counts_of.result.fields (length c.args.fields.now)
    c.counts_of.ensures.fields (ap field_room (c.find_streams.ensures.kept ∙ c.new-tables.ensures.lent)))
