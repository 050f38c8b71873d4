use Rattle.std.proofs.Common.{◌∙◌, length, subst, sym, false}
use Rattle.redis_wire.specs.declared.limits.Limits.{Limits}
use Rattle.stream_in_place.specs.Shapes.{BeginsWithStreams}
use Rattle.stream_in_place.specs.Sent.{all_entries, all_stream_fields}
use Rattle.redis_c.proofs.RoomLemmas.{as_many, entries_wanted, fields_wanted, found_so, none_found, some_found, streams_wanted}
use Rattle.redis_c.proofs.entries.measure_streams.Goals as goal

pub returns-in-Ok-None-clause-rows : goal.returns-in-Ok-None-clause-rows
returns-in-Ok-None-clause-rows c = λ most ss len b. absurd (none_found _ _ c.in-Ok-None.field-0-is
    (c.in-Ok-None.ensures.found ss len
    (subst (λ (l : Limits). BeginsWithStreams l false c.args.bytes.now ss len) (sym c.default.ensures) b)))

pub returns-clause-rows : goal.returns-clause-rows
returns-clause-rows c = λ most ss len b.
    let found = some_found _ c.in-Ok-Some.len _ c.in-Ok-Some.field-0-is
    (c.in-Ok-Some.ensures.found ss len
    (subst (λ (l : Limits). BeginsWithStreams l false c.args.bytes.now ss len) (sym c.default.ensures) b)) in
    streams_wanted _ c.counts_of.result c.args.room most (length ss) len c.wanted.result c.wanted.ensures found.1
    (as_many _ _ ss c.counts_of.result.streams found.0 c.counts_of.ensures.streams)

pub returns-in-Ok-None-clause-entries : goal.returns-in-Ok-None-clause-entries
returns-in-Ok-None-clause-entries c = λ most ss len b. absurd (none_found _ _ c.in-Ok-None.field-0-is
    (c.in-Ok-None.ensures.found ss len
    (subst (λ (l : Limits). BeginsWithStreams l false c.args.bytes.now ss len) (sym c.default.ensures) b)))

pub returns-clause-entries : goal.returns-clause-entries
returns-clause-entries c = λ most ss len b.
    let begins = subst (λ (l : Limits). BeginsWithStreams l false c.args.bytes.now ss len) (sym c.default.ensures) b in
    let found = some_found _ c.in-Ok-Some.len _ c.in-Ok-Some.field-0-is (c.in-Ok-Some.ensures.found ss len begins) in
    let many = found_so _ c.in-Ok-Some.len _ c.in-Ok-Some.field-0-is (c.in-Ok-Some.ensures.counts ss len begins) in
    entries_wanted _ c.counts_of.result c.args.room most (length (all_entries ss)) len c.wanted.result c.wanted.ensures found.1
    (c.counts_of.ensures.entries ∙ many.entries)

pub returns-in-Ok-None-clause-fields : goal.returns-in-Ok-None-clause-fields
returns-in-Ok-None-clause-fields c = λ most ss len b. absurd (none_found _ _ c.in-Ok-None.field-0-is
    (c.in-Ok-None.ensures.found ss len
    (subst (λ (l : Limits). BeginsWithStreams l false c.args.bytes.now ss len) (sym c.default.ensures) b)))

pub returns-clause-fields : goal.returns-clause-fields
returns-clause-fields c = λ most ss len b.
    let begins = subst (λ (l : Limits). BeginsWithStreams l false c.args.bytes.now ss len) (sym c.default.ensures) b in
    let found = some_found _ c.in-Ok-Some.len _ c.in-Ok-Some.field-0-is (c.in-Ok-Some.ensures.found ss len begins) in
    let many = found_so _ c.in-Ok-Some.len _ c.in-Ok-Some.field-0-is (c.in-Ok-Some.ensures.counts ss len begins) in
    fields_wanted _ c.counts_of.result c.args.room most (length (all_stream_fields ss)) len c.wanted.result c.wanted.ensures found.1
    (c.counts_of.ensures.fields ∙ many.fields)
