use Rattle.std.proofs.Common.{◌∙◌, ◌+◌, ap, length, subst, sym}
use Rattle.redis_wire.specs.declared.limits.Limits.{Limits}
use Rattle.stream_in_place.specs.Sent.{SentAutoClaim, all_fields}
use Rattle.stream_in_place.specs.declared.places.AutoClaimPlace.{AutoClaimPlace}
use Rattle.stream_in_place.specs.Shapes.{BeginsWithAutoClaim}
use Rattle.redis_c.proofs.RoomLemmas.{as_many_parts, entry_room, field_room, found_so, held_fits, places_there, some_found}
use Rattle.redis_c.proofs.claims.locate_autoclaim.Goals as goal

pub returns-in-Err-clause-rows : goal.returns-in-Err-clause-rows
returns-in-Err-clause-rows c = c.measure_autoclaim.ensures.rows (length c.args.entries.now)

pub returns-in-Ok-Some-clause-rows : goal.returns-in-Ok-Some-clause-rows
returns-in-Ok-Some-clause-rows c = λ r len b.
    let found = some_found _ c.in-Ok-Some.place _ c.in-Ok-Some.field-0-is
    (c.in-Ok-Some.ensures.found r len
    (subst (λ (l : Limits). BeginsWithAutoClaim l c.args.bytes.now r len) (sym c.default.ensures) b)) in
    places_there (length c.args.entries.now) (length r.claimed + length r.deleted) len _ c.counts_of.result.entries
    (ap (λ (x : AutoClaimPlace). x.len) c.in-Ok-Some.place-is ∙ found.1)
    (as_many_parts _ _ _ c.in-Ok-Some.place.claimed r.claimed r.deleted c.counts_of.result.entries
    (ap (λ (x : SentAutoClaim). x.claimed) found.0) (ap (λ (x : SentAutoClaim). x.deleted) found.0) c.counts_of.ensures.entries)
    (held_fits _ c.find_autoclaim.new.places.entries.now c.counts_of.result.entries (length c.args.entries.now)
    c.counts_of.ensures.entries (ap entry_room (c.find_autoclaim.ensures.kept ∙ c.new-tables.ensures.lent)))

pub returns-in-Err-clause-fields : goal.returns-in-Err-clause-fields
returns-in-Err-clause-fields c = c.measure_autoclaim.ensures.fields (length c.args.fields.now)

pub returns-in-Ok-Some-clause-fields : goal.returns-in-Ok-Some-clause-fields
returns-in-Ok-Some-clause-fields c = λ r len b.
    let begins = subst (λ (l : Limits). BeginsWithAutoClaim l c.args.bytes.now r len) (sym c.default.ensures) b in
    let found = some_found _ c.in-Ok-Some.place _ c.in-Ok-Some.field-0-is (c.in-Ok-Some.ensures.found r len begins) in
    let many = found_so _ c.in-Ok-Some.place _ c.in-Ok-Some.field-0-is (c.in-Ok-Some.ensures.counts r len begins) in
    places_there (length c.args.fields.now) (length (all_fields r.claimed)) len _ c.counts_of.result.fields
    (ap (λ (x : AutoClaimPlace). x.len) c.in-Ok-Some.place-is ∙ found.1) (c.counts_of.ensures.fields ∙ many)
    (held_fits _ c.find_autoclaim.new.places.fields.now c.counts_of.result.fields (length c.args.fields.now)
    c.counts_of.ensures.fields (ap field_room (c.find_autoclaim.ensures.kept ∙ c.new-tables.ensures.lent)))
