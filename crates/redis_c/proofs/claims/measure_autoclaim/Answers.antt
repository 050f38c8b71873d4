use Rattle.std.proofs.Common.{◌∙◌, ◌+◌, ap, length, subst, sym}
use Rattle.redis_wire.specs.declared.limits.Limits.{Limits}
use Rattle.stream_in_place.specs.Sent.{SentAutoClaim, all_fields}
use Rattle.stream_in_place.specs.Shapes.{BeginsWithAutoClaim}
use Rattle.redis_c.proofs.RoomLemmas.{as_many_parts, entries_wanted, fields_wanted, found_so, none_found, some_found}
use Rattle.redis_c.proofs.claims.measure_autoclaim.Goals as goal

pub returns-in-Ok-None-clause-rows : goal.returns-in-Ok-None-clause-rows
returns-in-Ok-None-clause-rows c = λ most r len b. absurd (none_found _ _ c.in-Ok-None.field-0-is
    (c.in-Ok-None.ensures.found r len
    (subst (λ (l : Limits). BeginsWithAutoClaim l c.args.bytes.now r len) (sym c.default.ensures) b)))

pub returns-clause-rows : goal.returns-clause-rows
returns-clause-rows c = λ most r len b.
    let found = some_found _ c.in-Ok-Some.place _ c.in-Ok-Some.field-0-is
    (c.in-Ok-Some.ensures.found r len
    (subst (λ (l : Limits). BeginsWithAutoClaim l c.args.bytes.now r len) (sym c.default.ensures) b)) in
    entries_wanted _ c.counts_of.result c.args.room most (length r.claimed + length r.deleted) len c.wanted.result
    c.wanted.ensures found.1
    (as_many_parts _ _ _ c.in-Ok-Some.place.claimed r.claimed r.deleted c.counts_of.result.entries
    (ap (λ (x : SentAutoClaim). x.claimed) found.0) (ap (λ (x : SentAutoClaim). x.deleted) found.0) c.counts_of.ensures.entries)

pub returns-in-Ok-None-clause-fields : goal.returns-in-Ok-None-clause-fields
returns-in-Ok-None-clause-fields c = λ most r len b. absurd (none_found _ _ c.in-Ok-None.field-0-is
    (c.in-Ok-None.ensures.found r len
    (subst (λ (l : Limits). BeginsWithAutoClaim l c.args.bytes.now r len) (sym c.default.ensures) b)))

pub returns-clause-fields : goal.returns-clause-fields
returns-clause-fields c = λ most r len b.
    let begins = subst (λ (l : Limits). BeginsWithAutoClaim l c.args.bytes.now r len) (sym c.default.ensures) b in
    let found = some_found _ c.in-Ok-Some.place _ c.in-Ok-Some.field-0-is (c.in-Ok-Some.ensures.found r len begins) in
    let many = found_so _ c.in-Ok-Some.place _ c.in-Ok-Some.field-0-is (c.in-Ok-Some.ensures.counts r len begins) in
    fields_wanted _ c.counts_of.result c.args.room most (length (all_fields r.claimed)) len c.wanted.result c.wanted.ensures found.1
    (c.counts_of.ensures.fields ∙ many)
