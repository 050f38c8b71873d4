use Rattle.std.proofs.Common.{length, ◌∙◌}
use Rattle.stream_in_place.proofs.ShapeStreamLemmas.{by_form, nil_counted}
use Rattle.stream_in_place.proofs.ReadLemmas.{nil_filled}
use Rattle.stream_in_place.specs.Lent.{StreamsFit, EntriesFit, FieldsFit}
use Rattle.stream_in_place.specs.Sent.{all_entries, all_stream_fields}
use Rattle.stream_in_place.specs.Forms.{is_claim}
use Rattle.stream_in_place.proofs.find.find_form.Goals as goal

pub returns-in-Some-clause-is : goal.returns-in-Some-clause-is
returns-in-Some-clause-is g c = nil_filled c.args.limits c.args.bytes.now (is_claim c.args.form) c.requires c.in-Some.len
    (g.P.Places.held c.clear.new.self) c.clear.ensures.holds c.in-Some.ensures.is

pub returns-clause-found : goal.returns-clause-found
returns-clause-found g c = λ ss len b.
    by_form c.args.limits (is_claim c.args.form) c.args.bytes.now ss len _ c.in_default.ensures.found
    (λ a. absurd (cc (rw c.in_default-2.is at (c.in_ok-len.ensures.found ss a))))
    (λ m. c.find_map.ensures.found ss m) b

pub returns-in_err-len-clause-fits : goal.returns-in_err-len-clause-fits
returns-in_err-len-clause-fits g c = λ ss len b streams entries fields.
    let lent = g.P.Places.lent c.clear.new.self in
    let stream_room : StreamsFit lent (length ss) = rw c.clear.ensures.kept streams in
    let entry_room : EntriesFit lent (length (all_entries ss)) = rw c.clear.ensures.kept entries in
    let field_room : FieldsFit lent (length (all_stream_fields ss)) = rw c.clear.ensures.kept fields in
    absurd (by_form c.args.limits (is_claim c.args.form) c.args.bytes.now ss len ⊥ c.in_default.ensures.found
    (λ a. cc (c.in_err-len.ensures.fits ss a stream_room entry_room field_room))
    (λ m. cc (c.in_err-len.ensures.no_map ss m)) b)

pub returns-clause-fits : goal.returns-clause-fits
returns-clause-fits g c = λ ss len b streams entries fields.
    let lent = g.P.Places.lent c.clear-2.new.self in
    let kept = c.clear-2.ensures.kept ∙ c.find_array.ensures.kept ∙ c.clear.ensures.kept in
    let stream_room : StreamsFit lent (length ss) = rw kept streams in
    let entry_room : EntriesFit lent (length (all_entries ss)) = rw kept entries in
    let field_room : FieldsFit lent (length (all_stream_fields ss)) = rw kept fields in
    by_form c.args.limits (is_claim c.args.form) c.args.bytes.now ss len _ c.in_default.ensures.found
    (λ a. absurd (cc (rw c.in_default-2.is at (c.in_ok-len.ensures.found ss a))))
    (λ m. c.find_map.ensures.fits ss m stream_room entry_room field_room) b

pub returns-in-Some-clause-counts : goal.returns-in-Some-clause-counts
returns-in-Some-clause-counts g c = λ ss len b.
    nil_counted c.args.limits c.args.bytes.now (is_claim c.args.form) c.in-Some.len (g.P.Places.held c.clear.new.self)
    ss len c.clear.ensures.holds (returns-in-Some-clause-is g c) b

pub returns-in-Some-2-clause-counts : goal.returns-in-Some-2-clause-counts
returns-in-Some-2-clause-counts g c = λ ss len b.
    by_form c.args.limits (is_claim c.args.form) c.args.bytes.now ss len _ c.in_default.ensures.found
    (λ a. rw c.in-Some-2.is at (c.in_ok-len.ensures.counts ss a))
    (λ m. let none = c.in_ok-len.ensures.no_map ss m in absurd (cc (rw c.in-Some-2.is at none))) b

pub returns-clause-counts : goal.returns-clause-counts
returns-clause-counts g c = λ ss len b.
    by_form c.args.limits (is_claim c.args.form) c.args.bytes.now ss len _ c.in_default.ensures.found
    (λ a. absurd (cc (rw c.in_default-2.is at (c.in_ok-len.ensures.found ss a))))
    (λ m. c.find_map.ensures.counts ss m) b
