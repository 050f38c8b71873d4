use Rattle.std.proofs.Common.{◌≡◌, ◌%◌, ◌/◌, arith, length, ◌+◌}
use Rattle.redis_wire.specs.Place.{EndsBefore}
use Rattle.stream_in_place.proofs.FillLemmas.{own_array}
use Rattle.stream_in_place.proofs.BeginLemmas.{own_without, own_with}
use Rattle.stream_in_place.specs.Lent.{FieldsFit}
use Rattle.stream_in_place.specs.Sent.{fields_of}
use Rattle.stream_in_place.proofs.CountLemmas.{fewer_fields}
use Rattle.stream_in_place.proofs.rows.add_own_fields.Goals as goal

pub returns-in-Some-2-clause-is : goal.returns-in-Some-2-clause-is
returns-in-Some-2-clause-is g c =
    let even : c.in-Some.members % 2 ≡ 0 = omega arith in
    own_array c.args.limits c.args.bytes.now c.args.at
    (g.P.Places.held c.args.places.now) c.in-Some.members c.in-Some.behind c.in-Some-2.after
    (g.P.Places.held c.add_fields.new.places) c.in-Some.ensures.is even
    (rw c.in-Some-2.is at c.in_ok-add_fields.ensures.is)

pub returns-in-None-clause-found : goal.returns-in-None-clause-found
returns-in-None-clause-found g c =
    own_without c.args.limits c.args.bytes.now c.args.at (λ fs rest. ⊥) c.in_default.ensures.found c.in-None.ensures.found

pub returns-in-Some-nil_at-clause-found : goal.returns-in-Some-nil_at-clause-found
returns-in-Some-nil_at-clause-found g c =
    own_without c.args.limits c.args.bytes.now c.args.at
    (λ fs rest. EndsBefore c.args.bytes.now rest c.in-Some-nil_at.after)
    c.in_default.ensures.found c.in-Some-nil_at.ensures.found

pub returns-then-members-ne0-clause-found : goal.returns-then-members-ne0-clause-found
returns-then-members-ne0-clause-found g c =
    own_with c.args.limits c.args.bytes.now c.args.at (λ fs rest. ⊥) c.in-Some.members c.in-Some.behind
    c.in-Some.ensures.is c.in-Some.ensures.found (λ ps rest a even h is. absurd (omega (arith, even)))

pub returns-in-None-2-clause-found : goal.returns-in-None-2-clause-found
returns-in-None-2-clause-found g c =
    own_with c.args.limits c.args.bytes.now c.args.at (λ fs rest. ⊥) c.in-Some.members c.in-Some.behind
    c.in-Some.ensures.is c.in-Some.ensures.found (λ ps rest a even h is.
    rw c.in-None-2.is at (c.in_ok-add_fields.ensures.found ps rest a h is (omega (arith, even))))

pub returns-in-Some-2-clause-found : goal.returns-in-Some-2-clause-found
returns-in-Some-2-clause-found g c =
    own_with c.args.limits c.args.bytes.now c.args.at (λ fs rest. EndsBefore c.args.bytes.now rest c.in-Some-2.after)
    c.in-Some.members c.in-Some.behind c.in-Some.ensures.is c.in-Some.ensures.found (λ ps rest a even h is.
    rw c.in-Some-2.is at (c.in_ok-add_fields.ensures.found ps rest a h is (omega (arith, even))))

pub returns-in-Some-nil_at-clause-counts : goal.returns-in-Some-nil_at-clause-counts
returns-in-Some-nil_at-clause-counts g c =
    let old = length (g.P.Places.held c.args.places.now).fields in
    own_without c.args.limits c.args.bytes.now c.args.at (λ fs rest. old ≡ old + length (fields_of fs))
    c.in_default.ensures.found (λ rest b. omega arith)

pub returns-in-Some-2-clause-counts : goal.returns-in-Some-2-clause-counts
returns-in-Some-2-clause-counts g c =
    let old = length (g.P.Places.held c.args.places.now).fields in
    let new = length (g.P.Places.held c.add_fields.new.places).fields in
    own_with c.args.limits c.args.bytes.now c.args.at (λ fs rest. new ≡ old + length (fields_of fs))
    c.in-Some.members c.in-Some.behind c.in-Some.ensures.is c.in-Some.ensures.found (λ ps rest a even h is.
    omega (arith, even, rw c.in-Some-2.is at c.in_ok-add_fields.ensures.counts))

pub returns-in_err-add_fields-clause-fits : goal.returns-in_err-add_fields-clause-fits
returns-in_err-add_fields-clause-fits g c = λ form fs rest a h is fit.
    let lent = g.P.Places.lent c.args.places.now in
    let old = length (g.P.Places.held c.args.places.now).fields in
    absurd (own_with c.args.limits c.args.bytes.now c.args.at
    (λ fs rest. FieldsFit lent (old + length (fields_of fs)) → ⊥) c.in-Some.members c.in-Some.behind
    c.in-Some.ensures.is c.in-Some.ensures.found (λ ps rest a even h is fit.
    cc (c.in_err-add_fields.ensures.fits
    (fewer_fields lent (old + c.in-Some.members / 2) (old + length ps) (omega (arith, even)) fit)))
    form fs rest a h is fit)
