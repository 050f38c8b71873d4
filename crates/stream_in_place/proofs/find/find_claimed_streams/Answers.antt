use Rattle.std.proofs.Common.{◌≡◌, map, true, refl, arith}
use Rattle.stream_in_place.specs.Placed.{stream_in}
use Rattle.stream_in_place.specs.Added.{IsFilled}
use Rattle.stream_in_place.specs.Range.{IsRead}
use Rattle.stream_in_place.proofs.FoundLemmas.{found_then, found_there}
use Rattle.stream_in_place.proofs.ReadLemmas.{read_is}
use Rattle.stream_in_place.proofs.ShapeStreamLemmas.{streams_same}
use Rattle.stream_in_place.proofs.find.find_claimed_streams.Goals as goal

pub returns-clause-is : goal.returns-clause-is
returns-clause-is g c =
    let held = g.P.Places.held c.find_form.new.places in
    let limits = c.args.limits in
    let bytes = c.args.bytes.now in
    let ss = map (stream_in bytes held.entries held.fields) held.streams in
    found_then (λ len. IsFilled limits bytes true len held) (IsRead limits bytes ss) c.find_form.result
    (λ len filled. read_is limits bytes true len held ss filled refl) c.find_form.ensures.is

pub returns-clause-found : goal.returns-clause-found
returns-clause-found g c = λ us len b.
    let held = g.P.Places.held c.find_form.new.places in
    let limits = c.args.limits in
    let bytes = c.args.bytes.now in
    let ss = map (stream_in bytes held.entries held.fields) held.streams in
    found_there (IsRead limits bytes ss) (λ n. (ss ≡ us) × (n ≡ len)) c.find_form.result
    (λ n is. streams_same limits true bytes ss us n len is b) (returns-clause-is g c)
    (c.find_form.ensures.found us len b)

pub returns-then-limits-lt-STREAMS_DEPTH-clause-found : goal.returns-then-limits-lt-STREAMS_DEPTH-clause-found
returns-then-limits-lt-STREAMS_DEPTH-clause-found g c = λ ss len b. absurd (omega (arith, b.deep))
