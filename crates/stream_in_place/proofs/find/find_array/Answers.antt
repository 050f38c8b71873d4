use Rattle.std.proofs.Common.{◌++◌, flat_map, length, false}
use Rattle.stream_in_place.specs.Added.{IsFilled, StreamsAdded}
use Rattle.stream_in_place.specs.Shapes.{stream_bytes}
use Rattle.redis_wire.specs.Place.{EndsBefore}
use Rattle.stream_in_place.proofs.FoundLemmas.{found_then, is_there}
use Rattle.stream_in_place.proofs.ReadLemmas.{array_filled}
use Rattle.stream_in_place.proofs.ShapeStreamLemmas.{array_begins, map_is_no_array}
use Rattle.stream_in_place.specs.Forms.{is_claim}
use Rattle.stream_in_place.proofs.find.find_array.Goals as goal

pub returns-clause-is : goal.returns-clause-is
returns-clause-is g c =
    let held = g.P.Places.held c.add_streams.new.places in
    let limits = c.args.limits in
    let bytes = c.args.bytes.now in
    found_then (λ after. StreamsAdded limits bytes c.in-Some.at false (is_claim c.args.form) c.in-Some.count after held)
    (λ after. IsFilled limits bytes (is_claim c.args.form) after held) c.add_streams.result
    (λ after added. array_filled limits bytes (is_claim c.args.form) c.requires.deep c.in-Some.at c.in-Some.count after held
    c.in-Some.ensures.is added) c.add_streams.ensures.is

pub returns-in_default-clause-found : goal.returns-in_default-clause-found
returns-in_default-clause-found g c = λ ss b.
    absurd (c.in_default.ensures.found (length ss) (flat_map (stream_bytes false b.form) ss ++ b.rest)
    (array_begins c.args.limits (is_claim c.args.form) c.args.bytes.now ss b))

pub returns-clause-found : goal.returns-clause-found
returns-clause-found g c = λ ss b.
    let head = c.in-Some.ensures.found (length ss) (flat_map (stream_bytes false b.form) ss ++ b.rest)
    (array_begins c.args.limits (is_claim c.args.form) c.args.bytes.now ss b) in
    is_there (EndsBefore c.args.bytes.now b.rest) c.add_streams.result
    (c.add_streams.ensures.found b.form ss b.rest b.allows b.within.each head.1 head.0)

pub returns-clause-counts : goal.returns-clause-counts
returns-clause-counts g c = λ ss b.
    let head = c.in-Some.ensures.found (length ss) (flat_map (stream_bytes false b.form) ss ++ b.rest)
    (array_begins c.args.limits (is_claim c.args.form) c.args.bytes.now ss b) in
    c.add_streams.ensures.counts b.form ss b.rest b.allows b.within.each head.1 head.0

pub returns-clause-fits : goal.returns-clause-fits
returns-clause-fits g c = λ ss b streams entries fields.
    let head = c.in-Some.ensures.found (length ss) (flat_map (stream_bytes false b.form) ss ++ b.rest)
    (array_begins c.args.limits (is_claim c.args.form) c.args.bytes.now ss b) in
    c.add_streams.ensures.fits b.form ss b.rest b.allows b.within.each head.1 head.0 streams entries fields

pub returns-clause-no_map : goal.returns-clause-no_map
returns-clause-no_map g c = λ ss b. absurd
    (map_is_no_array c.args.limits (is_claim c.args.form) c.args.bytes.now ss c.in-Some.count c.in-Some.at b
    c.in-Some.ensures.is)
