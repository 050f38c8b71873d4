use Rattle.std.proofs.Common.{◌≡◌, ◌≤◌, ◌++◌, arith, map, flat_map, length, false, refl, ap, ◌+◌}
use Rattle.redis_wire.specs.Place.{EndsBefore}
use Rattle.stream_in_place.specs.Held.{Held, none_held}
use Rattle.stream_in_place.specs.Placed.{entry_in}
use Rattle.stream_in_place.specs.Added.{EntriesAdded}
use Rattle.stream_in_place.specs.Range.{IsRange}
use Rattle.stream_in_place.specs.Shapes.{entry_bytes}
use Rattle.stream_in_place.proofs.FoundLemmas.{found_then, found_there, is_there}
use Rattle.stream_in_place.proofs.RangeLemmas.{range_is}
use Rattle.stream_in_place.proofs.ShapeLemmas.{range_begins, range_same}
use Rattle.stream_in_place.specs.Lent.{EntriesFit, FieldsFit}
use Rattle.stream_in_place.specs.Sent.{all_fields}
use Rattle.stream_in_place.proofs.CountLemmas.{fewer_entries, fewer_fields}
use Rattle.stream_in_place.proofs.find.find_range.Goals as goal

pub returns-clause-is : goal.returns-clause-is
returns-clause-is g c =
    let held = g.P.Places.held c.add_entries.new.places in
    let limits = c.args.limits in
    let bytes = c.args.bytes.now in
    let es = map (entry_in bytes held.fields) held.entries in
    let deep : 4 ≤ limits.depth = omega arith in
    found_then (λ len. EntriesAdded limits bytes c.in-Some.at false c.in-Some.count len none_held held)
    (IsRange limits bytes es) c.add_entries.result
    (λ len added. range_is limits bytes c.in-Some.at c.in-Some.count len held es deep c.in-Some.ensures.is added refl)
    (rw c.clear.ensures.holds at c.add_entries.ensures.is)

pub returns-in_default-clause-found : goal.returns-in_default-clause-found
returns-in_default-clause-found g c = λ es len b.
    c.in_default.ensures.found (length es) (flat_map (entry_bytes b.form) es ++ b.rest)
    (range_begins c.args.limits c.args.bytes.now es len b)

pub returns-clause-found : goal.returns-clause-found
returns-clause-found g c = λ es len b.
    let held = g.P.Places.held c.add_entries.new.places in
    let limits = c.args.limits in
    let bytes = c.args.bytes.now in
    let fs = map (entry_in bytes held.fields) held.entries in
    let head = c.in-Some.ensures.found (length es) (flat_map (entry_bytes b.form) es ++ b.rest)
    (range_begins limits bytes es len b) in
    found_there (IsRange limits bytes fs) (λ n. (fs ≡ es) × (n ≡ len)) c.add_entries.result
    (λ n is. range_same limits bytes fs es n len is b) (returns-clause-is g c)
    (is_there (EndsBefore bytes b.rest) c.add_entries.result
    (c.add_entries.ensures.found b.form es b.rest b.allows b.within.each head.1 head.0))

pub returns-clause-counts : goal.returns-clause-counts
returns-clause-counts g c = λ es len b.
    let old = g.P.Places.held c.clear.new.self in
    let held = g.P.Places.held c.add_entries.new.places in
    let head = c.in-Some.ensures.found (length es) (flat_map (entry_bytes b.form) es ++ b.rest)
    (range_begins c.args.limits c.args.bytes.now es len b) in
    let none : length old.fields ≡ 0 = ap (λ (h : Held). length h.fields) c.clear.ensures.holds in
    found_then (λ _. length held.fields ≡ length old.fields + length (all_fields es))
    (λ _. length held.fields ≡ length (all_fields es)) c.add_entries.result (λ n many. omega (arith, many, none))
    (c.add_entries.ensures.counts_fields b.form es b.rest b.allows b.within.each head.1 head.0)

pub returns-then-limits-lt-RANGE_DEPTH-clause-found : goal.returns-then-limits-lt-RANGE_DEPTH-clause-found
returns-then-limits-lt-RANGE_DEPTH-clause-found g c = λ es len b. absurd (omega (arith, b.deep))

pub returns-clause-fits : goal.returns-clause-fits
returns-clause-fits g c = λ es len b entries fields.
    let lent = g.P.Places.lent c.clear.new.self in
    let held = g.P.Places.held c.clear.new.self in
    let none = c.clear.ensures.holds in
    let head = c.in-Some.ensures.found (length es) (flat_map (entry_bytes b.form) es ++ b.rest)
    (range_begins c.args.limits c.args.bytes.now es len b) in
    let room : EntriesFit lent (length es) = rw c.clear.ensures.kept entries in
    let field_room : FieldsFit lent (length (all_fields es)) = rw c.clear.ensures.kept fields in
    c.add_entries.ensures.fits b.form es b.rest b.allows b.within.each head.1 head.0
    (fewer_entries lent (length held.entries + c.in-Some.count) (length es)
    (omega (arith, head.0, ap (λ (h : Held). length h.entries) none)) room)
    (fewer_fields lent (length held.fields + length (all_fields es)) (length (all_fields es))
    (omega (arith, ap (λ (h : Held). length h.fields) none)) field_room)
