use Rattle.std.proofs.Common.{rules, ◌≡◌, ◌≤◌, ◌++◌, arith, map, flat_map, length, false}
use Rattle.stream_in_place.specs.Held.{Held, none_held}
use Rattle.stream_in_place.specs.Placed.{entry_in}
use Rattle.stream_in_place.specs.Added.{EntriesAdded}
use Rattle.stream_in_place.specs.Shapes.{entry_bytes}
use Rattle.stream_in_place.proofs.RangeLemmas.{range_is}
use Rattle.stream_in_place.proofs.ShapeLemmas.{range_begins, range_same}
use Rattle.stream_in_place.proofs.tape.EntryTape.read_range.Goals as goal

pub returns-in-Some-2-clause-is : goal.returns-in-Some-2-clause-is
returns-in-Some-2-clause-is c =
    let new = c.add_entries.new.places in
    let held : Held = record { streams = new.streams.items; entries = new.entries.items; fields = new.fields.items } in
    let deep : 4 ≤ c.args.limits.depth = omega arith in
    let es : c.entries_at.result ≡ map (entry_in c.args.bytes.now held.fields) held.entries = search rules in
    let added : EntriesAdded c.args.limits c.args.bytes.now c.in-Some.at false c.in-Some.count c.in-Some-2.len none_held
    held =
    rw (c.clear.ensures.holds, c.in-Some-2.is) at c.in_ok-add_entries.ensures.is in
    range_is c.args.limits c.args.bytes.now c.in-Some.at c.in-Some.count c.in-Some-2.len held c.entries_at.result deep
    c.in-Some.ensures.is added es

pub returns-in-Some-2-clause-found : goal.returns-in-Some-2-clause-found
returns-in-Some-2-clause-found c = λ es len b.
    range_same c.args.limits c.args.bytes.now c.entries_at.result es c.in-Some-2.len len
    (returns-in-Some-2-clause-is c) b

pub returns-in_default-clause-found : goal.returns-in_default-clause-found
returns-in_default-clause-found c = λ es len b.
    c.in_default.ensures.found (length es) (flat_map (entry_bytes b.form) es ++ b.rest)
    (range_begins c.args.limits c.args.bytes.now es len b)

pub returns-in-None-clause-found : goal.returns-in-None-clause-found
returns-in-None-clause-found c = λ es len b.
    let head = c.in-Some.ensures.found (length es) (flat_map (entry_bytes b.form) es ++ b.rest)
    (range_begins c.args.limits c.args.bytes.now es len b) in
    rw c.in-None.is at (c.in_ok-add_entries.ensures.found b.form es b.rest b.allows b.within.each head.1 head.0)

pub returns-then-limits-lt-RANGE_DEPTH-clause-found : goal.returns-then-limits-lt-RANGE_DEPTH-clause-found
returns-then-limits-lt-RANGE_DEPTH-clause-found c = λ es len b. absurd (omega (arith, b.deep))
