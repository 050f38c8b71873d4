use Rattle.std.proofs.Common.{rules, ◌≡◌, arith, map, true}
use Rattle.stream_in_place.specs.Held.{Held}
use Rattle.stream_in_place.specs.Placed.{stream_in}
use Rattle.stream_in_place.specs.Added.{IsFilled}
use Rattle.stream_in_place.proofs.ReadLemmas.{read_is}
use Rattle.stream_in_place.proofs.ShapeStreamLemmas.{streams_same}
use Rattle.stream_in_place.proofs.tape.EntryTape.read_claimed_streams.Goals as goal

pub returns-in-Some-clause-is : goal.returns-in-Some-clause-is
returns-in-Some-clause-is c =
    let new = c.find_form.new.places in
    let held : Held = record { streams = new.streams.items; entries = new.entries.items; fields = new.fields.items } in
    let filled : IsFilled c.args.limits c.args.bytes.now true c.in-Some.len held =
    rw c.in-Some.is at c.in_ok-find_form.ensures.is in
    let ss : c.streams_at.result ≡ map (stream_in c.args.bytes.now held.entries held.fields) held.streams =
    search rules in
    read_is c.args.limits c.args.bytes.now true c.in-Some.len held c.streams_at.result filled ss

pub returns-in-Some-clause-found : goal.returns-in-Some-clause-found
returns-in-Some-clause-found c = λ ss len b.
    streams_same c.args.limits true c.args.bytes.now c.streams_at.result ss c.in-Some.len len
    (returns-in-Some-clause-is c) b

pub returns-in-None-clause-found : goal.returns-in-None-clause-found
returns-in-None-clause-found c = λ ss len b.
    absurd (cc (rw c.in-None.is at (c.in_ok-find_form.ensures.found ss len b)))

pub returns-then-limits-lt-STREAMS_DEPTH-clause-found : goal.returns-then-limits-lt-STREAMS_DEPTH-clause-found
returns-then-limits-lt-STREAMS_DEPTH-clause-found c = λ ss len b. absurd (omega (arith, b.deep))
