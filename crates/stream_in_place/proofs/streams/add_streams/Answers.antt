use Rattle.std.proofs.Common.{rules, ◌≡◌, arith, refl, ap, length, ◌∙◌, ◌+◌, ◌++◌, drop, flat_map}
use Rattle.stream_in_place.specs.Shapes.{stream_bytes, IsStreamOf}
use Rattle.stream_in_place.proofs.StreamLemmas.{streams_start, streams_more}
use Rattle.stream_in_place.proofs.BeginLemmas.{left_start, left_more, left_none, left_end}
use Rattle.stream_in_place.specs.Held.{Held}
use Rattle.stream_in_place.specs.Lent.{EntriesFit, FieldsFit}
use Rattle.stream_in_place.specs.Added.{StreamAdded}
use Rattle.stream_in_place.specs.Sent.{SentStream, all_fields, all_entries, all_stream_fields}
use Rattle.stream_in_place.proofs.CountLemmas.{one_more, fewer_entries, fewer_fields, counted_start, counted_more}
use Rattle.stream_in_place.proofs.CountLemmas.{counted_next, counted_end, next_left}
use Rattle.stream_in_place.specs.Forms.{is_claim, is_map}
use Rattle.stream_in_place.proofs.streams.add_streams.Goals as goal

pub loop-init : goal.loop-init
loop-init g c = record {
  added = streams_start c.args.limits c.args.bytes.now c.args.at (is_map c.args.spelling) (is_claim c.args.form)
      (g.P.Places.held c.args.places.now) c.requires.none c.requires.at;
  left = λ form. left_start (stream_bytes (is_map c.args.spelling) form) (IsStreamOf c.args.limits (is_claim c.args.form)) c.args.limits
      c.args.bytes.now c.args.at c.args.count;
  counted = ap (λ (h : Held). length h.streams) c.requires.none;
  entries = λ form. rw (c.requires.none) (counted_start (stream_bytes (is_map c.args.spelling) form)
      (IsStreamOf c.args.limits (is_claim c.args.form)) (λ (s : SentStream). s.entries) c.args.limits c.args.bytes.now c.args.at
      c.args.count 0);
  fields = λ form. rw (c.requires.none) (counted_start (stream_bytes (is_map c.args.spelling) form)
      (IsStreamOf c.args.limits (is_claim c.args.form)) (λ (s : SentStream). all_fields s.entries) c.args.limits
      c.args.bytes.now c.args.at c.args.count 0);
  kept = refl;
}

pub loop-preserved : goal.loop-preserved
loop-preserved g c =
    let added : StreamAdded c.args.limits c.args.bytes.now c.loop.behind (is_map c.args.spelling) (is_claim c.args.form) c.in-Some.after
    c.in-Some.stream (g.P.Places.held c.loop.places) (g.P.Places.held c.add_stream.new.places) =
    rw c.in-Some.is at c.in_ok-stream.ensures.is in
    let same = ap (λ (h : Held). h.streams) added.grown.is in
    let holds = c.in_ok-push_stream.ensures.holds in
    record {
      added = streams_more c.args.limits c.args.bytes.now c.args.at (is_map c.args.spelling) (is_claim c.args.form) c.loop.counter
          c.loop.behind c.in-Some.after c.in-Some.stream
          (g.P.Places.held c.loop.places) (g.P.Places.held c.add_stream.new.places)
          (g.P.Places.held c.push_stream.new.self)
          c.loop.invariant.added (rw c.in-Some.is at c.in_ok-stream.ensures.is) c.in_ok-push_stream.ensures.holds;
      left = λ form. left_more (stream_bytes (is_map c.args.spelling) form) (IsStreamOf c.args.limits (is_claim c.args.form)) c.args.limits
          c.args.bytes.now c.args.at c.args.count c.loop.counter c.loop.behind (c.loop.invariant.left form)
          c.in-Some.after (omega arith)
          (λ s rest a h is. rw c.in-Some.is at (c.in_ok-stream.ensures.found form s rest a h is));
      counted = omega (
        arith,
        one_more (g.P.Places.held c.push_stream.new.self).streams (g.P.Places.held c.add_stream.new.places).streams _
            (ap (λ (h : Held). h.streams) holds),
        ap length same,
        c.loop.invariant.counted,
      );
      entries = λ form. counted_more (stream_bytes (is_map c.args.spelling) form) (IsStreamOf c.args.limits (is_claim c.args.form))
          (λ (s : SentStream). s.entries) c.args.limits c.args.bytes.now c.args.at c.args.count 0 c.loop.counter
          c.loop.behind (length (g.P.Places.held c.loop.places).entries) (c.loop.invariant.left form)
          (c.loop.invariant.entries form) (length (g.P.Places.held c.push_stream.new.self).entries) (omega arith)
          (λ s rest a h is. ap (λ (x : Held). length x.entries) holds
          ∙ (rw c.in-Some.is at (c.in_ok-stream.ensures.counts form s rest a h is)).0);
      fields = λ form. counted_more (stream_bytes (is_map c.args.spelling) form) (IsStreamOf c.args.limits (is_claim c.args.form))
          (λ (s : SentStream). all_fields s.entries) c.args.limits c.args.bytes.now c.args.at c.args.count 0
          c.loop.counter c.loop.behind (length (g.P.Places.held c.loop.places).fields) (c.loop.invariant.left form)
          (c.loop.invariant.fields form) (length (g.P.Places.held c.push_stream.new.self).fields) (omega arith)
          (λ s rest a h is. ap (λ (x : Held). length x.fields) holds
          ∙ (rw c.in-Some.is at (c.in_ok-stream.ensures.counts form s rest a h is)).1);
      kept = search rules;
    }

pub returns-clause-is : goal.returns-clause-is
returns-clause-is g c =
    let n : c.loop.counter ≡ c.args.count = omega arith in
    rw n at c.loop.invariant.added

pub returns-clause-found : goal.returns-clause-found
returns-clause-found g c = λ form.
    left_end (stream_bytes (is_map c.args.spelling) form) (IsStreamOf c.args.limits (is_claim c.args.form)) c.args.limits c.args.bytes.now
    c.args.at c.args.count c.loop.counter c.loop.behind (c.loop.invariant.left form) (omega arith)

pub returns-clause-counts : goal.returns-clause-counts
returns-clause-counts g c = λ form ss rest a each is n.
    let held = g.P.Places.held c.loop.places in
    record {
      entries = omega (
        arith,
        counted_end (stream_bytes (is_map c.args.spelling) form)
            (IsStreamOf c.args.limits (is_claim c.args.form)) (λ (s : SentStream). s.entries) c.args.limits
            c.args.bytes.now c.args.at c.args.count 0 c.loop.counter c.loop.behind (length held.entries)
            (c.loop.invariant.left form) (c.loop.invariant.entries form) (omega arith) ss rest a each is n,
      );
      fields = omega (
        arith,
        counted_end (stream_bytes (is_map c.args.spelling) form)
            (IsStreamOf c.args.limits (is_claim c.args.form)) (λ (s : SentStream). all_fields s.entries) c.args.limits
            c.args.bytes.now c.args.at c.args.count 0 c.loop.counter c.loop.behind (length held.fields)
            (c.loop.invariant.left form) (c.loop.invariant.fields form) (omega arith) ss rest a each is n,
      );
    }

pub returns-in_default-clause-found : goal.returns-in_default-clause-found
returns-in_default-clause-found g c = λ form.
    left_none (stream_bytes (is_map c.args.spelling) form) (IsStreamOf c.args.limits (is_claim c.args.form)) c.args.limits
    c.args.bytes.now c.args.at c.args.count c.loop.counter c.loop.behind (c.loop.invariant.left form) (omega arith)
    (λ s rest a h is. rw c.in_default.is at (c.in_ok-stream.ensures.found form s rest a h is))

pub returns-in_err-stream-clause-fits : goal.returns-in_err-stream-clause-fits
returns-in_err-stream-clause-fits g c = λ form ss rest a each is n streams entries fields.
    let lent = g.P.Places.lent c.loop.places in
    let held = g.P.Places.held c.loop.places in
    let entry_room : EntriesFit lent (length (all_entries ss)) = rw c.loop.invariant.kept entries in
    let field_room : FieldsFit lent (length (all_stream_fields ss)) = rw c.loop.invariant.kept fields in
    let x = next_left (stream_bytes (is_map c.args.spelling) form) (IsStreamOf c.args.limits (is_claim c.args.form)) c.args.limits
    c.args.bytes.now c.args.at c.args.count c.loop.counter c.loop.behind (c.loop.invariant.left form) (omega arith) ss
    rest a each is n in
    let entries_within = counted_next (stream_bytes (is_map c.args.spelling) form) (IsStreamOf c.args.limits (is_claim c.args.form))
    (λ (s : SentStream). s.entries) c.args.limits c.args.bytes.now c.args.at c.args.count 0 c.loop.counter
    c.loop.behind (length held.entries) (c.loop.invariant.left form) (c.loop.invariant.entries form) ss rest a each is
    n x.item x.tail in
    let fields_within = counted_next (stream_bytes (is_map c.args.spelling) form) (IsStreamOf c.args.limits (is_claim c.args.form))
    (λ (s : SentStream). all_fields s.entries) c.args.limits c.args.bytes.now c.args.at c.args.count 0
    c.loop.counter c.loop.behind (length held.fields) (c.loop.invariant.left form) (c.loop.invariant.fields form) ss
    rest a each is n x.item x.tail in
    let more = flat_map (stream_bytes (is_map c.args.spelling) form) (drop (c.loop.counter + 1) ss) ++ rest in
    absurd (cc (c.in_err-stream.ensures.fits form x.item more a x.holds x.is
    (fewer_entries lent (length held.entries + length x.item.entries) (length (all_entries ss))
    (omega (arith, entries_within)) entry_room)
    (fewer_fields lent (length held.fields + length (all_fields x.item.entries)) (length (all_stream_fields ss))
    (omega (arith, fields_within)) field_room)))
