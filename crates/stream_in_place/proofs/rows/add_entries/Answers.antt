use Rattle.std.proofs.Common.{rules, ◌≡◌, arith, refl, ap, length, ◌∙◌, ◌+◌, drop, flat_map, ◌++◌}
use Rattle.stream_in_place.specs.Shapes.{entry_bytes, IsEntryOf}
use Rattle.stream_in_place.proofs.FillLemmas.{entries_start, entries_more}
use Rattle.stream_in_place.proofs.BeginLemmas.{left_start, left_more, left_none, left_end}
use Rattle.stream_in_place.specs.Held.{Held}
use Rattle.stream_in_place.specs.Added.{EntryAdded}
use Rattle.stream_in_place.specs.Lent.{FieldsFit}
use Rattle.stream_in_place.specs.Sent.{SentEntry, fields_of, all_fields}
use Rattle.stream_in_place.proofs.CountLemmas.{one_more, fewer_fields, counted_start, counted_more}
use Rattle.stream_in_place.proofs.CountLemmas.{counted_next, counted_end, next_left}
use Rattle.stream_in_place.specs.Forms.{is_claim}
use Rattle.stream_in_place.proofs.rows.add_entries.Goals as goal

pub loop-init : goal.loop-init
loop-init g c = record {
  added = entries_start c.args.limits c.args.bytes.now c.args.at (is_claim c.args.form)
      (g.P.Places.held c.args.places.now) c.requires;
  left = λ form. left_start (entry_bytes form) (IsEntryOf c.args.limits (is_claim c.args.form)) c.args.limits c.args.bytes.now
      c.args.at c.args.count;
  counted = omega arith;
  fields = λ form. counted_start (entry_bytes form) (IsEntryOf c.args.limits (is_claim c.args.form))
      (λ (e : SentEntry). fields_of e.fields) c.args.limits c.args.bytes.now c.args.at c.args.count
      (length (g.P.Places.held c.args.places.now).fields);
  kept = refl;
}

pub loop-preserved : goal.loop-preserved
loop-preserved g c =
    let added : EntryAdded c.args.limits c.args.bytes.now c.loop.behind (is_claim c.args.form) c.in-Some.after c.in-Some.entry
    (g.P.Places.held c.loop.places) (g.P.Places.held c.add_entry.new.places) =
    rw c.in-Some.is at c.in_ok-entry.ensures.is in
    let same = ap (λ (h : Held). h.entries) added.grown.is in
    let pushed = ap (λ (h : Held). h.entries) c.in_ok-push_entry.ensures.holds in
    let kept_fields = ap (λ (h : Held). length h.fields) c.in_ok-push_entry.ensures.holds in
    record {
      added = entries_more c.args.limits c.args.bytes.now c.args.at (is_claim c.args.form)
          (g.P.Places.held c.args.places.now) c.loop.counter c.loop.behind c.in-Some.after c.in-Some.entry
          (g.P.Places.held c.loop.places) (g.P.Places.held c.add_entry.new.places) (g.P.Places.held c.push_entry.new.self)
          c.loop.invariant.added (rw c.in-Some.is at c.in_ok-entry.ensures.is) c.in_ok-push_entry.ensures.holds;
      left = λ form. left_more (entry_bytes form) (IsEntryOf c.args.limits (is_claim c.args.form)) c.args.limits c.args.bytes.now
          c.args.at c.args.count c.loop.counter c.loop.behind (c.loop.invariant.left form) c.in-Some.after (omega arith)
          (λ e rest a h is. rw c.in-Some.is at (c.in_ok-entry.ensures.found form e rest a h is));
      counted = omega (
        arith,
        one_more (g.P.Places.held c.push_entry.new.self).entries (g.P.Places.held c.add_entry.new.places).entries _ pushed,
        ap length same,
        c.loop.invariant.counted,
      );
      fields = λ form. counted_more (entry_bytes form) (IsEntryOf c.args.limits (is_claim c.args.form))
          (λ (e : SentEntry). fields_of e.fields) c.args.limits c.args.bytes.now c.args.at c.args.count
          (length (g.P.Places.held c.args.places.now).fields) c.loop.counter c.loop.behind
          (length (g.P.Places.held c.loop.places).fields) (c.loop.invariant.left form) (c.loop.invariant.fields form)
          (length (g.P.Places.held c.push_entry.new.self).fields) (omega arith) (λ e rest a h is.
          kept_fields ∙ (rw c.in-Some.is at (c.in_ok-entry.ensures.counts form e rest a h is)));
      kept = search rules;
    }

pub returns-clause-is : goal.returns-clause-is
returns-clause-is g c =
    let n : c.loop.counter ≡ c.args.count = omega arith in
    rw n at c.loop.invariant.added

pub returns-clause-found : goal.returns-clause-found
returns-clause-found g c = λ form.
    left_end (entry_bytes form) (IsEntryOf c.args.limits (is_claim c.args.form)) c.args.limits c.args.bytes.now c.args.at
    c.args.count c.loop.counter c.loop.behind (c.loop.invariant.left form) (omega arith)

pub returns-in_default-clause-found : goal.returns-in_default-clause-found
returns-in_default-clause-found g c = λ form.
    left_none (entry_bytes form) (IsEntryOf c.args.limits (is_claim c.args.form)) c.args.limits c.args.bytes.now c.args.at
    c.args.count c.loop.counter c.loop.behind (c.loop.invariant.left form) (omega arith)
    (λ e rest a h is. rw c.in_default.is at (c.in_ok-entry.ensures.found form e rest a h is))

pub returns-clause-counts : goal.returns-clause-counts
returns-clause-counts g c = omega (arith, c.loop.invariant.counted)

pub returns-clause-counts_fields : goal.returns-clause-counts_fields
returns-clause-counts_fields g c = λ form.
    counted_end (entry_bytes form) (IsEntryOf c.args.limits (is_claim c.args.form)) (λ (e : SentEntry). fields_of e.fields)
    c.args.limits c.args.bytes.now c.args.at c.args.count (length (g.P.Places.held c.args.places.now).fields)
    c.loop.counter c.loop.behind (length (g.P.Places.held c.loop.places).fields) (c.loop.invariant.left form)
    (c.loop.invariant.fields form) (omega arith)

pub returns-in_err-entry-clause-fits : goal.returns-in_err-entry-clause-fits
returns-in_err-entry-clause-fits g c = λ form es rest a each is n entries_fit fit.
    let lent = g.P.Places.lent c.loop.places in
    let old = length (g.P.Places.held c.args.places.now).fields in
    let new = length (g.P.Places.held c.loop.places).fields in
    let all : FieldsFit lent (old + length (all_fields es)) = rw c.loop.invariant.kept fit in
    let x = next_left (entry_bytes form) (IsEntryOf c.args.limits (is_claim c.args.form)) c.args.limits c.args.bytes.now c.args.at
    c.args.count c.loop.counter c.loop.behind (c.loop.invariant.left form) (omega arith) es rest a each is n in
    let within = counted_next (entry_bytes form) (IsEntryOf c.args.limits (is_claim c.args.form))
    (λ (e : SentEntry). fields_of e.fields) c.args.limits c.args.bytes.now c.args.at c.args.count old c.loop.counter
    c.loop.behind new (c.loop.invariant.left form) (c.loop.invariant.fields form) es rest a each is n x.item x.tail in
    let more = flat_map (entry_bytes form) (drop (c.loop.counter + 1) es) ++ rest in
    absurd (cc (c.in_err-entry.ensures.fits form x.item more a x.holds x.is
    (fewer_fields lent (new + length (fields_of x.item.fields)) (old + length (all_fields es)) within all)))
