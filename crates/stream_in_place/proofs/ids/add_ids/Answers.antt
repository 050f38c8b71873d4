use Rattle.std.proofs.Common.{rules, ◌≡◌, arith, drop, sym, ap, refl}
use Rattle.redis_wire.specs.Packed.{bulk_bytes}
use Rattle.stream_in_place.specs.declared.places.EntryPlace.{EntryPlace}
use Rattle.stream_in_place.specs.Shapes.{IsName}
use Rattle.stream_in_place.proofs.IdLemmas.{ids_start, ids_more}
use Rattle.stream_in_place.proofs.BeginLemmas.{text_begins, left_start, left_more, left_none, left_end}
use Rattle.stream_in_place.specs.Held.{Held}
use Rattle.stream_in_place.proofs.CountLemmas.{one_more}
use Rattle.stream_in_place.proofs.ids.add_ids.Goals as goal

pub loop-init : goal.loop-init
loop-init g c = record {
  added = ids_start c.args.limits c.args.bytes.now c.args.at (g.P.Places.held c.args.places.now) c.requires;
  left = left_start bulk_bytes (IsName c.args.limits) c.args.limits c.args.bytes.now c.args.at c.args.count;
  counted = omega arith;
  kept = refl;
}

pub loop-preserved : goal.loop-preserved
loop-preserved g c =
    let id : c.in-Some.id ≡ c.make_id_place.result.id = sym (ap (λ (e : EntryPlace). e.id) c.make_id_place.ensures) in
    record {
      added = ids_more c.args.limits c.args.bytes.now c.args.at (g.P.Places.held c.args.places.now) c.loop.counter
          c.loop.behind c.in-Some.after c.in-Some.id c.make_id_place.result (g.P.Places.held c.loop.places)
          (g.P.Places.held c.push_entry.new.self) c.loop.invariant.added c.in-Some.ensures.is c.in-Some.ensures.text id
          c.in_ok-push_entry.ensures.holds;
      left = left_more bulk_bytes (IsName c.args.limits) c.args.limits c.args.bytes.now c.args.at c.args.count
          c.loop.counter c.loop.behind c.loop.invariant.left c.in-Some.after (omega arith) (λ text rest a h is.
          (c.in-Some.ensures.found text rest
          (text_begins c.args.limits a (drop c.loop.behind c.args.bytes.now) text rest h.within is) h.is_text).1);
      counted = omega (
        arith,
        one_more (g.P.Places.held c.push_entry.new.self).entries (g.P.Places.held c.loop.places).entries _
            (ap (λ (h : Held). h.entries) c.in_ok-push_entry.ensures.holds),
        c.loop.invariant.counted,
      );
      kept = search rules;
    }

pub returns-clause-is : goal.returns-clause-is
returns-clause-is g c =
    let n : c.loop.counter ≡ c.args.count = omega arith in
    rw n at c.loop.invariant.added

pub returns-clause-found : goal.returns-clause-found
returns-clause-found g c =
    left_end bulk_bytes (IsName c.args.limits) c.args.limits c.args.bytes.now c.args.at c.args.count
    c.loop.counter c.loop.behind c.loop.invariant.left (omega arith)

pub returns-in_default-clause-found : goal.returns-in_default-clause-found
returns-in_default-clause-found g c =
    left_none bulk_bytes (IsName c.args.limits) c.args.limits c.args.bytes.now c.args.at c.args.count
    c.loop.counter c.loop.behind c.loop.invariant.left (omega arith) (λ text rest a h is.
    c.in_default.ensures.found text rest
    (text_begins c.args.limits a (drop c.loop.behind c.args.bytes.now) text rest h.within is) h.is_text)

pub returns-clause-counts : goal.returns-clause-counts
returns-clause-counts g c = omega (arith, c.loop.invariant.counted)
