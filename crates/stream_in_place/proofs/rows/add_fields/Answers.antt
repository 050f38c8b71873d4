use Rattle.std.proofs.Common.{rules, ◌≡◌, ◌++◌, arith, drop, refl, ap}
use Rattle.redis_wire.specs.Packed.{bulk_bytes}
use Rattle.stream_in_place.specs.Shapes.{pair_bytes, IsPair}
use Rattle.stream_in_place.proofs.FillLemmas.{fields_start, fields_more}
use Rattle.stream_in_place.proofs.BeginLemmas.{pair_begins, left_start, left_more, left_none, left_end}
use Rattle.stream_in_place.specs.Held.{Held}
use Rattle.stream_in_place.proofs.CountLemmas.{one_more}
use Rattle.stream_in_place.proofs.rows.add_fields.Goals as goal

pub loop-init : goal.loop-init
loop-init g c = record {
  added = fields_start c.args.limits c.args.bytes.now c.args.at (g.P.Places.held c.args.places.now) c.requires;
  left = left_start pair_bytes (IsPair c.args.limits) c.args.limits c.args.bytes.now c.args.at c.args.count;
  counted = omega arith;
  kept = refl;
}

pub loop-preserved : goal.loop-preserved
loop-preserved g c = record {
  added = fields_more c.args.limits c.args.bytes.now c.args.at
      (g.P.Places.held c.args.places.now) c.loop.counter c.loop.behind c.in-Some.after c.in-Some.field
      (g.P.Places.held c.loop.places) (g.P.Places.held c.push_field.new.self)
      c.loop.invariant.added c.in-Some.ensures.is c.in_ok-push_field.ensures.holds;
  left = left_more pair_bytes (IsPair c.args.limits) c.args.limits c.args.bytes.now c.args.at c.args.count
      c.loop.counter c.loop.behind c.loop.invariant.left c.in-Some.after (omega arith) (λ p rest a h is.
      let begins = pair_begins c.args.limits a (drop c.loop.behind c.args.bytes.now) p rest h is in
      c.in-Some.ensures.found p.0 p.1 (bulk_bytes p.1 ++ rest) rest begins.0 begins.1);
  counted = omega (
    arith,
    one_more (g.P.Places.held c.push_field.new.self).fields (g.P.Places.held c.loop.places).fields _
        (ap (λ (h : Held). h.fields) c.in_ok-push_field.ensures.holds),
    c.loop.invariant.counted,
  );
  kept = search rules;
}

pub returns-clause-is : goal.returns-clause-is
returns-clause-is g c =
    let n : c.loop.counter ≡ c.args.count = omega arith in
    rw n at c.loop.invariant.added

pub returns-clause-found : goal.returns-clause-found
returns-clause-found g c =
    left_end pair_bytes (IsPair c.args.limits) c.args.limits c.args.bytes.now c.args.at c.args.count
    c.loop.counter c.loop.behind c.loop.invariant.left (omega arith)

pub returns-in_default-clause-found : goal.returns-in_default-clause-found
returns-in_default-clause-found g c =
    left_none pair_bytes (IsPair c.args.limits) c.args.limits c.args.bytes.now c.args.at c.args.count
    c.loop.counter c.loop.behind c.loop.invariant.left (omega arith) (λ p rest a h is.
    let begins = pair_begins c.args.limits a (drop c.loop.behind c.args.bytes.now) p rest h is in
    c.in_default.ensures.found p.0 p.1 (bulk_bytes p.1 ++ rest) rest begins.0 begins.1)

pub returns-clause-counts : goal.returns-clause-counts
returns-clause-counts g c = omega (arith, c.loop.invariant.counted)
