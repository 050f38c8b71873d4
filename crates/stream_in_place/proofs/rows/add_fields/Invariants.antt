use Rattle.std.specs.Prelude.{◌≡◌, ◌+◌, length}
use Rattle.stream_in_place.specs.Added.{FieldsAdded}
use Rattle.stream_in_place.specs.Shapes.{pair_bytes, IsPair}
use Rattle.stream_in_place.proofs.BeginLemmas.{IsLeft}
use Rattle.stream_in_place.proofs.rows.add_fields.Given as goal

abbrev pub invariant-loop : goal.invariant-loop
invariant-loop g l = record {
  added : FieldsAdded l.limits l.bytes l.at l.counter l.behind (g.P.Places.held l.fn.places)
      (g.P.Places.held l.places);
  left : IsLeft pair_bytes (IsPair l.limits) l.limits l.bytes l.at l.count l.counter l.behind;
  counted : length (g.P.Places.held l.places).fields ≡ length (g.P.Places.held l.fn.places).fields + l.counter;
  kept : g.P.Places.lent l.places ≡ g.P.Places.lent l.fn.places;
}
