use Rattle.std.specs.Prelude.{◌≡◌, ◌+◌, length}
use Rattle.redis_wire.specs.Packed.{bulk_bytes}
use Rattle.stream_in_place.specs.AddedIds.{IdsAdded}
use Rattle.stream_in_place.specs.Shapes.{IsName}
use Rattle.stream_in_place.proofs.BeginLemmas.{IsLeft}
use Rattle.stream_in_place.proofs.ids.add_ids.Given as goal

abbrev pub invariant-loop : goal.invariant-loop
invariant-loop g l = record {
  added : IdsAdded l.limits l.bytes l.at l.counter l.behind (g.P.Places.held l.fn.places) (g.P.Places.held l.places);
  left : IsLeft bulk_bytes (IsName l.limits) l.limits l.bytes l.at l.count l.counter l.behind;
  counted : length (g.P.Places.held l.places).entries ≡ length (g.P.Places.held l.fn.places).entries + l.counter;
  kept : g.P.Places.lent l.places ≡ g.P.Places.lent l.fn.places;
}
