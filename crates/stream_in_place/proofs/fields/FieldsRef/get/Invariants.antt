use Rattle.std.proofs.Common.{◌≡◌, map, drop, option_map}
use Rattle.std.specs.List.{AllByRecursion}
use Rattle.std.specs.Option.{option_or}
use Rattle.stream_in_place.specs.Placed.{field_in, IsField}
use Rattle.redis_resp.specs.Table.{last_with}
use Rattle.stream_in_place.proofs.fields.FieldsRef.get.Given as goal

abbrev pub invariant-loop-place : goal.invariant-loop-place
invariant-loop-place l = record {
  each : AllByRecursion (IsField l.self-inside.bytes.now) (drop l.place-index l.place-items);
  so_far : option_or (last_with l.name (map (field_in l.self-inside.bytes.now) (drop l.place-index l.place-items)))
      (option_map (λ v. v.now) l.found) ≡ last_with l.name l.fn.self;
}
