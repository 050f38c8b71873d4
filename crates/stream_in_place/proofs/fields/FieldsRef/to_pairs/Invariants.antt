use Rattle.std.proofs.Common.{◌≡◌, ◌++◌, drop, map, true}
use Rattle.std.specs.Str.{is_utf8}
use Rattle.redis_resp.specs.Table.{entries_meaning, on_values}
use Rattle.redis_resp.specs.Tree.{bulk}
use Rattle.redis_resp.specs.Value.{tree}
use Rattle.stream_in_place.specs.Placed.{field_in}
use Rattle.stream_in_place.proofs.NamedLemmas.{AllIfLeft}
use Rattle.stream_in_place.proofs.fields.FieldsRef.to_pairs.Given as goal

abbrev pub invariant-loop-place : goal.invariant-loop-place
invariant-loop-place l = record {
  pairs : entries_meaning tree l.pairs.items
      ++ on_values bulk (map (field_in l.self-inside.bytes.now) (drop l.place-index l.place-items))
      ≡ on_values bulk l.fn.self;
  named : AllIfLeft (λ p. is_utf8 p.0 ≡ true)
      (map (field_in l.self-inside.bytes.now) (drop l.place-index l.place-items)) l.fn.self;
}
