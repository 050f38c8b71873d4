use Rattle.std.proofs.Common.{◌≡◌, drop, map, true}
use Rattle.std.specs.Str.{is_utf8}
use Rattle.redis_resp.specs.FieldsMeaning.{fields_of}
use Rattle.stream_in_place.specs.Placed.{field_in}
use Rattle.stream_in_place.proofs.CopyLemmas.{Copied}
use Rattle.stream_in_place.proofs.NamedLemmas.{AllIfLeft}
use Rattle.stream_in_place.proofs.fields.FieldsRef.to_owned.Given as goal

abbrev pub invariant-loop-place : goal.invariant-loop-place
invariant-loop-place l = record {
  copied : Copied l.self-inside.bytes.now (drop l.place-index l.place-items) l.fn.self (fields_of l.copies);
  named : AllIfLeft (λ p. is_utf8 p.0 ≡ true)
      (map (field_in l.self-inside.bytes.now) (drop l.place-index l.place-items)) l.fn.self;
}
