use Rattle.std.proofs.Common.{map, drop}
use Rattle.redis_resp.specs.Reading.{both_read}
use Rattle.redis_resp.proofs.ReadLemmas.{ReadSoFar}
use Rattle.redis_c.specs.Placed.{text_at}
use Rattle.redis_c.proofs.placed.fields_at.Given as goal

abbrev pub invariant-loop-place : goal.invariant-loop-place
invariant-loop-place l =
    ReadSoFar (λ field. both_read (text_at l.bytes field.name) (text_at l.bytes field.value)) l.places
    (drop l.place-index l.places) (map (λ field. (field.0.0.now, field.1.0.now)) l.fields.items)
