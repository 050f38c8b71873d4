use Rattle.std.proofs.Common.{map, drop}
use Rattle.redis_resp.proofs.ReadLemmas.{ReadSoFar}
use Rattle.redis_c.specs.Placed.{text_at}
use Rattle.redis_c.proofs.placed.texts_at.Given as goal

abbrev pub invariant-loop-place : goal.invariant-loop-place
invariant-loop-place l =
    ReadSoFar (text_at l.bytes) l.places (drop l.place-index l.places) (map (λ text. text.items) l.texts.items)
