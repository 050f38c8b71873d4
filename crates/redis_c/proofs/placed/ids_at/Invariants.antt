use Rattle.std.proofs.Common.{map, drop}
use Rattle.redis_resp.proofs.ReadLemmas.{ReadSoFar}
use Rattle.redis_c.specs.Placed.{text_at}
use Rattle.redis_c.proofs.placed.ids_at.Given as goal

abbrev pub invariant-loop-entry : goal.invariant-loop-entry
invariant-loop-entry l =
    ReadSoFar (λ entry. text_at l.bytes entry.id) l.entries (drop l.entry-index l.entries)
    (map (λ id. id.0.now) l.ids.items)
