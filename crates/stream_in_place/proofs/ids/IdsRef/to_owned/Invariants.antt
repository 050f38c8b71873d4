use Rattle.std.proofs.Common.{◌≡◌, ◌++◌, map, string_bytes}
use Rattle.stream_in_place.proofs.ids.IdsRef.to_owned.Given as goal

abbrev pub invariant-loop-id : goal.invariant-loop-id
invariant-loop-id l = map string_bytes l.copies.items ++ map (λ x. x) l.id-iterator ≡ map (λ x. x) l.fn.self
