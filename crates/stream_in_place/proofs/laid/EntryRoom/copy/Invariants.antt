use Rattle.std.proofs.Common.{◌≡◌, ◌++◌, drop}
use Rattle.stream_in_place.proofs.LaidLemmas.{laid_bytes}
use Rattle.stream_in_place.proofs.laid.EntryRoom.copy.Given as goal

abbrev pub invariant-loop-name : goal.invariant-loop-name
invariant-loop-name l = l.self.bytes.items ++ laid_bytes (drop l.name-index l.pairs) ≡ laid_bytes l.pairs
