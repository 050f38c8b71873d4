use Rattle.std.proofs.Common.{◌≡◌, ◌++◌, map}
use Rattle.stream_in_place.specs.SentMeaning.{octet_pair}
use Rattle.stream_in_place.proofs.fields.FieldsRef.to_octets.Given as goal

-- the copies so far, followed by what is left, are all
abbrev pub invariant-loop-name : goal.invariant-loop-name
invariant-loop-name l = map octet_pair l.pairs.items ++ l.name-iterator ≡ l.fn.self
