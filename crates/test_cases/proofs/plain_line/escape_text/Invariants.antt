use Rattle.std.proofs.Common.{◌≡◌, take}
use Rattle.std.specs.Prelude.{flat_map}
use Rattle.test_cases.specs.Line.{escape}
use Rattle.test_cases.proofs.plain_line.escape_text.Given as goal

abbrev pub invariant-loop-byte : goal.invariant-loop-byte
invariant-loop-byte l = l.line.items ≡ flat_map escape (take l.byte-index l.text)
