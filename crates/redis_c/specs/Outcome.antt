-- The status codes of parsing that are returned to C.
use Rattle.std.specs.Prelude.{ℕ}
use Rattle.redis_wire.specs.declared.place.Span.{Span}
use Rattle.redis_wire.specs.declared.fault.Fault.{Fault}
use Rattle.redis_wire.specs.declared.fault.Fault.TheVariants as faults
use Rattle.redis_c.specs.declared.outcome.Counts.{Counts}
use Rattle.redis_c.specs.declared.outcome.Found.{Found}
use Rattle.redis_c.specs.declared.outcome.Outcome.{Outcome}
use Rattle.redis_c.specs.declared.outcome.Outcome.TheVariants as outcomes

-- the status code of a fault
abbrev pub code_of_fault : Fault → ℕ
code_of_fault faults.UnknownType = 16
code_of_fault faults.Streamed = 17
code_of_fault faults.BadEnd = 18
code_of_fault faults.BadLength = 19
code_of_fault faults.TooLong = 20
code_of_fault faults.LongLine = 21
code_of_fault faults.TooDeep = 22
code_of_fault faults.BadNumber = 23
code_of_fault faults.BadNull = 24
code_of_fault faults.BadBoolean = 25
code_of_fault faults.NotUtf8 = 26
code_of_fault faults.BadVerbatim = 27
code_of_fault faults.BadPush = 28
code_of_fault faults.Overfull = 29
code_of_fault faults.TooMany = 30

-- the status code of an outcome; no two kinds have the same
abbrev pub code : Outcome → ℕ
code (outcomes.InPlace len counts) = 0
code (outcomes.Room len counts) = 1
code outcomes.Incomplete = 2
code (outcomes.ServerError len text) = 3
code (outcomes.OtherShape len) = 4
code outcomes.Memory = 5
code (outcomes.Fault fault) = code_of_fault fault

-- nowhere
abbrev pub nowhere : Span
nowhere = record { start = 0; len = 0 }

-- a reply of this length with this number of places
abbrev pub of_counts : ℕ → Counts → Found
of_counts len counts =
    record { len = len; streams = counts.streams; entries = counts.entries; fields = counts.fields; error = nowhere }

-- a reply of this length with no place except that of an error
abbrev pub of_place : ℕ → Span → Found
of_place len text = record { len = len; streams = 0; entries = 0; fields = 0; error = text }

-- the values that C receives beside the status code
abbrev pub found : Outcome → Found
found (outcomes.InPlace len counts) = of_counts len counts
found (outcomes.Room len counts) = of_counts len counts
found outcomes.Incomplete = of_place 0 nowhere
found (outcomes.ServerError len text) = of_place len text
found (outcomes.OtherShape len) = of_place len nowhere
found outcomes.Memory = of_place 0 nowhere
found (outcomes.Fault fault) = of_place 0 nowhere
