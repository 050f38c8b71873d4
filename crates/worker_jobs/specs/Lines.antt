-- How lines are read.
use Rattle.std.specs.Prelude.{◌≡◌, ◌≢◌, ◌+◌, ◌≤◌, ℕ, List, [], Option, length}
use Rattle.std.specs.List.{AllByRecursion}
use Rattle.std.specs.Io.KnownBytes.{Consumes, IsAtEnd}
use Rattle.worker_jobs.specs.declared.fault.Fault.{Fault}
use Rattle.worker_jobs.specs.declared.fault.Fault.TheVariants.{Write, Read, Ended, TooLong, Unknown, Unasked, Memory}

-- the bytes contain no line end
abbrev pub HasNoEnd : List ℕ → Type 0
HasNoEnd bytes = AllByRecursion (λ b. b ≢ 10) bytes

-- why no byte was read: the reader is at its end, or returned an error
abbrev pub NoByte : Option (List ℕ) → Option (List ℕ) → Fault → Type 0
NoByte old new Ended = Consumes old new [] × IsAtEnd new
NoByte old new (Read e) = Unit {0}
NoByte old new (Write e) = ⊥
NoByte old new TooLong = ⊥
NoByte old new Unknown = ⊥
NoByte old new Unasked = ⊥
NoByte old new Memory = ⊥

-- why no line of at most `longest` bytes was read. `TooLong`: the bytes that were read have no line end, and
-- are `longest` + 1 bytes. `Ended`: the reader is at its end.
abbrev pub BreaksOff : ℕ → Option (List ℕ) → Option (List ℕ) → Fault → Type 0
BreaksOff longest old new TooLong =
    (bytes : List ℕ) × Consumes old new bytes × HasNoEnd bytes × (length bytes ≡ longest + 1)
BreaksOff longest old new Ended =
    (bytes : List ℕ) × Consumes old new bytes × HasNoEnd bytes × (length bytes ≤ longest) × IsAtEnd new
BreaksOff longest old new Unknown = ⊥
BreaksOff longest old new Unasked = ⊥
BreaksOff longest old new (Write e) = ⊥
BreaksOff longest old new (Read e) = Unit {0}
BreaksOff longest old new Memory = Unit {0}
