-- When a reader or a writer may be used again, and what an error says of it.
use Rattle.std.specs.Prelude.{◌≡◌, ◌≢◌, ℕ, zero, suc, Result, Ok, Err}
use Rattle.std.specs.IoError.{error_kind}
use Rattle.std.specs.declared.io.Error.{Error}
use Rattle.std.specs.declared.io.ErrorKind.TheVariants.{Interrupted, TimedOut, WriteZero}
use Rattle.redis_connection.specs.declared.error.ConnectionError.{ConnectionError}
use Rattle.redis_connection.specs.declared.error.ConnectionError.TheVariants as errors

-- after a read, another is allowed if it returned bytes, or if a signal interrupted it
abbrev pub MayReadAfter : Result ℕ Error → Type 0 → Type 0
MayReadAfter (Ok zero) may_read = Unit {0}
MayReadAfter (Ok (suc n)) may_read = may_read
MayReadAfter (Err e) may_read = error_kind e ≡ Interrupted → may_read

-- after a write, another call is allowed if it succeeded, or if a signal interrupted it
abbrev pub MayWriteAfter : Result ℕ Error → Type 0 → Type 0
MayWriteAfter (Ok n) may_write = may_write
MayWriteAfter (Err e) may_write = error_kind e ≡ Interrupted → may_write

-- the error of the last read; `TimedOut` is also the error after 2^64 - 1 interrupted reads
abbrev pub IsReadError : (Error → Type 0) → Error → Type 0
IsReadError failed_with e = error_kind e ≢ TimedOut → failed_with e

-- the error of the last call; `TimedOut` is also the error after 2^64 - 1 interrupted writes, and `WriteZero`
-- after a write of no bytes
abbrev pub IsWriteError : (Error → Type 0) → Error → Type 0
IsWriteError failed_with e = error_kind e ≢ TimedOut → error_kind e ≢ WriteZero → failed_with e

-- `Read` has the error of the last read; an error other than `Read` and `Closed` leaves a reader that may be read
abbrev pub IsOfReader : Type 0 → (Error → Type 0) → ConnectionError → Type 0
IsOfReader may_read failed_with (errors.Read e) = IsReadError failed_with e
IsOfReader may_read failed_with errors.Closed = Unit {0}
IsOfReader may_read failed_with e = may_read
