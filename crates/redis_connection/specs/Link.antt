-- The bytes sent and received over a connection.
use Rattle.std.specs.Prelude.{◌≡◌, ◌≢◌, ◌<◌, ◌≤◌, ◌-◌, ◌⊎◌, ℕ, List, ◌++◌, take, drop, length, Option}
use Rattle.std.specs.IoError.{error_kind}
use Rattle.std.specs.declared.io.ErrorKind.TheVariants.{Interrupted}
use Rattle.std.specs.Io.KnownBytes.{Appends, Consumes, IsAtEnd}
use Rattle.redis_wire.specs.Decoded.{NoReply, IsFirstFault}
use Rattle.redis_wire.specs.Grammar.{IsReply}
use Rattle.redis_wire.specs.Next.{Held}
use Rattle.redis_wire.specs.Reply.{Answer}
use Rattle.redis_wire.specs.declared.fault.Fault.TheVariants.{Overfull}
use Rattle.redis_wire.specs.declared.fault.WireError.TheVariants as wire_errors
use Rattle.redis_connection.specs.declared.error.ConnectionError.{ConnectionError}
use Rattle.redis_connection.specs.declared.error.ConnectionError.TheVariants as errors

-- a connection: the bytes that its writer holds and its reader has left, each if known; the limits; the
-- bytes received and not consumed; how many of these may be read in place; and
-- how many push messages of the server were skipped
pub record Link : Type 0 where
  pub written : Option (List ℕ)
  pub coming : Option (List ℕ)
  pub held : Held
  pub in_place : ℕ
  pub passed : ℕ

-- these bytes were sent, and nothing else happened
pub record Sends (old new : Link) (bytes : List ℕ) : Type 0 where
  pub appends : Appends old.written new.written bytes
  pub coming : new.coming ≡ old.coming
  pub held : new.held ≡ old.held
  pub in_place : new.in_place ≡ old.in_place
  pub passed : new.passed ≡ old.passed

-- a prefix of these bytes was sent, and nothing else happened
abbrev pub SendsFront : Link → Link → List ℕ → Type 0
SendsFront old new bytes = (n : ℕ) × Sends old new (take n bytes)

-- these bytes were received and are held after the others, and nothing else happened
pub record TakesIn (old new : Link) (taken : List ℕ) : Type 0 where
  pub consumes : Consumes old.coming new.coming taken
  pub bytes : new.held.bytes ≡ old.held.bytes ++ taken
  pub limits : new.held.limits ≡ old.held.limits
  pub written : new.written ≡ old.written
  pub passed : new.passed ≡ old.passed

-- some bytes were received and are held, and nothing was consumed
abbrev pub Waits : Link → Link → Type 0
Waits old new = (taken : List ℕ) × TakesIn old new taken

-- bytes were received, and the reply at the start of the bytes then held was consumed, and only its bytes
pub record Receives (old new : Link) (a : Answer) : Type 0 where
  pub taken : List ℕ
  pub text : List ℕ
  pub consumes : Consumes old.coming new.coming taken
  pub bytes : old.held.bytes ++ taken ≡ text ++ new.held.bytes
  pub reply : IsReply old.held.limits text a
  pub limits : new.held.limits ≡ old.held.limits
  pub written : new.written ≡ old.written
  pub passed : new.passed ≡ old.passed

-- bytes were received, and the first `len` bytes then held may be read in place and are the encoding of
-- this reply; nothing was consumed
pub record Stands (old new : Link) (len : ℕ) (a : Answer) : Type 0 where
  pub taken : List ℕ
  pub takes : TakesIn old new taken
  pub within : len ≤ new.in_place
  pub whole : len ≤ length new.held.bytes
  pub reply : IsReply old.held.limits (take len new.held.bytes) a

-- bytes were received, and the first `len` bytes then held are a reply
abbrev pub IsInPlace : Link → Link → ℕ → Type 0
IsInPlace old new len = (a : Answer) × Stands old new len a

-- the first `len` bytes were consumed, or as many as may be read in place, and nothing else happened
pub record GivesOut (old new : Link) (len : ℕ) : Type 0 where
  pub in_place : new.in_place ≡ old.in_place - len
  pub bytes : new.held.bytes ≡ drop (old.in_place - new.in_place) old.held.bytes
  pub limits : new.held.limits ≡ old.held.limits
  pub coming : new.coming ≡ old.coming
  pub written : new.written ≡ old.written
  pub passed : new.passed ≡ old.passed

-- no reply will ever be at the start of the bytes held, and this is the first fault of decoding some prefix
-- of them from the left; or more bytes were received than may be held
abbrev pub IsFaulty : Held → ConnectionError → Type 0
IsFaulty held (errors.Fault fault) =
    (((more : List ℕ) → NoReply held.limits (held.bytes ++ more))
    × ((n : ℕ) × IsFirstFault held.limits (take n held.bytes) (wire_errors.Fault fault)))
    ⊎ ((fault ≡ Overfull) × (held.limits.bytes < length held.bytes))
IsFaulty held e = Unit {0}

-- the reader is at its end, and no whole reply is at the start of the bytes held
abbrev pub IsEnded : Link → ConnectionError → Type 0
IsEnded link errors.Closed = IsAtEnd link.coming × NoReply link.held.limits link.held.bytes
IsEnded link e = Unit {0}

-- a call of the reader or writer that a signal interrupted was repeated, and is no error
abbrev pub IsRetried : ConnectionError → Type 0
IsRetried (errors.Read e) = error_kind e ≢ Interrupted
IsRetried e = Unit {0}
