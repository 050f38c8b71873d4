-- What was set at a stream, and a connection over two of its handles.
use Rattle.std.specs.Prelude.{◌≡◌, ℕ, Bool, true, List, [], Option, Some}
use Rattle.std.specs.declared.time.Duration.{Duration}
use Rattle.redis_wire.specs.Limits.{default_limits}
use Rattle.redis_connection.specs.Link.{Link}

-- what was set at the first is set at the second
abbrev pub Stays : {S V : Type 0} → (S → V → Type 0) → S → S → Type 0
Stays is first second = (v : _) → is first v → is second v

-- TCP_NODELAY was set, and so long for a read and for a write
abbrev pub IsTimed : {S : Type 0} → (S → Bool → Type 0) → (S → Option Duration → Type 0)
    → (S → Option Duration → Type 0) → Duration → S → Type 0
IsTimed nodelay reads writes patience s = nodelay s true × reads s (Some patience) × writes s (Some patience)

-- a connection on which nothing was sent or received yet, with the default limits, over a reader and a writer
-- that both are as `is` says
pub record IsOver {S : Type 0} (coming written : S → Option (List ℕ)) (is : S → Type 0) (c : Link) : Type 0 where
  pub reader : S
  pub writer : S
  pub reader_is : is reader
  pub writer_is : is writer
  pub nothing_yet : c ≡ record {
    written = written writer;
    coming = coming reader;
    held = record { limits = default_limits; bytes = [] };
    in_place = 0;
    passed = 0;
  }
