-- The fields of a connection, as a contract sees them.
use Rattle.std.specs.Prelude.{ℕ, List, ◌++◌, take, length, Option}
use Rattle.redis_wire.specs.Next.{Held}
use Rattle.redis_connection.specs.Link.{Link}

-- the first `unfed` bytes of the piece were received, and follow the bytes that the stream holds, which may
-- be read in place; `passed` push messages were skipped
abbrev pub seen : ℕ → Option (List ℕ) → Option (List ℕ) → Held → List ℕ → ℕ → Link
seen passed written coming held piece unfed = record {
  written = written;
  coming = coming;
  held = record { limits = held.limits; bytes = held.bytes ++ take unfed piece };
  in_place = length held.bytes;
  passed = passed;
}
