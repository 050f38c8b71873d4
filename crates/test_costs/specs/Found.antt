-- The results of reading bytes.
use Rattle.std.specs.Prelude.{◌≡◌, ◌≤◌, ◌++◌, ℕ, List, take, length, Option, Some, None}
use Rattle.redis_resp.specs.Tree.{Tree}
use Rattle.redis_wire.specs.Limits.{default_limits}
use Rattle.redis_wire.specs.Reply.{Answer, value}
use Rattle.redis_wire.specs.Grammar.{IsReply}
use Rattle.redis_wire.specs.Next.{Held}
use Rattle.stream_entries.specs.Read.{read_reading, Streams}
use Rattle.stream_in_place.specs.Sent.{SentStream}
use Rattle.stream_in_place.specs.Range.{IsRead}

-- the bytes begin with a reply of that length
abbrev pub IsHead : List ℕ → ℕ → Type 0
IsHead bytes len = (a : Answer) × (len ≤ length bytes) × IsReply default_limits (take len bytes) a

-- The bytes begin with a reply that has a record.
pub record HasRecord (bytes : List ℕ) : Type 0 where
  pub len : ℕ
  pub tree : Tree
  pub reply : IsReply default_limits (take len bytes) (value tree)
  pub streams : Streams
  pub reading : read_reading tree ≡ Some streams

-- The bytes begin with a reply of this number of streams, which are read in place.
pub record HasStreams (bytes : List ℕ) (count : ℕ) : Type 0 where
  pub len : ℕ
  pub streams : List SentStream
  pub is : IsRead default_limits bytes streams len
  pub so_many : count ≡ length streams

-- The bytes begin with a reply whose streams are read in place.
pub record AreInPlace (bytes : List ℕ) : Type 0 where
  pub len : ℕ
  pub streams : List SentStream
  pub is : IsRead default_limits bytes streams len

-- a reply of that length was removed from the bytes of a stream; or none was, and nothing changed
abbrev pub IsNext : Held → Option ℕ → Held → Type 0
IsNext old None new = new ≡ old
IsNext old (Some len) new = (text : List ℕ) × (a : Answer) × (len ≡ length text)
    × (old.bytes ≡ text ++ new.bytes) × (new.limits ≡ old.limits) × IsReply old.limits text a
