-- Which replies the first bytes are, and of which entries.
use Rattle.std.specs.Prelude.{◌≡◌, ◌≤◌, ℕ, List, length, take, map, Some}
use Rattle.redis_resp.specs.Reading.{list_reading}
use Rattle.redis_resp.specs.Tree.{Tree}
use Rattle.redis_wire.specs.declared.limits.Limits.{Limits}
use Rattle.redis_wire.specs.Reply.{value}
use Rattle.redis_wire.specs.Grammar.{IsAnyReply}
use Rattle.stream_entries.specs.Rows.{rows_reading}
use Rattle.stream_entries.specs.Read.{read_reading}
use Rattle.stream_in_place.specs.Sent.{SentEntry, SentStream, rows_tree, IsReadTree, AreNamed, AreAllNamed}
use Rattle.stream_in_place.specs.SentReading.{sent_row_reading, sent_streams_reading}
use Rattle.stream_in_place.specs.Copied.{copied, copied_streams}

-- The first `len` bytes are a reply within the limits, with any number of values, and these are its entries. If
-- names are text, they are those that the record of the copying path holds.
pub record IsRange (limits : Limits) (bytes : List ℕ) (es : List SentEntry) (len : ℕ) : Type 0 where
  pub within : len ≤ length bytes
  pub reply : IsAnyReply limits (take len bytes) (value (rows_tree es))
  pub sent : list_reading sent_row_reading (rows_tree es) ≡ Some es
  pub reading : AreNamed es → rows_reading (rows_tree es) ≡ Some (map copied es)

-- The first `len` bytes are a reply within the limits, with any number of values, and these are its streams. If
-- names are text, they are those that the record of the copying path holds.
pub record IsRead (limits : Limits) (bytes : List ℕ) (ss : List SentStream) (len : ℕ) : Type 0 where
  pub within : len ≤ length bytes
  pub tree : Tree
  pub is : IsReadTree ss tree
  pub reply : IsAnyReply limits (take len bytes) (value tree)
  pub sent : sent_streams_reading tree ≡ Some ss
  pub reading : AreAllNamed ss → read_reading tree ≡ Some (copied_streams ss)
