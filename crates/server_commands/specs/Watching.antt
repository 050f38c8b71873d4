-- What WATCH remembers of a key, and when the key was changed since.
use Rattle.std.specs.Prelude.{ℕ, Bool, ◌&&◌, ◌||◌, ◌==◌, not, List, Option, Some, None, length, bytes_eq}
use Rattle.std.specs.List.{list_any}
use Rattle.server_store.specs.declared.stream.Stream.{Stream}
use Rattle.server_commands.specs.Session.{SeenSession}
use Rattle.server_commands.specs.declared.watching.Mark.{Mark}
use Rattle.server_commands.specs.declared.watching.Watched.{Watched}

-- the stream has this key
abbrev pub has_key : List ℕ → Stream → Bool
has_key key stream = bytes_eq stream.key.items key

-- the stream has this key, the last id of the mark, and as many entries
abbrev pub is_still : List ℕ → Mark → Stream → Bool
is_still key mark stream =
    has_key key stream && ((stream.last_id.milliseconds == mark.milliseconds && stream.last_id.sequence == mark.sequence)
    && length stream.entries.items == mark.len)

-- the key has a stream, and had none; or none is as its stream was
abbrev pub is_changed : List Stream → Watched → Bool
is_changed streams watched = by watched.mark
  where
    by : Option Mark → Bool
    by None = list_any (has_key watched.key.items) streams
    by (Some mark) = not (list_any (is_still watched.key.items mark) streams)

-- a watched key was changed before, or is now
abbrev pub is_touched : List Stream → SeenSession → Bool
is_touched streams session = session.is_touched || list_any (is_changed streams) session.watched
