-- What DEL does.
use Rattle.std.specs.Prelude.{◌≡◌, ◌≤◌, ◌+◌, ℕ, Bool, List, filter, length, not}
use Rattle.std.specs.Global.{Vec}
use Rattle.std.specs.List.{list_any}
use Rattle.std.specs.Str.{bytes_eq}
use Rattle.server_store.specs.declared.stream.Stream.{Stream}
use Rattle.server_commands.specs.Places.{AreInOrder, keys_of}

-- the stream has this key
abbrev pub has_this : List ℕ → Stream → Bool
has_this key stream = bytes_eq stream.key.items key

-- the key of the stream is one of these
abbrev pub is_listed : List (Vec ℕ) → Stream → Bool
is_listed keys stream = list_any (λ key. has_this key.items stream) keys

-- the stream of this key is removed, if there is one; the others stay, in order
pub record IsWithout (key : List ℕ) (old new : List Stream) : Type 0 where
  pub others : AreInOrder (keys_of old) → new ≡ filter (λ stream. not (has_this key stream)) old
  pub order : AreInOrder (keys_of old) → AreInOrder (keys_of new)
  pub fewer : length new ≤ length old

-- exactly the streams of these keys are removed, and `count` were there; the others stay, in order
pub record AreRemoved (keys : List (Vec ℕ)) (count : ℕ) (old new : List Stream) : Type 0 where
  pub others : AreInOrder (keys_of old) → new ≡ filter (λ stream. not (is_listed keys stream)) old
  pub order : AreInOrder (keys_of old) → AreInOrder (keys_of new)
  pub counted : length new + count ≡ length old
