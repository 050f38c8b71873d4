-- When streams are measured, which streams are measured, and which reply says that a key does not exist.
use Rattle.std.specs.Prelude.{ℕ, ◌+◌, ◌*◌, ◌/◌, ◌^◌, ◌-◌, Bool, false, List, [], ◌∷◌, ◌++◌, codes, fold, min}
use Rattle.std.specs.Prelude.{if◌then◌else◌, string_bytes}
use Rattle.std.specs.List.{list_any}
use Rattle.std.specs.Str.{bytes_eq}
use Rattle.redis_wire.specs.Reply.{Answer, value, refused, group, pushed}
use Rattle.stream_top.specs.declared.figures.StreamFigures.{StreamFigures}
use Rattle.stream_top.specs.declared.options.Key.{Key}

-- whether the reply is the server's error for a key that does not exist
abbrev pub is_no_such_key : Answer → Bool
is_no_such_key (refused text) = bytes_eq text (codes "ERR no such key")
is_no_such_key (value t) = false
is_no_such_key (group kind members) = false
is_no_such_key (pushed kind payload) = false

-- the milliseconds of a reply to `TIME`, or the largest number of 64 bits if there are more
abbrev pub milliseconds : ℕ → ℕ → ℕ
milliseconds seconds micros = min (min (seconds * 1000) (2 ^ 64 - 1) + micros / 1000) (2 ^ 64 - 1)

-- whether the figures are those of the stream at `key`
abbrev pub is_of : List ℕ → StreamFigures → Bool
is_of key figures = bytes_eq key (string_bytes figures.key)

-- the key of the stream with these figures
abbrev pub key_of : StreamFigures → List ℕ
key_of figures = string_bytes figures.key

-- the name of a key
abbrev pub name_of : Key → List ℕ
name_of key = string_bytes key.name

-- the names, followed by `name` if it is not among them
abbrev pub with_name : List (List ℕ) → List ℕ → List (List ℕ)
with_name names name = if list_any (bytes_eq name) names then names else names ++ name ∷ []

-- each name once, in the order of the first occurrences
abbrev pub each_once : List (List ℕ) → List (List ℕ)
each_once names = fold with_name [] names
