-- The lines of a file, and positions between them.
use Rattle.std.specs.Prelude.{◌≡◌, ◌≤◌, ◌<◌, ℕ, ◌+◌, List, [], ◌∷◌, ◌++◌, length, take, drop, Contains, if◌then◌else◌, ◌==◌}
use Rattle.worker_journal.specs.LastLines.{lines_of}
use Rattle.stream_fill.specs.declared.line_reader.Place.{Place}

-- the bytes after the last line feed, if `since` are the bytes after the last line feed so far
abbrev pub torn_from : List ℕ → List ℕ → List ℕ
torn_from since [] = since
torn_from since (b ∷ bs) = if b == 10 then torn_from [] bs else torn_from (since ++ b ∷ []) bs

-- the bytes after the last line feed
abbrev pub torn_of : List ℕ → List ℕ
torn_of bytes = torn_from [] bytes

-- `front` are the first bytes of `all`
abbrev pub IsFront : List ℕ → List ℕ → Type 0
IsFront front all = all ≡ front ++ drop (length front) all

-- the bytes begin with a line of length `len` and its line feed
pub record StartsWithLine (bytes : List ℕ) (len : ℕ) : Type 0 where
  pub split : bytes ≡ take len bytes ++ 10 ∷ drop (len + 1) bytes
  pub within : len < length bytes
  pub no_end : Contains (take len bytes) 10 → ⊥

-- the bytes begin with the lines, each with its line feed, and `rest` follows
abbrev pub BeginsWith : List ℕ → List (List ℕ) → List ℕ → Type 0
BeginsWith bytes [] rest = bytes ≡ rest
BeginsWith bytes (l ∷ ls) rest =
    (more : List ℕ) × (bytes ≡ l ++ 10 ∷ more) × (Contains l 10 → ⊥) × BeginsWith more ls rest

-- the bytes begin with `count` lines, each with its line feed, and `rest` follows
pub record HasLines (bytes : List ℕ) (count : ℕ) (rest : List ℕ) : Type 0 where
  pub lines : List (List ℕ)
  pub counted : length lines ≡ count
  pub front : BeginsWith bytes lines rest

-- the position is after the first `place.number` lines of the bytes
pub record IsPlace (bytes : List ℕ) (place : Place) : Type 0 where
  pub within : place.number ≤ length (lines_of bytes)
  pub lines : lines_of (drop place.offset bytes) ≡ drop place.number (lines_of bytes)
  pub torn : torn_of (drop place.offset bytes) ≡ torn_of bytes
