-- The lines of an input, and the parts of a line.
use denote.Ref.{Bor}
use Rattle.std.specs.Prelude.{ℕ, ◌==◌, List, [], ◌∷◌, Option, Some, None, if◌then◌else◌}

-- a byte prepended to the first piece
abbrev pub onto : ℕ → List (List ℕ) → List (List ℕ)
onto b [] = (b ∷ []) ∷ []
onto b (piece ∷ pieces) = (b ∷ piece) ∷ pieces

-- the bytes, cut at each mark; the pieces at the end of the input are given
abbrev pub pieces : ℕ → List (List ℕ) → List ℕ → List (List ℕ)
pieces mark end [] = end
pieces mark end (b ∷ bytes) = if b == mark then [] ∷ pieces mark end bytes else onto b (pieces mark end bytes)

-- the lines, cut at each LF; a last line without LF counts if it has a byte
abbrev pub lines_of : List ℕ → List (List ℕ)
lines_of = pieces 10 []

-- the parts of a line, cut at each space, empty ones included
abbrev pub parts_of : List ℕ → List (List ℕ)
parts_of = pieces 32 ([] ∷ [])

-- ---- for the functions within

-- bytes prepended to the first piece
abbrev pub with_front : List ℕ → List (List ℕ) → List (List ℕ)
with_front [] pieces = pieces
with_front (b ∷ bytes) pieces = onto b (with_front bytes pieces)

-- the pieces, by the bytes before the first mark and those after it
abbrev pub pieces_from : ℕ → List (List ℕ) → List ℕ → Option (Bor (List ℕ)) → List (List ℕ)
pieces_from mark end front None = with_front front end
pieces_from mark end front (Some rest) = front ∷ pieces mark end rest.now

-- the remaining parts of a line
abbrev pub parts_left : Option (Bor (List ℕ)) → List (List ℕ)
parts_left None = []
parts_left (Some rest) = parts_of rest.now
