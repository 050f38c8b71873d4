-- Ids as numbers, in the order of a stream, and as texts.
use Rattle.std.specs.Prelude.{ℕ, ◌+◌, ◌*◌, ◌==◌, Bool, not, List, [], ◌∷◌, ◌++◌, take, drop, decimal, Option, None}
use Rattle.std.specs.Prelude.{option_map, option_and_then}
use Rattle.std.specs.List.{prefix_len}
use Rattle.redis_resp.specs.Number.{unsigned_of, within}
use Rattle.stream_in_place.specs.declared.id_parts.StreamIdParts.{StreamIdParts}

-- the number of an id, in the order of ids
abbrev pub id_number : StreamIdParts → ℕ
id_number id = id.ms * 18446744073709551616 + id.seq

-- an id as replies and commands write it: with a `-` between its parts
abbrev pub id_text : StreamIdParts → List ℕ
id_text id = decimal id.ms ++ 45 ∷ [] ++ decimal id.seq

-- the same after a `(`: an exclusive start, which leaves out the id itself
abbrev pub behind_text : StreamIdParts → List ℕ
behind_text id = 40 ∷ id_text id

-- a byte before the first `-`
abbrev pub is_of_part : ℕ → Bool
is_of_part b = not (b == 45)

-- the number of a part
abbrev pub part_in : List ℕ → Option ℕ
part_in text = option_and_then (within 64) (unsigned_of text)

-- the id of the text before the first `-`, and the text from that `-` on
abbrev pub id_of : List ℕ → List ℕ → Option StreamIdParts
id_of ms [] = None
id_of ms (dash ∷ seq) = option_and_then (λ m. option_map (λ s. record { ms = m; seq = s }) (part_in seq)) (part_in ms)

-- the id that a text is parsed as
abbrev pub id_in : List ℕ → Option StreamIdParts
id_in text = id_of (take (prefix_len is_of_part text) text) (drop (prefix_len is_of_part text) text)
