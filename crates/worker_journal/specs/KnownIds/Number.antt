-- An id as one number.
use Rattle.std.specs.Prelude.{◌≡◌, ◌+◌, ◌*◌, ℕ, List, [], ◌∷◌, decimal, Option, Some, None, if◌then◌else◌, option_and_then}
use Rattle.std.specs.Str.{bytes_eq}
use Rattle.redis_resp.specs.Number.{unsigned_of, within}
use Rattle.worker_journal.specs.KnownIds.Cut.{before, from}

-- the number, if `text` is its decimal form: without a sign and without leading zeros
abbrev pub if_written_so : List ℕ → Option ℕ → Option ℕ
if_written_so text None = None
if_written_so text (Some n) = if bytes_eq (decimal n) text then Some n else None

-- the number of one part of an id, if it has at most 64 bits
abbrev pub part_of : List ℕ → Option ℕ
part_of text = if_written_so text (option_and_then (within 64) (unsigned_of text))

-- the sequence number, from the text that starts with the hyphen
abbrev pub seq_of : List ℕ → Option ℕ
seq_of [] = None
seq_of (hyphen ∷ text) = part_of text

-- the two parts of an id as one number
abbrev pub both : Option ℕ → Option ℕ → Option ℕ
both None seq = None
both (Some ms) None = None
both (Some ms) (Some seq) = Some (ms * 18446744073709551616 + seq)

-- the number of an id as servers write it. The numbers ascend in the order of a stream
abbrev pub number_of : List ℕ → Option ℕ
number_of text = both (part_of (before 45 text)) (seq_of (from 45 text))

-- the law: two ids with equal numbers are equal
abbrev pub NumbersTell : Type 0
NumbersTell = (a b : List ℕ) (n : ℕ) → number_of a ≡ Some n → number_of b ≡ Some n → a ≡ b
