-- The known ids and the offsets of their lines.
use Rattle.std.specs.Prelude.{◌≡◌, ◌<◌, ◌≤◌, ◌+◌, ◌*◌, ◌==◌, ◌&&◌, ◌||◌, length, get_or, map, Result, MatchResult, ℕ, List, Bool}
use Rattle.std.specs.Prelude.{false, Option, Some, None, Vec}
use Rattle.std.specs.List.{list_any}
use Rattle.std.specs.Str.{bytes_eq}
use Rattle.std.specs.Vec.{vec_capacity, vec_len}
use Rattle.std.specs.declared.alloc.Global.{Global}
use Rattle.worker_journal.specs.KnownIds.Number.{number_of}
use Rattle.worker_journal.specs.declared.known_ids.known.KnownId.{KnownId}

-- the number of an id, and the offset of its line
abbrev pub Place : Type 0
Place = ℕ × ℕ

-- the number of a known id, of 128 bits
abbrev pub number_in : KnownId → ℕ
number_in id = id.ms * 18446744073709551616 + id.seq

-- the number of a known id, and the offset of its line
abbrev pub place_in : KnownId → Place
place_in id = (number_in id, id.place)

-- the numbers of all known ids, and the offsets of their lines
abbrev pub places_in : List KnownId → List Place
places_in ids = map place_in ids

-- whether the number `n` is in the list
abbrev pub has : List Place → ℕ → Bool
has places n = list_any (λ p. p.0 == n) places

-- whether a line of the number `n` begins at the offset `at`
abbrev pub has_at : List Place → ℕ → ℕ → Bool
has_at places n at = list_any (λ p. (p.0 == n) && (p.1 == at)) places

-- whether the number is in the list. An id without a number is not
abbrev pub has_number : List Place → Option ℕ → Bool
has_number places None = false
has_number places (Some n) = has places n

-- whether the id with this text is known
abbrev pub knows : List Place → List ℕ → Bool
knows places id = has_number places (number_of id)

-- `new` has the numbers of `old` and the number `number`
abbrev pub HasOneMore : List Place → List Place → ℕ → Type 0
HasOneMore old new number = (n : ℕ) → has new n ≡ (number == n || has old n)

-- `new` has the numbers of `old` with their offsets, and `number` with the offset `place`
abbrev pub HasPlaceToo : List Place → List Place → ℕ → ℕ → Type 0
HasPlaceToo old new number place =
    (n at : ℕ) → has_at new n at ≡ (((number == n) && (place == at)) || has_at old n at)

-- the vector has capacity for one more id
abbrev pub HasRoom : Vec KnownId Global → Type 0
HasRoom ids = vec_len ids < vec_capacity ids

-- the id that a read past the end of a list returns
abbrev pub no_id : KnownId
no_id = record { ms = 0; seq = 0; place = 0 }

-- the number at the index `i` of the list
abbrev pub number_at : List KnownId → ℕ → ℕ
number_at ids i = number_in (get_or ids i no_id)

-- as `slice::binary_search`: `Ok(i)` is the index of `n`, and `Err(i)` is the index where `n` would be inserted
abbrev pub IsFound : List KnownId → ℕ → Result ℕ ℕ → Type 0
IsFound ids n r = MatchResult r (λ i. (i < length ids) × (number_at ids i ≡ n))
    (λ i. (i ≤ length ids) × ((k : ℕ) → k < i → number_at ids k < n)
    × ((k : ℕ) → i ≤ k → k < length ids → n < number_at ids k))

-- `n` may be inserted at the index `at`: no number before it is greater than `n`, and none from there on is
-- less
pub record IsGap (ids : List KnownId) (n at : ℕ) : Type 0 where
  pub within : at ≤ length ids
  pub before : (k : ℕ) → k < at → number_at ids k ≤ n
  pub behind : (k : ℕ) → at ≤ k → k < length ids → n ≤ number_at ids k

-- the law: after one more number is added, its id and all earlier ids are known, and no other id
abbrev pub KnowsOneMore : Type 0
KnowsOneMore = (old new : List Place) (id : List ℕ) (n : ℕ) → number_of id ≡ Some n → HasOneMore old new n
    → (other : List ℕ) → knows new other ≡ (bytes_eq id other || knows old other)
