-- The positions of values in bytes.
use Rattle.std.specs.Prelude.{◌≡◌, ◌≤◌, ◌+◌, ◌⊎◌, ℕ, suc, List, [], ◌∷◌, length, take, drop, pos, Option, Some, None}
use Rattle.std.specs.Prelude.{Ok}
use Rattle.redis_resp.specs.Tree.{nil, int, bulk}
use Rattle.redis_wire.specs.declared.limits.Limits.{Limits}
use Rattle.redis_wire.specs.declared.kind.GroupKind.TheVariants.{Array, Map}
use Rattle.redis_wire.specs.declared.place.Span.{Span}
use Rattle.redis_wire.specs.Reading.{line_at, blob_at}
use Rattle.redis_wire.specs.Scalar.{number_of}
use Rattle.redis_wire.specs.Reply.{value}
use Rattle.redis_wire.specs.Level.{length_at, group_body_at, value_at}

-- the text at this position
abbrev pub text_in : List ℕ → Span → List ℕ
text_in bytes span = take span.len (drop span.start bytes)

-- a text within the bytes
abbrev pub IsSpan : List ℕ → Span → Type 0
IsSpan bytes span = span.start + span.len ≤ length bytes

-- At offset `at` there is this first byte, and after it a line with a length, or with the -1 of a
-- null. The line ends at offset `after`.
pub record IsHeadAt (limits : Limits) (bytes : List ℕ) (at first : ℕ) (n : Option ℕ) (after : ℕ) : Type 0 where
  pub behind : List ℕ
  pub is : drop at bytes ≡ first ∷ behind
  pub len : length_at limits behind ≡ Ok (n, drop after bytes)
  pub end : after ≤ length bytes

-- The same for a line.
pub record IsLineAt (limits : Limits) (bytes : List ℕ) (at first : ℕ) (line : List ℕ) (after : ℕ) : Type 0 where
  pub behind : List ℕ
  pub is : drop at bytes ≡ first ∷ behind
  pub reads : line_at limits.line behind ≡ Ok (line, drop after bytes)
  pub end : after ≤ length bytes

-- At offset `at` there is a bulk string of this text, at whatever depth. It ends at offset
-- `after`.
pub record IsTextAt (limits : Limits) (bytes : List ℕ) (at : ℕ) (span : Span) (after : ℕ) : Type 0 where
  pub within : IsSpan bytes span
  pub end : after ≤ length bytes
  pub reads : (d : ℕ) → value_at limits (suc d) (drop at bytes)
      ≡ Ok (value (bulk (text_in bytes span)), drop after bytes)

-- At offset `at` there is the header of an array of `count` members, which ends at offset
-- `after`.
pub record IsArrayAt (limits : Limits) (bytes : List ℕ) (at count after : ℕ) : Type 0 where
  pub end : after ≤ length bytes
  pub reads : (d : ℕ) → value_at limits (suc d) (drop at bytes)
      ≡ group_body_at (value_at limits d) Array (Some count) (drop after bytes)

-- The same for a map of `count` pairs.
pub record IsMapAt (limits : Limits) (bytes : List ℕ) (at count after : ℕ) : Type 0 where
  pub end : after ≤ length bytes
  pub reads : (d : ℕ) → value_at limits (suc d) (drop at bytes)
      ≡ group_body_at (value_at limits d) Map (Some count) (drop after bytes)

-- At offset `at` there is a nil, which ends at offset `after`.
pub record IsNilAt (limits : Limits) (bytes : List ℕ) (at after : ℕ) : Type 0 where
  pub end : after ≤ length bytes
  pub reads : (d : ℕ) → value_at limits (suc d) (drop at bytes) ≡ Ok (value nil, drop after bytes)

-- At offset `at` there is this number, which ends at offset `after`.
pub record IsIntAt (limits : Limits) (bytes : List ℕ) (at number after : ℕ) : Type 0 where
  pub end : after ≤ length bytes
  pub reads : (d : ℕ) → value_at limits (suc d) (drop at bytes) ≡ Ok (value (int (pos number)), drop after bytes)

-- ---- prefixes of bytes that must be found

-- this first byte, then a line with a length, or with the -1 of a null, and then the rest
pub record BeginsWithHead (limits : Limits) (bytes : List ℕ) (first : ℕ) (n : Option ℕ) (rest : List ℕ) : Type 0 where
  pub behind : List ℕ
  pub is : bytes ≡ first ∷ behind
  pub len : length_at limits behind ≡ Ok (n, rest)

-- the same for a line
pub record BeginsWithLine (limits : Limits) (bytes : List ℕ) (first : ℕ) (line rest : List ℕ) : Type 0 where
  pub behind : List ℕ
  pub is : bytes ≡ first ∷ behind
  pub reads : line_at limits.line behind ≡ Ok (line, rest)

-- a bulk string of this text
pub record BeginsWithText (limits : Limits) (bytes text rest : List ℕ) : Type 0 where
  pub len : ℕ
  pub body : List ℕ
  pub head : BeginsWithHead limits bytes 36 (Some len) body
  pub reads : blob_at len body ≡ Ok (text, rest)

-- the header of an array of `count` members
abbrev pub BeginsWithArray : Limits → List ℕ → ℕ → List ℕ → Type 0
BeginsWithArray limits bytes count rest = BeginsWithHead limits bytes 42 (Some count) rest

-- the header of a map of `count` pairs
abbrev pub BeginsWithMap : Limits → List ℕ → ℕ → List ℕ → Type 0
BeginsWithMap limits bytes count rest = BeginsWithHead limits bytes 37 (Some count) rest

-- nil: an array or a bulk string of length -1, or a null
abbrev pub BeginsWithNil : Limits → List ℕ → List ℕ → Type 0
BeginsWithNil limits bytes rest = BeginsWithHead limits bytes 42 None rest
    ⊎ (BeginsWithHead limits bytes 36 None rest ⊎ BeginsWithLine limits bytes 95 [] rest)

-- a number that is not negative
pub record BeginsWithInt (limits : Limits) (bytes : List ℕ) (number : ℕ) (rest : List ℕ) : Type 0 where
  pub line : List ℕ
  pub at : BeginsWithLine limits bytes 58 line rest
  pub says : number_of line ≡ Some (pos number)

-- the offset `after` is where the rest begins
abbrev pub EndsBefore : List ℕ → List ℕ → ℕ → Type 0
EndsBefore bytes rest after = drop after bytes ≡ rest
