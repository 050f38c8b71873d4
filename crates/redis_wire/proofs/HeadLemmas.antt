-- The first byte of a value, a length of one or two digits, and the text after it.
use Rattle.std.proofs.Common.{◌≡◌, ◌≤◌, ◌+◌, ◌-◌, ◌*◌, ◌∙◌, ℕ, zero, suc, List, [], ◌∷◌, length, take, drop, slice_index, Some}
use Rattle.std.proofs.Common.{Ok, false, refl, arith, le-ltb, nat_lt}
use Rattle.std.specs.Int.{IsInRange}
use Rattle.std.proofs.lemmas.List.{length-drop, drop-drop}
use Rattle.redis_wire.specs.declared.limits.Limits.{Limits}
use Rattle.redis_wire.specs.Reading.{blob_at, before_crlf}
use Rattle.redis_wire.specs.Place.{BeginsWithHead}
use Rattle.redis_wire.proofs.DigitLemmas.{one_digit_is, two_digits_are}

-- the two elements at an offset, and those after them
pub two_at : (xs : List ℕ) (at a b : ℕ) → at + 2 ≤ length xs → slice_index xs at ≡ a → slice_index xs (suc at) ≡ b
    → drop at xs ≡ a ∷ b ∷ drop (suc (suc at)) xs
two_at [] at a b h p q = absurd (omega arith)
two_at (x ∷ []) zero a b h p q = absurd (omega arith)
two_at (x ∷ y ∷ xs) zero a b h p q = rw (← p, ← q) refl
two_at (x ∷ xs) (suc n) a b h p q = two_at xs n a b (omega arith) p q

first_four : (xs : List ℕ) (a b c d : ℕ) → 4 ≤ length xs → slice_index xs 0 ≡ a → slice_index xs 1 ≡ b
    → slice_index xs 2 ≡ c → slice_index xs 3 ≡ d → xs ≡ a ∷ b ∷ c ∷ d ∷ drop 4 xs
first_four [] a b c d h p q r s = absurd (omega arith)
first_four (x ∷ []) a b c d h p q r s = absurd (omega arith)
first_four (x ∷ y ∷ []) a b c d h p q r s = absurd (omega arith)
first_four (x ∷ y ∷ z ∷ []) a b c d h p q r s = absurd (omega arith)
first_four (x ∷ y ∷ z ∷ w ∷ xs) a b c d h p q r s = rw (← p, ← q, ← r, ← s) refl

first_five : (xs : List ℕ) (a b c d e : ℕ) → 5 ≤ length xs → slice_index xs 0 ≡ a → slice_index xs 1 ≡ b
    → slice_index xs 2 ≡ c → slice_index xs 3 ≡ d → slice_index xs 4 ≡ e → xs ≡ a ∷ b ∷ c ∷ d ∷ e ∷ drop 5 xs
first_five [] a b c d e h p q r s t = absurd (omega arith)
first_five (x ∷ []) a b c d e h p q r s t = absurd (omega arith)
first_five (x ∷ y ∷ []) a b c d e h p q r s t = absurd (omega arith)
first_five (x ∷ y ∷ z ∷ []) a b c d e h p q r s t = absurd (omega arith)
first_five (x ∷ y ∷ z ∷ w ∷ []) a b c d e h p q r s t = absurd (omega arith)
first_five (x ∷ y ∷ z ∷ w ∷ v ∷ xs) a b c d e h p q r s t = rw (← p, ← q, ← r, ← s, ← t) refl

-- ---- a length of one digit or two

module _ (limits : Limits) (bytes : List ℕ) (first : ℕ) (length_fits : 99 ≤ limits.length) (line_fits : 2 ≤ limits.line)
    (kind : slice_index bytes 0 ≡ first) (digit : IsInRange 48 57 (slice_index bytes 1)) where
  pub one_digit_begins : 4 ≤ length bytes → slice_index bytes 2 ≡ 13 → slice_index bytes 3 ≡ 10
      → BeginsWithHead limits bytes first (Some (slice_index bytes 1 - 48)) (drop 4 bytes)
  one_digit_begins long cr lf = record {
    behind = slice_index bytes 1 ∷ 13 ∷ 10 ∷ drop 4 bytes;
    is = first_four bytes first (slice_index bytes 1) 13 10 long kind refl cr lf;
    len = one_digit_is limits (slice_index bytes 1 ∷ 13 ∷ 10 ∷ drop 4 bytes) (drop 4 bytes) length_fits line_fits
        (slice_index bytes 1) refl digit;
  }

  pub two_digits_begin : 5 ≤ length bytes → IsInRange 48 57 (slice_index bytes 2) → slice_index bytes 3 ≡ 13
      → slice_index bytes 4 ≡ 10
      → BeginsWithHead limits bytes first (Some (10 * (slice_index bytes 1 - 48) + (slice_index bytes 2 - 48)))
      (drop 5 bytes)
  two_digits_begin long second cr lf = record {
    behind = slice_index bytes 1 ∷ slice_index bytes 2 ∷ 13 ∷ 10 ∷ drop 5 bytes;
    is = first_five bytes first (slice_index bytes 1) (slice_index bytes 2) 13 10 long kind refl refl cr lf;
    len = two_digits_are limits (slice_index bytes 1 ∷ slice_index bytes 2 ∷ 13 ∷ 10 ∷ drop 5 bytes) (drop 5 bytes)
        length_fits line_fits (slice_index bytes 1) (slice_index bytes 2) refl digit second;
  }

-- ---- a text and its end

-- the text of `n` bytes at `start`, before CR LF
pub blob_is : (bytes : List ℕ) (start n : ℕ) → drop (start + n) bytes ≡ 13 ∷ 10 ∷ drop (start + n + 2) bytes
    → start + n + 2 ≤ length bytes → blob_at n (drop start bytes) ≡ Ok (take n (drop start bytes), drop (start + n + 2) bytes)
unfolding blob_at before_crlf
blob_is bytes start n ends room =
    let tail : drop n (drop start bytes) ≡ 13 ∷ 10 ∷ drop (start + n + 2) bytes = drop-drop n start bytes ∙ ends in
    let enough : nat_lt (length (drop start bytes)) n ≡ false =
    le-ltb (length (drop start bytes)) n (omega (arith, length-drop start bytes, room)) in
    rw (enough, tail) refl
