-- The checksum as the remainder of a division of polynomials over bits.
use Rattle.std.specs.Prelude.{◌≡◌, ℕ, ◌+◌, ◌*◌, ◌/◌, ◌%◌, ◌==◌, if◌then◌else◌, List, [], ◌∷◌, ◌++◌, bit_xor, flat_map}
use Rattle.std.specs.List.{fold}
use Rattle.redis_client.specs.Cluster.Crc.{bit_of, crc16}

-- The next bit is brought down after the remainder. If the term x^16 is present, the polynomial
-- x^16 + x^12 + x^5 + 1 is subtracted.
unfoldable pub divided : ℕ → ℕ → ℕ
divided left bit = if left / 0x8000 == 0 then 2 * (left % 0x8000) + bit
    else bit_xor (2 * (left % 0x8000) + bit) 0x1021

-- the remainder of these bits, from the highest on
abbrev pub remainder : List ℕ → ℕ
remainder bits = fold divided 0 bits

-- the bits of a byte, from the highest on
abbrev pub bits_of : ℕ → List ℕ
bits_of byte = bit_of byte 0 ∷ bit_of byte 1 ∷ bit_of byte 2 ∷ bit_of byte 3 ∷ bit_of byte 4 ∷ bit_of byte 5
    ∷ bit_of byte 6 ∷ bit_of byte 7 ∷ []

-- times x^16
abbrev pub sixteen_zeros : List ℕ
sixteen_zeros = 0 ∷ 0 ∷ 0 ∷ 0 ∷ 0 ∷ 0 ∷ 0 ∷ 0 ∷ 0 ∷ 0 ∷ 0 ∷ 0 ∷ 0 ∷ 0 ∷ 0 ∷ 0 ∷ []

-- the checksum is the remainder of the message times x^16
abbrev pub ChecksumIsRemainder : Type 0
ChecksumIsRemainder = (bytes : List ℕ) → crc16 bytes ≡ remainder (flat_map bits_of bytes ++ sixteen_zeros)
