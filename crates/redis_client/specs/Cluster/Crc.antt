-- CRC-16/XMODEM: the remainder of a message as a polynomial over bits, with 16 zeros after it, divided by x^16 + x^12
-- + x^5 + 1.
use Rattle.std.specs.Prelude.{ℕ, zero, suc, ◌-◌, ◌*◌, ◌/◌, ◌%◌, ◌^◌, ◌==◌, if◌then◌else◌, List, bit_xor, fold}

-- One bit more: the remainder is shifted by one bit. The term x^16 is present if the highest bit was set or
-- the bit of the message is one, but not both. If so, the polynomial is subtracted; 0x1021 is its rest.
unfoldable pub with_bit : ℕ → ℕ → ℕ
with_bit crc bit = if crc / 0x8000 == bit then 2 * (crc % 0x8000) else bit_xor (2 * (crc % 0x8000)) 0x1021

-- the bit at an index of a byte, from the highest, at 0, to the lowest, at 7
abbrev pub bit_of : ℕ → ℕ → ℕ
bit_of byte place = byte / 2 ^ (7 - place) % 2

-- extended by the first bits of a byte
unfoldable pub with_bits : ℕ → ℕ → ℕ → ℕ
with_bits crc byte zero = crc
with_bits crc byte (suc n) = with_bit (with_bits crc byte n) (bit_of byte n)

-- extended by one byte
abbrev pub with_byte : ℕ → ℕ → ℕ
with_byte crc byte = with_bits crc byte 8

-- the checksum of these bytes
abbrev pub crc16 : List ℕ → ℕ
crc16 bytes = fold with_byte 0 bytes
