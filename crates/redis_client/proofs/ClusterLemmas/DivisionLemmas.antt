-- The checksum as the remainder of a division.
use Rattle.std.proofs.Common.{◌≡◌, ◌<◌, ◌⊎◌, ◌+◌, ◌-◌, ◌*◌, ◌/◌, ◌%◌, ◌^◌, ℕ, zero, suc, List, [], ◌∷◌, ◌++◌, refl, sym, ◌∙◌, ap, arith, inl, inr}
use Rattle.std.specs.Prelude.{bit_xor}
use Rattle.std.specs.List.{fold, flat_map}
use Rattle.std.specs.Int.Bits.{xor_assoc, xor_self, xor_zero_l, xor_zero_r}
use Rattle.std.proofs.lemmas.Bool.{cases_eq}
use Rattle.std.proofs.lemmas.Nat.{xor_comm, xor_lt, xor_shr, xor_mod, xor_block}
use Rattle.redis_client.specs.Cluster.Crc.{with_bit, with_bits, with_byte, bit_of}
use Rattle.redis_client.specs.Cluster.Division.{divided, bits_of, sixteen_zeros, ChecksumIsRemainder}

-- a bit
abbrev IsBit : ℕ → Type 0
IsBit b = (b ≡ 0) ⊎ (b ≡ 1)

-- the polynomial without x^16, if the bit is one
abbrev taken : ℕ → ℕ
taken b = 0x1021 * b

-- what is shifted out, and what is left shifted
abbrev top : ℕ → ℕ
top r = r / 2 ^ 15

abbrev low : ℕ → ℕ
low r = 2 * (r % 2 ^ 15)

top_is_bit : (r : ℕ) → r < 2 ^ 16 → IsBit (top r)
top_is_bit r small = elim (cases_eq (top r) 0) [
  | inl none ↦ inl none
  | inr some ↦ inr (omega arith)
]

remainder_is_bit : (n : ℕ) → IsBit (n % 2)
remainder_is_bit n = elim (cases_eq (n % 2) 0) [
  | inl none ↦ inl none
  | inr some ↦ inr (omega arith)
]

-- times x
abbrev shifted : ℕ → ℕ
shifted r = with_bit r 0

shifted_at : (r t : ℕ) → top r ≡ t → IsBit t → shifted r ≡ bit_xor (low r) (taken t)
unfolding with_bit
shifted_at r t is (inl z) = let e : top r ≡ 0 = is ∙ z in rw z (rw e (sym (xor_zero_r (low r))))
shifted_at r t is (inr o) = let e : top r ≡ 1 = is ∙ o in rw o (rw e refl)

shifted_is : (r : ℕ) → r < 2 ^ 16 → shifted r ≡ bit_xor (low r) (taken (top r))
shifted_is r small = shifted_at r (top r) refl (top_is_bit r small)

-- ---- sums are sums of bits

four : (a b c d : ℕ) → bit_xor (bit_xor a b) (bit_xor c d) ≡ bit_xor (bit_xor a c) (bit_xor b d)
four a b c d =
    xor_assoc a b (bit_xor c d)
    ∙ ap (bit_xor a) (sym (xor_assoc b c d) ∙ ap (λ x. bit_xor x d) (xor_comm b c) ∙ xor_assoc c b d)
    ∙ sym (xor_assoc a c (bit_xor b d))

twice : (a b : ℕ) → 2 * bit_xor a b ≡ bit_xor (2 * a) (2 * b)
twice a b =
    let block : bit_xor (a * 2 ^ 1 + 0) (b * 2 ^ 1 + 0) ≡ bit_xor a b * 2 ^ 1 + bit_xor 0 0 =
    xor_block 1 a b 0 0 (omega arith) (omega arith) in
    let left : a * 2 ^ 1 + 0 ≡ 2 * a = omega arith in
    let right : b * 2 ^ 1 + 0 ≡ 2 * b = omega arith in
    let whole : bit_xor a b * 2 ^ 1 + 0 ≡ 2 * bit_xor a b = omega arith in
    sym whole ∙ sym block ∙ ap (λ x. bit_xor x (b * 2 ^ 1 + 0)) left ∙ ap (bit_xor (2 * a)) right

taken_sum : (t u : ℕ) → IsBit t → IsBit u → taken (bit_xor t u) ≡ bit_xor (taken t) (taken u)
taken_sum t u (inl a) (inl b) = rw a (rw b refl)
taken_sum t u (inl a) (inr b) = rw a (rw b refl)
taken_sum t u (inr a) (inl b) = rw a (rw b refl)
taken_sum t u (inr a) (inr b) = rw a (rw b refl)

low_sum : (r s : ℕ) → low (bit_xor r s) ≡ bit_xor (low r) (low s)
low_sum r s = ap (λ x. 2 * x) (xor_mod r s 15) ∙ twice (r % 2 ^ 15) (s % 2 ^ 15)

shifted_sum : (r s : ℕ) → r < 2 ^ 16 → s < 2 ^ 16 → shifted (bit_xor r s) ≡ bit_xor (shifted r) (shifted s)
shifted_sum r s rs ss =
    shifted_is (bit_xor r s) (xor_lt 16 r s rs ss)
    ∙ ap (λ x. bit_xor x (taken (top (bit_xor r s)))) (low_sum r s)
    ∙ ap (λ x. bit_xor (bit_xor (low r) (low s)) (taken x)) (xor_shr r s 15)
    ∙ ap (bit_xor (bit_xor (low r) (low s))) (taken_sum (top r) (top s) (top_is_bit r rs) (top_is_bit s ss))
    ∙ four (low r) (low s) (taken (top r)) (taken (top s))
    ∙ ap (λ x. bit_xor x (bit_xor (low s) (taken (top s)))) (sym (shifted_is r rs))
    ∙ ap (bit_xor (shifted r)) (sym (shifted_is s ss))

taken_small : (t : ℕ) → IsBit t → taken t < 2 ^ 16
taken_small t (inl a) = rw a (omega arith)
taken_small t (inr a) = rw a (omega arith)

low_small : (r : ℕ) → low r < 2 ^ 16
low_small r = omega arith

shifted_small : (r : ℕ) → r < 2 ^ 16 → shifted r < 2 ^ 16
shifted_small r small =
    rw (shifted_is r small) (xor_lt 16 (low r) (taken (top r)) (low_small r) (taken_small (top r) (top_is_bit r small)))

-- ---- one bit more, in both ways

with_bit_at : (r t b : ℕ) → top r ≡ t → IsBit t → IsBit b → with_bit r b ≡ bit_xor (bit_xor (low r) (taken t)) (taken b)
unfolding with_bit
with_bit_at r t b is (inl z) (inl y) = let e : top r ≡ 0 = is ∙ z in
    rw z (rw y (rw e (sym (xor_zero_r (bit_xor (low r) 0) ∙ xor_zero_r (low r)))))
with_bit_at r t b is (inl z) (inr y) = let e : top r ≡ 0 = is ∙ z in
    rw z (rw y (rw e (ap (λ x. bit_xor x 0x1021) (sym (xor_zero_r (low r))))))
with_bit_at r t b is (inr z) (inl y) = let e : top r ≡ 1 = is ∙ z in
    rw z (rw y (rw e (sym (xor_zero_r (bit_xor (low r) 0x1021)))))
with_bit_at r t b is (inr z) (inr y) = let e : top r ≡ 1 = is ∙ z in
    rw z (rw y (rw e (sym (xor_assoc (low r) 0x1021 0x1021 ∙ ap (bit_xor (low r)) (xor_self 0x1021) ∙ xor_zero_r (low r)))))

with_bit_is : (r b : ℕ) → r < 2 ^ 16 → IsBit b → with_bit r b ≡ bit_xor (shifted r) (taken b)
with_bit_is r b small bit = with_bit_at r (top r) b refl (top_is_bit r small) bit
    ∙ ap (λ x. bit_xor x (taken b)) (sym (shifted_is r small))

beside : (m b : ℕ) → IsBit b → 2 * m + b ≡ bit_xor (2 * m) b
beside m b bit =
    let small : b < 2 ^ 1 = elim bit [ inl z ↦ rw z (omega arith) | inr o ↦ rw o (omega arith) ] in
    let block : bit_xor (m * 2 ^ 1 + 0) (0 * 2 ^ 1 + b) ≡ bit_xor m 0 * 2 ^ 1 + bit_xor 0 b =
    xor_block 1 m 0 0 b (omega arith) small in
    let left : m * 2 ^ 1 + 0 ≡ 2 * m = omega arith in
    let right : 0 * 2 ^ 1 + b ≡ b = omega arith in
    let whole : bit_xor m 0 * 2 ^ 1 + bit_xor 0 b ≡ 2 * m + b =
    rw (xor_zero_r m) (rw (xor_zero_l b) (omega arith)) in
    sym whole ∙ sym block ∙ ap (λ x. bit_xor x (0 * 2 ^ 1 + b)) left ∙ ap (bit_xor (2 * m)) right

divided_at : (r t b : ℕ) → top r ≡ t → IsBit t → IsBit b → divided r b ≡ bit_xor (bit_xor (low r) (taken t)) b
unfolding divided
divided_at r t b is (inl z) bit = let e : top r ≡ 0 = is ∙ z in
    rw z (rw e (beside (r % 2 ^ 15) b bit ∙ ap (λ x. bit_xor x b) (sym (xor_zero_r (low r)))))
divided_at r t b is (inr z) bit = let e : top r ≡ 1 = is ∙ z in
    rw z (rw e (ap (λ x. bit_xor x 0x1021) (beside (r % 2 ^ 15) b bit)
    ∙ xor_assoc (low r) b 0x1021 ∙ ap (bit_xor (low r)) (xor_comm b 0x1021) ∙ sym (xor_assoc (low r) 0x1021 b)))

divided_is : (r b : ℕ) → r < 2 ^ 16 → IsBit b → divided r b ≡ bit_xor (shifted r) b
divided_is r b small bit = divided_at r (top r) b refl (top_is_bit r small) bit
    ∙ ap (λ x. bit_xor x b) (sym (shifted_is r small))

bit_small : (b : ℕ) → IsBit b → b < 2 ^ 16
bit_small b (inl z) = rw z (omega arith)
bit_small b (inr o) = rw o (omega arith)

divided_small : (r b : ℕ) → r < 2 ^ 16 → IsBit b → divided r b < 2 ^ 16
divided_small r b small bit =
    rw (divided_is r b small bit) (xor_lt 16 (shifted r) b (shifted_small r small) (bit_small b bit))

-- ---- zeros after

-- times x, this number of times
abbrev times : ℕ → ℕ → ℕ
times zero r = r
times (suc n) r = times n (shifted r)

times_small : (n r : ℕ) → r < 2 ^ 16 → times n r < 2 ^ 16
times_small zero r small = small
times_small (suc n) r small = times_small n (shifted r) (shifted_small r small)

times_sum : (n r s : ℕ) → r < 2 ^ 16 → s < 2 ^ 16 → times n (bit_xor r s) ≡ bit_xor (times n r) (times n s)
times_sum zero r s rs ss = refl
times_sum (suc n) r s rs ss = ap (times n) (shifted_sum r s rs ss)
    ∙ times_sum n (shifted r) (shifted s) (shifted_small r rs) (shifted_small s ss)

times_shifted : (n r : ℕ) → times n (shifted r) ≡ shifted (times n r)
times_shifted zero r = refl
times_shifted (suc n) r = times_shifted n (shifted r)

-- times x^16
abbrev raised : ℕ → ℕ
raised r = times 16 r

raised_bit : (b : ℕ) → IsBit b → raised b ≡ taken b
unfolding with_bit
raised_bit b (inl z) = rw z refl
raised_bit b (inr o) = rw o refl

raised_divided : (r b : ℕ) → r < 2 ^ 16 → IsBit b → raised (divided r b) ≡ with_bit (raised r) b
raised_divided r b small bit =
    ap raised (divided_is r b small bit)
    ∙ times_sum 16 (shifted r) b (shifted_small r small) (bit_small b bit)
    ∙ ap (λ x. bit_xor x (raised b)) (times_shifted 16 r)
    ∙ ap (bit_xor (shifted (raised r))) (raised_bit b bit)
    ∙ sym (with_bit_is (raised r) b (times_small 16 r small) bit)

-- ---- all bits

abbrev AreBits : List ℕ → Type 0
AreBits [] = Unit {0}
AreBits (b ∷ bits) = IsBit b × AreBits bits

left_small : (bits : List ℕ) (r : ℕ) → r < 2 ^ 16 → AreBits bits → fold divided r bits < 2 ^ 16
left_small [] r small are = small
left_small (b ∷ bits) r small are = left_small bits (divided r b) (divided_small r b small are.0) are.1

raised_fold : (bits : List ℕ) (r : ℕ) → r < 2 ^ 16 → AreBits bits
    → fold with_bit (raised r) bits ≡ raised (fold divided r bits)
raised_fold [] r small are = refl
raised_fold (b ∷ bits) r small are =
    ap (λ x. fold with_bit x bits) (sym (raised_divided r b small are.0))
    ∙ raised_fold bits (divided r b) (divided_small r b small are.0) are.1

-- this number of zeros
abbrev zeros : ℕ → List ℕ
zeros zero = []
zeros (suc n) = 0 ∷ zeros n

fold_zeros : (n r : ℕ) → r < 2 ^ 16 → fold divided r (zeros n) ≡ times n r
fold_zeros zero r small = refl
fold_zeros (suc n) r small =
    ap (λ x. fold divided x (zeros n)) (divided_is r 0 small (inl refl) ∙ xor_zero_r (shifted r))
    ∙ fold_zeros n (shifted r) (shifted_small r small)

fold_join : (f : ℕ → ℕ → ℕ) (xs ys : List ℕ) (a : ℕ) → fold f a (xs ++ ys) ≡ fold f (fold f a xs) ys
fold_join f [] ys a = refl
fold_join f (x ∷ xs) ys a = fold_join f xs ys (f a x)

-- ---- bytes

byte_bits : (crc byte : ℕ) → with_byte crc byte ≡ fold with_bit crc (bits_of byte)
unfolding with_bits
byte_bits crc byte = refl

all_bits : (bytes : List ℕ) (crc : ℕ) → fold with_byte crc bytes ≡ fold with_bit crc (flat_map bits_of bytes)
all_bits [] crc = refl
all_bits (byte ∷ bytes) crc =
    ap (λ x. fold with_byte x bytes) (byte_bits crc byte)
    ∙ all_bits bytes (fold with_bit crc (bits_of byte))
    ∙ sym (fold_join with_bit (bits_of byte) (flat_map bits_of bytes) crc)

joined_bits : (xs ys : List ℕ) → AreBits xs → AreBits ys → AreBits (xs ++ ys)
joined_bits [] ys ax ay = ay
joined_bits (x ∷ xs) ys ax ay = (ax.0, joined_bits xs ys ax.1 ay)

is_bit_of : (byte place : ℕ) → IsBit (bit_of byte place)
is_bit_of byte place = remainder_is_bit (byte / 2 ^ (7 - place))

byte_are_bits : (byte : ℕ) → AreBits (bits_of byte)
byte_are_bits byte = (
  is_bit_of byte 0,
  (
    is_bit_of byte 1,
    (
      is_bit_of byte 2,
      (
        is_bit_of byte 3,
        (
          is_bit_of byte 4,
          (is_bit_of byte 5, (is_bit_of byte 6, (is_bit_of byte 7, tt))),
        ),
      ),
    ),
  ),
)

are_bits : (bytes : List ℕ) → AreBits (flat_map bits_of bytes)
are_bits [] = tt
are_bits (byte ∷ bytes) = joined_bits (bits_of byte) (flat_map bits_of bytes) (byte_are_bits byte) (are_bits bytes)

pub checksum_is_remainder : ChecksumIsRemainder
checksum_is_remainder bytes =
    let bits = flat_map bits_of bytes in
    let small : 0 < 2 ^ 16 = omega arith in
    let are = are_bits bytes in
    all_bits bytes 0
    ∙ ap (λ x. fold with_bit x bits) (sym (raised_bit 0 (inl refl)))
    ∙ raised_fold bits 0 small are
    ∙ sym (fold_zeros 16 (fold divided 0 bits) (left_small bits 0 small are))
    ∙ sym (fold_join divided bits sixteen_zeros 0)
