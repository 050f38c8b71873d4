-- What is ASCII, and what is not text.
use Rattle.std.proofs.Common.{◌≡◌, ◌≤◌, ◌<◌, ◌+◌, ◌%◌, ◌^◌, ◌∙◌, ℕ, List, Bool, true, false, map, length, slice_index}
use Rattle.std.proofs.Common.{take, drop, replicate, refl, sym, ap, arith, w8, leb, eqb, cond, leb-false, eqb-true}
use Rattle.std.proofs.lemmas.List.{length-take, length-drop, length-map}
use Rattle.std.proofs.lemmas.Simd.{tops_compared, zip2_splat_left, mask_l-mod, none_from_empty_mask}
use lib.Lanes.{zip2, mask_l, top, chunk}
use Rattle.std.specs.Str.{is_utf8, IsUtf8}
use Rattle.std.proofs.lemmas.Str.{IsUtf8-from_is_utf8}

pub no_text : (bytes : List ℕ) → (IsUtf8 bytes → ⊥) → is_utf8 bytes ≡ false
no_text bytes h = by (is_utf8 bytes) refl
  where
    by : (b : Bool) → is_utf8 bytes ≡ b → b ≡ false
    by true e = absurd (h (IsUtf8-from_is_utf8 bytes e))
    by false e = refl

-- if no lane of the `n` bytes at an offset is at least 128, these bytes are ASCII
pub ascii_of_mask : (n : ℕ) → n ≤ 64 → (xs : List ℕ) (at : ℕ) → at + n ≤ length xs
    → eqb (mask_l (map (top 7) (zip2 (λ a b. cond (leb a b) 255 0) (replicate n 128) (take n (drop at xs)))) % 2 ^ 64) 0
    ≡ true
    → (i : ℕ) → at ≤ i → i < at + n → slice_index xs i < 128
ascii_of_mask n narrow xs at room is i ge lt =
    let lanes = chunk at n xs in
    let long : length lanes ≡ n = omega (arith, length-take n (drop at xs), length-drop at xs) in
    let compared : map (top 7) (zip2 (λ a b. cond (leb a b) 255 0) (replicate n 128) lanes) ≡ map (leb 128) lanes =
    tops_compared w8 leb (replicate n 128) lanes ∙ zip2_splat_left leb 128 n lanes long in
    let none : mask_l (map (leb 128) lanes) ≡ 0 =
    sym (mask_l-mod (map (leb 128) lanes) 64 (omega (arith, length-map lanes (leb 128), long)))
    ∙ ap (λ bits. mask_l bits % 2 ^ 64) (sym compared) ∙ eqb-true _ _ is in
    leb-false _ _ (none_from_empty_mask (leb 128) xs at n 0 room none i ge lt)
