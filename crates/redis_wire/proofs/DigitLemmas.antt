-- Digits at the start of bytes, and the lengths and numbers that they write.
use Rattle.std.proofs.Common.{◌≡◌, ◌==◌, ◌+◌, ◌-◌, ◌*◌, ◌<◌, ◌≤◌, ◌^◌, ℕ, pos, true, false, List, [], ◌∷◌, ◌++◌, length}
use Rattle.std.proofs.Common.{Some, Ok, codes, refl, sym, ap, ◌∙◌, arith, append_assoc, append-nil}
use Rattle.std.specs.Str.{all_ascii_digits, bytes_eq}
use Rattle.std.specs.Int.{IsInRange}
use Rattle.std.specs.List.{list_all}
use Rattle.std.proofs.lemmas.Bool.{lt-ltb, le-ltb, false_from_ne_true, eqb-true}
use Rattle.std.proofs.lemmas.List.{length-append}
use Rattle.std.proofs.lemmas.Str.{digit_value_digit}
use Rattle.std.proofs.lemmas.Str.Parse.{IsNumeralModel, numerals_by_weight, tells_all_ascii_digits}
use Rattle.std.proofs.lemmas.Int.Digits.{digits_push, digits_value_push}
use Rattle.redis_resp.specs.Number.{number_of_digits, numeral, signed_of, unsigned_of, signed_within}
use Rattle.redis_wire.specs.declared.limits.Limits.{Limits}
use Rattle.redis_wire.specs.Reading.{is_inner, line_at}
use Rattle.redis_wire.specs.Decimal.{is_signed}
use Rattle.redis_wire.specs.Scalar.{number_of, length_of}
use Rattle.redis_wire.specs.Level.{length_at}
use Rattle.redis_wire.specs.Packed.{crlf}
use Rattle.redis_wire.specs.Digits.{AreDigits, DigitsAt}
use Rattle.redis_wire.proofs.FitsLemmas.{line_fits}

pub own : IsNumeralModel (λ ds. all_ascii_digits ds ≡ true) number_of_digits
own = numerals_by_weight _ tells_all_ascii_digits number_of_digits (record { empty = refl; more = λ c cs k. refl })

-- nothing was read yet
pub no_digits : (bytes : List ℕ) → DigitsAt bytes 0 bytes
no_digits bytes = record { digits = []; is = refl; are = record { each = refl; weighs = refl } }

push_digit : (ds : List ℕ) (n d : ℕ) → AreDigits ds n → IsInRange 48 57 d → AreDigits (ds ++ d ∷ []) (10 * n + (d - 48))
push_digit ds n d h r =
    let value = digit_value_digit d r in
    let all = digits_push 10 ds d (own.to ds h.each) (omega (arith, value)) in
    record {
      each = own.from (ds ++ d ∷ []) all;
      weighs =
          omega (
            arith,
            own.same (ds ++ d ∷ []) all,
            digits_value_push 10 ds d,
            own.same ds (own.to ds h.each),
            h.weighs,
            value,
          );
    }

-- one more digit
pub one_digit_more : (bytes rest behind : List ℕ) (n d : ℕ) → DigitsAt bytes n rest → rest ≡ d ∷ behind
    → IsInRange 48 57 d → DigitsAt bytes (10 * n + (d - 48)) behind
one_digit_more bytes rest behind n d h is r = record {
  digits = h.digits ++ d ∷ [];
  is = h.is ∙ ap (λ (xs : List ℕ). h.digits ++ xs) is ∙ sym (append_assoc h.digits (d ∷ []) behind);
  are = push_digit h.digits n d h.are r;
}

apart : (c k : ℕ) → IsInRange 48 57 c → (c ≡ k → ⊥) → (c == k) ≡ false
apart c k r h = false_from_ne_true _ (λ e. h (eqb-true c k e))

-- digits are neither signs nor line ends
pub inner_digits : (ds : List ℕ) → all_ascii_digits ds ≡ true → list_all is_inner ds ≡ true
inner_digits [] h = refl
inner_digits (c ∷ cs) h =
    let p = tells_all_ascii_digits.parts c cs h in
    let r : IsInRange 48 57 c = p.0 in
    let a : (c == 13) ≡ false = apart c 13 r (λ e. omega arith) in
    let b : (c == 10) ≡ false = apart c 10 r (λ e. omega arith) in
    rw (a, b, inner_digits cs p.1) refl

-- digits, at least one, write their number
numeral_is : (ds : List ℕ) (n : ℕ) → 0 < length ds → AreDigits ds n → numeral ds ≡ Some n
unfolding numeral
numeral_is ds n some h = rw (lt-ltb 0 (length ds) some, h.each, h.weighs) refl

signed_digits : (ds : List ℕ) (n : ℕ) → 0 < length ds → AreDigits ds n → signed_of ds ≡ Some (pos n)
unfolding signed_of unsigned_of
signed_digits [] n some h = absurd (omega (arith, some))
signed_digits (c ∷ cs) n some h =
    let r : IsInRange 48 57 c = (tells_all_ascii_digits.parts c cs h.each).0 in
    let a : (c == 45) ≡ false = apart c 45 r (λ e. omega arith) in
    let b : (c == 43) ≡ false = apart c 43 r (λ e. omega arith) in
    rw (a, b, numeral_is (c ∷ cs) n some h) refl

not_streamed : (ds : List ℕ) (n : ℕ) → AreDigits ds n → bytes_eq ds (codes "?") ≡ false
not_streamed [] n h = refl
not_streamed (c ∷ cs) n h =
    let r : IsInRange 48 57 c = (tells_all_ascii_digits.parts c cs h.each).0 in
    let a : (c == 63) ≡ false = apart c 63 r (λ e. omega arith) in
    rw a refl

not_none : (ds : List ℕ) (n : ℕ) → AreDigits ds n → bytes_eq ds (codes "-1") ≡ false
not_none [] n h = refl
not_none (c ∷ cs) n h =
    let r : IsInRange 48 57 c = (tells_all_ascii_digits.parts c cs h.each).0 in
    let a : (c == 45) ≡ false = apart c 45 r (λ e. omega arith) in
    rw a refl

unsigned : (ds : List ℕ) (n : ℕ) → AreDigits ds n → is_signed ds ≡ false
unfolding is_signed
unsigned [] n h = refl
unsigned (c ∷ cs) n h =
    let r : IsInRange 48 57 c = (tells_all_ascii_digits.parts c cs h.each).0 in
    let a : (c == 45) ≡ false = apart c 45 r (λ e. omega arith) in
    let b : (c == 43) ≡ false = apart c 43 r (λ e. omega arith) in
    rw (a, b) refl

within_signed : (n : ℕ) → n < 2 ^ 63 → signed_within 63 (pos n) ≡ Some (pos n)
unfolding signed_within
within_signed n h = rw (lt-ltb n (2 ^ 63) h) refl

pub number_of_digits_is : (ds : List ℕ) (n : ℕ) → 0 < length ds → AreDigits ds n → n < 2 ^ 63
    → number_of ds ≡ Some (pos n)
unfolding number_of
number_of_digits_is ds n some h small = rw (signed_digits ds n some h, within_signed n small) refl

pub length_of_digits : (limit : ℕ) (ds : List ℕ) (n : ℕ) → 0 < length ds → AreDigits ds n → n ≤ limit → n < 2 ^ 63
    → length_of limit ds ≡ Ok (Some n)
unfolding length_of
length_of_digits limit ds n some h le small =
    rw (
      not_streamed ds n h,
      not_none ds n h,
      unsigned ds n h,
      number_of_digits_is ds n some h small,
      le-ltb limit n le,
    ) refl

-- a line of only digits is their number
pub number_is : (line : List ℕ) (n : ℕ) → DigitsAt line n [] → 0 < length line → n < 2 ^ 63
    → number_of line ≡ Some (pos n)
number_is line n h some small =
    let same : line ≡ h.digits = h.is ∙ append-nil h.digits in
    let more : 0 < length h.digits = omega (arith, some, ap length same) in
    rw same (number_of_digits_is h.digits n more h.are small)

-- a line of only digits is a length
pub length_is : (limits : Limits) (bytes behind rest : List ℕ) (n : ℕ) → DigitsAt bytes n behind
    → behind ≡ 13 ∷ 10 ∷ rest
    → length behind < length bytes → length bytes ≤ limits.line + length behind → n ≤ limits.length → n < 2 ^ 63
    → length_at limits bytes ≡ Ok (Some n, rest)
unfolding length_at
length_is limits bytes behind rest n h is some within le small =
    let long : length bytes ≡ length h.digits + length behind = ap length h.is ∙ length-append h.digits behind in
    let more : 0 < length h.digits = omega (arith, some, long) in
    let text : bytes ≡ (h.digits ++ crlf) ++ rest = h.is ∙ ap (λ (xs : List ℕ). h.digits ++ xs) is
    ∙ sym (append_assoc h.digits crlf rest) in
    let line : line_at limits.line ((h.digits ++ crlf) ++ rest) ≡ Ok (h.digits, rest) =
    (line_fits limits.line).again (h.digits ++ crlf) rest h.digits
    (record { is = refl; inner = inner_digits h.digits h.are.each; within = omega (arith, within, long) }) in
    rw (text, line, length_of_digits limits.length h.digits n more h.are le small) refl

-- ---- one or two digits

module _ (limits : Limits) (bytes rest : List ℕ) (length_fits : 99 ≤ limits.length) (line_fits : 2 ≤ limits.line) where
  pub one_digit_is : (a : ℕ) → bytes ≡ a ∷ 13 ∷ 10 ∷ rest → IsInRange 48 57 a
      → length_at limits bytes ≡ Ok (Some (a - 48), rest)
  one_digit_is a is r =
      let h = one_digit_more bytes bytes (13 ∷ 10 ∷ rest) 0 a (no_digits bytes) is r in
      let n : 10 * 0 + (a - 48) ≡ a - 48 = omega arith in
      let le : 10 * 0 + (a - 48) ≤ 9 = omega (arith, r) in
      length_is limits bytes (13 ∷ 10 ∷ rest) rest (10 * 0 + (a - 48)) h refl (omega (arith, ap length is))
      (omega (arith, ap length is)) (omega (arith, le)) (omega (arith, le))
      ∙ ap (λ (m : ℕ). Ok (Some m, rest)) n

  pub two_digits_are : (a b : ℕ) → bytes ≡ a ∷ b ∷ 13 ∷ 10 ∷ rest → IsInRange 48 57 a → IsInRange 48 57 b
      → length_at limits bytes ≡ Ok (Some (10 * (a - 48) + (b - 48)), rest)
  two_digits_are a b is r q =
      let g = one_digit_more bytes bytes (b ∷ 13 ∷ 10 ∷ rest) 0 a (no_digits bytes) is r in
      let h = one_digit_more bytes (b ∷ 13 ∷ 10 ∷ rest) (13 ∷ 10 ∷ rest) (10 * 0 + (a - 48)) b g refl q in
      let m : ℕ = 10 * (10 * 0 + (a - 48)) + (b - 48) in
      let n : m ≡ 10 * (a - 48) + (b - 48) = omega arith in
      let le : m ≤ 99 = omega (arith, r, q) in
      length_is limits bytes (13 ∷ 10 ∷ rest) rest m h refl (omega (arith, ap length is)) (omega (arith, ap length is))
      (omega (arith, le)) (omega (arith, le))
      ∙ ap (λ (k : ℕ). Ok (Some k, rest)) n
