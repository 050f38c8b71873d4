-- Numbers in words and in the matches of clap, and a last name.
use Rattle.std.proofs.Common.{◌≡◌, ◌<◌, ◌≤◌, ◌^◌, ◌∙◌, subst, ℕ, List, None, Option, Some, arith, refl, sym, ◌∷◌, [], ap, get_or, length, map}
use Rattle.std.specs.Borrow.{Bor}
use Rattle.std.specs.Str.Parse.{IsNumeral, ParsesUnsigned, digits_value, without_leading_plus}
use Rattle.clap.specs.Words.{ReadsOne}
use Rattle.command_lines.specs.Said.{IsNumberOf}
use Rattle.command_lines.specs.Numbers.{IsNumberIn, number_of}
use Rattle.command_lines.specs.Words.{Text}

-- the number of an option is the one that is read from its text
pub number_is : (E : Type 0) (text : Option (List ℕ)) (least most n found : ℕ)
    → ((t : List ℕ) → text ≡ Some t → IsNumberIn least most t → n ≡ number_of t)
    → (text ≡ None → Some found ≡ None)
    → ((t : List ℕ) → text ≡ Some t → ReadsOne {T = ℕ} {E = E} (λ s r. ParsesUnsigned 64 10 s r) t (Some found))
    → least ≤ found → found ≤ most → n ≡ found
number_is E None least most n found is none reads low high = let h : Some found ≡ None = none refl in cc
number_is E (Some t) least most n found is none reads low high =
    let h : (IsNumeral 10 (without_leading_plus t) × (digits_value 10 (without_leading_plus t) < 2 ^ 64))
    × (found ≡ number_of t) = reads t refl in
    let low' : least ≤ number_of t = omega (arith, h.1) in
    let high' : number_of t ≤ most = omega (arith, h.1) in
    is t refl (h.0.0, h.0.1, low', high') ∙ sym h.1

-- the words have the number that clap found
pub number_said : (E : Type 0) (one : Option (List ℕ)) (text wanted : List ℕ) (least most said found n : ℕ)
    → (IsNumeral 10 (without_leading_plus text) × (digits_value 10 (without_leading_plus text) < 2 ^ 64))
    × (said ≡ digits_value 10 (without_leading_plus text))
    → text ≡ wanted → said ≡ found → least ≤ said → said ≤ most
    → ((t : List ℕ) → one ≡ Some t → IsNumberIn least most t → n ≡ number_of t)
    → (one ≡ None → Some found ≡ None)
    → ((t : List ℕ) → one ≡ Some t → ReadsOne {T = ℕ} {E = E} (λ s r. ParsesUnsigned 64 10 s r) t (Some found))
    → IsNumberOf least most wanted n
number_said E one text wanted least most said found n parsed same equal low high is none reads =
    let low' : least ≤ number_of text = omega (arith, parsed.1) in
    let high' : number_of text ≤ most = omega (arith, parsed.1) in
    let range : IsNumberIn least most text = (parsed.0.0, parsed.0.1, low', high') in
    let value : n ≡ number_of text = number_is E one least most n found is none reads (omega (arith, equal))
    (omega (arith, equal)) ∙ (sym equal ∙ parsed.1) in
    record {
      in_range = subst (λ (t : List ℕ). IsNumberIn least most t) same range;
      value = subst (λ (t : List ℕ). n ≡ number_of t) same value;
    }

-- one name
pub one_name : (xs : List (Bor Text)) (d : Bor Text) (a : Text) → 1 ≤ length xs → length xs < 2 → (get_or xs 0 d).now ≡ a
    → map (λ (x : Bor Text). x.now) xs ≡ a ∷ []
one_name [] d a some few is = absurd (omega arith)
one_name (x ∷ []) d a some few is = ap (λ (t : Text). t ∷ []) is
one_name (x ∷ y ∷ xs) d a some few is = absurd (omega arith)
