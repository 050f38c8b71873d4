-- Texts as they are written in lines.
use Rattle.std.proofs.Common.{◌≡◌, ◌≢◌, ◌<◌, inl, inr, ℕ, suc, List, [], ◌∷◌, ◌++◌, length, take, get_or, refl, sym}
use Rattle.std.proofs.Common.{◌∙◌, ap, subst, arith, append-nil}
use Rattle.std.proofs.lemmas.Bool.{cases_eq}
use Rattle.std.proofs.lemmas.Bool.Decides.{nat_tests}
use Rattle.std.specs.List.{AllByRecursion}
use Rattle.std.proofs.Math.Seq.{take-suc}
use Rattle.std.proofs.lemmas.Grind.{flat_map-append}
use Rattle.worker_journal.specs.Escape.{escaped, escaped_byte, unescaped, IsPlain}

-- one byte more
pub escaped_more : (text : List ℕ) (i : ℕ) → i < length text
    → escaped (take (suc i) text) ≡ escaped (take i text) ++ escaped_byte (get_or text i 0)
escaped_more text i lt = ap escaped (take-suc text i 0 lt) ∙ flat_map-append escaped_byte (take i text)
    (get_or text i 0 ∷ []) ∙ ap (λ xs. escaped (take i text) ++ xs) (append-nil (escaped_byte (get_or text i 0)))

-- ---- out of a line

plain_byte : (b : ℕ) → b ≢ 92 → b ≢ 9 → b ≢ 10 → b ≢ 13 → escaped_byte b ≡ b ∷ []
plain_byte b n92 n9 n10 n13 = grind (arith, nat_tests)

one_back : (b : ℕ) (xs : List ℕ) → b ≢ 92 → unescaped (b ∷ xs) ≡ b ∷ unescaped xs
one_back b [] n92 = refl
one_back b (c ∷ rest) n92 = grind (arith, nat_tests)

module _ (xs : List ℕ) where
  abbrev Back : ℕ → Type 0
  Back b = unescaped (escaped_byte b ++ xs) ≡ b ∷ unescaped xs

  byte_back : (b : ℕ) → Back b
  byte_back b = elim (cases_eq b 92) [
    | inl is ↦ subst Back (sym is) refl
    | inr n92 ↦ elim (cases_eq b 9) [
      | inl is ↦ subst Back (sym is) refl
      | inr n9 ↦ elim (cases_eq b 10) [
        | inl is ↦ subst Back (sym is) refl
        | inr n10 ↦ elim (cases_eq b 13) [
          | inl is ↦ subst Back (sym is) refl
          | inr n13 ↦ ap (λ ys. unescaped (ys ++ xs)) (plain_byte b n92 n9 n10 n13) ∙ one_back b xs n92
        ]
      ]
    ]
  ]

pub text_back : (text : List ℕ) → unescaped (escaped text) ≡ text
text_back [] = refl
text_back (b ∷ bs) = byte_back (escaped bs) b ∙ ap (λ xs. b ∷ xs) (text_back bs)

-- ---- no separator

backslash : IsPlain 92
backslash = (omega arith, omega arith, omega arith)

module _ (xs : List ℕ) (plain : AllByRecursion IsPlain xs) where
  abbrev Plain : ℕ → Type 0
  Plain b = AllByRecursion IsPlain (escaped_byte b ++ xs)

  byte_plain : (b : ℕ) → Plain b
  byte_plain b = elim (cases_eq b 92) [
    | inl is ↦ subst Plain (sym is) (backslash, (backslash, plain))
    | inr n92 ↦ elim (cases_eq b 9) [
      | inl is ↦ subst Plain (sym is) (backslash, ((omega arith, omega arith, omega arith), plain))
      | inr n9 ↦ elim (cases_eq b 10) [
        | inl is ↦ subst Plain (sym is) (backslash, ((omega arith, omega arith, omega arith), plain))
        | inr n10 ↦ elim (cases_eq b 13) [
          | inl is ↦ subst Plain (sym is) (backslash, ((omega arith, omega arith, omega arith), plain))
          | inr n13 ↦ subst (λ ys. AllByRecursion IsPlain (ys ++ xs)) (sym (plain_byte b n92 n9 n10 n13))
              ((n9, n10, n13), plain)
        ]
      ]
    ]
  ]

pub text_plain : (text : List ℕ) → AllByRecursion IsPlain (escaped text)
text_plain [] = tt
text_plain (b ∷ bs) = byte_plain (escaped bs) (text_plain bs) b
