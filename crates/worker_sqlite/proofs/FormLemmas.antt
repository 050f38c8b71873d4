-- Texts that are put together from left to right.
use Rattle.std.proofs.Common.{◌≡◌, ◌∙◌, ap, ℕ, List, ◌++◌, append_assoc, Result, Ok, Err}
use Rattle.std.specs.Prelude.{OnOk}

-- one more text after another
joined : (o a b r s : List ℕ) → r ≡ o ++ a → s ≡ r ++ b → s ≡ o ++ (a ++ b)
joined o a b r s p q = q ∙ ap (λ (t : List ℕ). t ++ b) p ∙ append_assoc o a b

-- four texts
pub four : (o a b c d p q r s : List ℕ) → p ≡ o ++ a → q ≡ p ++ b → r ≡ q ++ c → s ≡ r ++ d
    → s ≡ o ++ (a ++ (b ++ (c ++ d)))
four o a b c d p q r s first second third fourth =
    joined o a (b ++ (c ++ d)) p s first (joined p b (c ++ d) q s second (joined q c d r s third fourth))

-- five texts
pub five : (o a b c d e p q r s t : List ℕ) → p ≡ o ++ a → q ≡ p ++ b → r ≡ q ++ c → s ≡ r ++ d → t ≡ s ++ e
    → t ≡ o ++ (a ++ (b ++ (c ++ (d ++ e))))
five o a b c d e p q r s t first second third fourth fifth =
    joined o a (b ++ (c ++ (d ++ e))) p t first (four p b c d e q r s t second third fourth fifth)

-- what follows of an Ok
pub then_ok : {A E P Q : Type 0} (r : Result A E) → (P → Q) → OnOk r P → OnOk r Q
then_ok (Ok x) follows p = follows p
then_ok (Err e) follows p = tt
