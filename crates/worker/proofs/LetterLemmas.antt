-- Letters of a queue.
use Rattle.std.proofs.Common.{◌≡◌, ◌==◌, arith, eqb-true, refl, ap, ℕ, List, [], ◌∷◌, ◌++◌, codes, length, map, true, false}
use Rattle.worker.specs.Letters.{letter_of, reason_words}
use Rattle.worker.specs.declared.letters.Letter.{Letter}

pub posted : (ls : List Letter) (l : Letter) → map letter_of (ls ++ l ∷ []) ≡ map letter_of ls ++ letter_of l ∷ []
posted [] l = refl
posted (x ∷ xs) l = ap (λ r. letter_of x ∷ r) (posted xs l)

-- an empty reason
pub no_reason : (reason : List ℕ) → (length reason == 0) ≡ true → reason ≡ []
no_reason [] q = refl
no_reason (b ∷ text) q = let z : length (b ∷ text) ≡ 0 = eqb-true (length (b ∷ text)) 0 q in absurd (omega arith)

-- a reason that is not empty is a field
pub some_reason : (reason : List ℕ) → (length reason == 0) ≡ false → reason_words reason ≡ codes "reason" ∷ reason ∷ []
some_reason [] q = absurd (let z : true ≡ false = q in cc)
some_reason (b ∷ text) q = refl
