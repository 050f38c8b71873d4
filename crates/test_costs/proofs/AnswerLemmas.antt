-- The bytes of the entries below a count after a header, when the count goes up by one.
use Rattle.std.proofs.Common.{◌≡◌, ◌+◌, ℕ, List, ◌++◌, sym, ap, ◌∙◌, append_assoc, append-nil}
use Rattle.test_costs.proofs.BelowLemmas.{below_none, below_next}
use Rattle.test_costs.specs.Below.{below}

-- the bytes of one more number are appended to those of the numbers so far
pub one_more : (f : ℕ → List ℕ) (n : ℕ) (head old new : List ℕ) → old ≡ head ++ below f n → new ≡ old ++ f n
    → new ≡ head ++ below f (n + 1)
one_more f n head old new so_far pushed =
    pushed ∙ ap (λ (xs : List ℕ). xs ++ f n) so_far ∙ append_assoc head (below f n) (f n)
    ∙ ap (λ (xs : List ℕ). head ++ xs) (sym (below_next f n))

pub none_yet : (f : ℕ → List ℕ) (head : List ℕ) → head ++ below f 0 ≡ head
none_yet f head = ap (λ (xs : List ℕ). head ++ xs) (below_none f) ∙ append-nil head
