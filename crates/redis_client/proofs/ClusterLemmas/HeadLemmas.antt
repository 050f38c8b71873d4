-- What is after bytes at the head.
use Rattle.std.proofs.Common.{◌≡◌, ◌≢◌, ℕ, ◌+◌, List, ◌++◌, take, drop, length, refl, sym, ◌∙◌, ap, true, false, Option, Some, None, MatchOption, Bor}
use Rattle.std.proofs.lemmas.Bool.Decides.{Decides-eqb}
use Rattle.std.proofs.lemmas.List.{take-append-drop, take_at}
use Rattle.std.proofs.lemmas.Slice.Eq.{slice_eq-Decides}
use Rattle.std.specs.Bool.{Decides}
use Rattle.std.specs.Str.{bytes_eq}

decides : (xs ys : List ℕ) → Decides (bytes_eq xs ys) (xs ≡ ys)
decides xs ys = slice_eq-Decides Decides-eqb _ _ _ refl

-- what `strip_prefix` finds, and that it finds nothing only if nothing is
pub behind_head : (head bytes : List ℕ) (o : Option (Bor (List ℕ)))
    → MatchOption o (bytes_eq (take (length head) bytes) head ≡ false) (λ x.
    (bytes_eq (take (length head) bytes) head ≡ true) × (x.now ≡ drop (length head) bytes)
    × (length x.now + length head ≡ length bytes))
    → MatchOption o ((rest : List ℕ) → bytes ≢ head ++ rest) (λ x. bytes ≡ head ++ x.now)
behind_head head bytes None differ = λ rest is.
    let front : take (length head) bytes ≡ head = ap (take (length head)) is ∙ take_at head rest (length head) refl in
    let yes : bytes_eq (take (length head) bytes) head ≡ true = (decides (take (length head) bytes) head).1 front in
    let both : true ≡ false = sym yes ∙ differ in absurd cc
behind_head head bytes (Some x) found =
    sym (take-append-drop (length head) bytes)
    ∙ ap (λ xs. xs ++ drop (length head) bytes) ((decides (take (length head) bytes) head).0 found.0)
    ∙ ap (λ xs. head ++ xs) (sym found.1)
