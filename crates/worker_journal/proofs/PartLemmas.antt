-- Bytes from an offset on, of the committed bytes and of those that are added after them.
use Rattle.std.proofs.Common.{◌≡◌, ◌≤◌, ◌+◌, ◌-◌, ◌∙◌, inl, inr, ℕ, zero, suc, List, [], ◌∷◌, ◌++◌, length}
use Rattle.std.proofs.Common.{take, drop, Option, Some, None, IfSome, refl, sym, ap, arith}
use Rattle.std.proofs.Math.Seq.{drop-append-add}
use Rattle.std.proofs.lemmas.Bool.{cases_lt}
use Rattle.std.proofs.lemmas.List.{drop-append-le, length-drop}
use Rattle.worker_journal.specs.Holds.{committed_in}
use Rattle.worker_journal.proofs.LastLinesLemmas.{piece_of}

take_over : (n : ℕ) (xs ys : List ℕ) → take n (xs ++ ys) ≡ take n xs ++ take (n - length xs) ys
take_over zero [] ys = refl
take_over (suc n) [] ys = let all : suc n ≡ suc n - 0 = omega arith in ap (λ (k : ℕ). take k ys) all
take_over zero (x ∷ xs) ys = let none : zero - suc (length xs) ≡ 0 = omega arith in ap (λ (k : ℕ). take k ys) (sym none)
take_over (suc n) (x ∷ xs) ys =
    let less : suc n - suc (length xs) ≡ n - length xs = omega arith in
    ap (λ (zs : List ℕ). x ∷ zs) (take_over n xs ys) ∙ ap (λ (k : ℕ). x ∷ (take n xs ++ take k ys)) (sym less)

-- as many as there are, of this number
as_many : (n c : ℕ) (xs : List ℕ) → c ≤ n → c ≤ length xs → n - c ≡ n - length xs → take c xs ≡ take n xs
as_many zero zero xs le within is = refl
as_many (suc n) zero [] le within is = refl
as_many (suc n) zero (x ∷ xs) le within is = absurd (omega (arith, is))
as_many zero (suc c) xs le within is = absurd (omega (arith, le))
as_many (suc n) (suc c) [] le within is = refl
as_many (suc n) (suc c) (x ∷ xs) le within is =
    ap (λ (ys : List ℕ). x ∷ ys) (as_many n c xs (omega (arith, le)) (omega (arith, within)) (omega (arith, is)))

-- the bytes after the end of the first ones
behind_all : (xs ys : List ℕ) (at : ℕ) → length xs ≤ at → drop at (xs ++ ys) ≡ drop (at - length xs) ys
behind_all xs ys at le =
    let is : at ≡ length xs + (at - length xs) = omega (arith, le) in
    ap (λ (k : ℕ). drop k (xs ++ ys)) is ∙ drop-append-add xs ys (at - length xs)

one_file : (file batch front : List ℕ) (len at n c : ℕ) → c ≤ n → c ≤ len - at → n - c ≡ n - (len - at)
    → len ≡ length (take len file) → front ≡ take c (drop at file)
    → front ++ take (n - c) (drop (at - len) batch) ≡ take n (drop at (take len file ++ batch))
one_file file batch front len at n c le within is whole read = elim (cases_lt at len) [
  | inl first ↦
      let bytes = take len file in
      let rest : len - at ≡ length (drop at bytes) = omega (arith, whole, length-drop at bytes) in
      let none : at - len ≡ 0 = omega (arith, first) in
      let same : front ≡ take n (drop at bytes) = read ∙ sym (piece_of len at c file (omega (arith, first, within)))
      ∙ as_many n c (drop at bytes) le (omega (arith, within, rest)) (omega (arith, is, rest)) in
      let left : n - c ≡ n - length (drop at bytes) = omega (arith, is, rest) in
      ap (λ (xs : List ℕ). xs ++ take (n - c) (drop (at - len) batch)) same
      ∙ ap (λ (k : ℕ). take n (drop at bytes) ++ take (n - c) (drop k batch)) none
      ∙ ap (λ (k : ℕ). take n (drop at bytes) ++ take k batch) left
      ∙ sym (take_over n (drop at bytes) batch)
      ∙ ap (take n) (sym (drop-append-le at bytes batch (omega (arith, first, whole))))
  | inr later ↦
      let bytes = take len file in
      let none : c ≡ 0 = omega (arith, within, later) in
      let all : n - c ≡ n = omega (arith, none) in
      let from : at - len ≡ at - length bytes = omega (arith, whole) in
      ap (λ (xs : List ℕ). xs ++ take (n - c) (drop (at - len) batch)) (read ∙ ap (λ (k : ℕ). take k (drop at file)) none)
      ∙ ap (λ (k : ℕ). take k (drop (at - len) batch)) all
      ∙ ap (λ (k : ℕ). take n (drop k batch)) from
      ∙ ap (take n) (sym (behind_all bytes batch at (omega (arith, later, whole))))
]

pub both_parts : (known : Option (List ℕ)) (batch front all : List ℕ) (len at n c : ℕ) → c ≤ n → c ≤ len - at
    → n - c ≡ n - (len - at) → IfSome known (λ file. front ≡ take c (drop at file))
    → all ≡ front ++ take (n - c) (drop (at - len) batch)
    → IfSome (committed_in known len) (λ bytes. len ≡ length bytes → all ≡ take n (drop at (bytes ++ batch)))
both_parts None batch front all len at n c le within is read joined = tt
both_parts (Some file) batch front all len at n c le within is read joined = λ whole.
    joined ∙ one_file file batch front len at n c le within is whole read
