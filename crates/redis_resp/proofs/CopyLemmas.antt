-- A list of copies that grows by one.
use Rattle.std.proofs.Common.{◌≡◌, ℕ, ◌+◌, ◌-◌, ◌<◌, List, [], ◌∷◌, ◌++◌, length, get_or, take, map, sym, ap, ◌∙◌}
use Rattle.std.proofs.Common.{arith, append_assoc}
use Rattle.std.proofs.lemmas.List.{length-append, map_more, map_push, set_at}
use Rattle.std.specs.Prelude.{set}

module _ {A B : Type 0} (f : A → B) where
  -- a value is appended to the others, and then overwritten
  pub written_last : (xs ys : List A) (y a : A) (n : ℕ) → ys ≡ xs ++ y ∷ [] → n ≡ length ys
      → map f (set ys (n - 1) a) ≡ map f xs ++ f a ∷ []
  written_last xs ys y a n grown end =
      let at : length xs ≡ n - 1 = omega (arith, end, ap length grown, length-append xs (y ∷ [])) in
      let written : set ys (n - 1) a ≡ xs ++ a ∷ [] = ap (λ zs. set zs (n - 1) a) grown ∙ set_at xs y [] a (n - 1) at in
      ap (map f) written ∙ map_push f xs a

  taken_one : (from : List A) (i : ℕ) (x : A) → i < length from → x ≡ get_or from i x
      → map f (take (i + 1) from) ≡ map f (take i from) ++ f x ∷ []
  taken_one from i x lt is = map_more f from i x lt ∙ ap (λ z. map f (take i from) ++ z ∷ []) (ap f (sym is))

  -- `to` is `start` and copies of the first i items of `from`; `new` is `to` and a copy of the next item
  -- after them
  pub copied_more : (from start to new : List A) (x : A) (i : ℕ) → i < length from → x ≡ get_or from i x
      → map f to ≡ map f start ++ map f (take i from) → map f new ≡ map f to ++ f x ∷ []
      → map f new ≡ map f start ++ map f (take (i + 1) from)
  copied_more from start to new x i lt is so_far grown =
      grown
      ∙ ap (λ zs. zs ++ f x ∷ []) so_far
      ∙ append_assoc (map f start) (map f (take i from)) (f x ∷ [])
      ∙ ap (λ zs. map f start ++ zs) (sym (taken_one from i x lt is))
