-- One line more.
use Rattle.std.proofs.Common.{◌≡◌, ◌↔◌, ℕ, ◌+◌, ◌<◌, Bool, true, false, IsTrue, All, List, [], ◌∷◌, ◌++◌, length, take}
use Rattle.std.proofs.Common.{get_or, Option, Some, None, sym, ◌∙◌, ap, subst, arith, append_assoc, append-nil, add-one}
use Rattle.std.proofs.Common.{suc, lit<, length-append, ◌⊎◌, inl, inr, true≢false}
use Rattle.std.specs.List.{flat_map}
use Rattle.std.specs.Io.KnownBytes.{Appends}
use Rattle.std.proofs.Math.Seq.{take-suc}
use Rattle.std.proofs.lemmas.Grind.{flat_map-append}
use Rattle.std.proofs.lemmas.List.{get_or_append_left}
use Rattle.std.proofs.lemmas.List.Elements.{All-more}

appends_both : (a b c : Option (List ℕ)) (xs ys : List ℕ) → Appends a b xs → Appends b c ys → Appends a c (xs ++ ys)
appends_both None b c xs ys p q = tt
appends_both (Some s) None c xs ys p q = absurd p
appends_both (Some s) (Some t) None xs ys p q = absurd q
appends_both (Some s) (Some t) (Some u) xs ys p q = q ∙ ap (λ r. r ++ ys) p ∙ append_assoc s xs ys

first_part : {X : Type 0} (P : X → Type 0) (xs ys : List X) → All P (xs ++ ys) → All P xs
first_part P xs ys h = λ k d lt. subst P (get_or_append_left xs ys d k lt)
    (h k d (omega (arith, lt, length-append xs ys)))

last_part : {X : Type 0} (P : X → Type 0) (xs : List X) (x : X) → All P (xs ++ x ∷ []) → P x
last_part P [] x h = h 0 x (lit< tt)
last_part P (y ∷ xs) x h = last_part P xs x (λ k d lt. h (suc k) d (omega (arith, lt)))

module _ {X : Type 0} (xs : List X) (i : ℕ) (x : X) (within : i < length xs) (is : x ≡ get_or xs i x) where
  take_more : take (i + 1) xs ≡ take i xs ++ x ∷ []
  take_more = rw add-one (take-suc xs i x within ∙ ap (λ y. take i xs ++ y ∷ []) (sym is))

  -- the texts of the elements so far, and that of the next
  pub appends_more : (f : X → List ℕ) (a b c : Option (List ℕ)) → Appends a b (flat_map f (take i xs))
      → Appends b c (f x) → Appends a c (flat_map f (take (i + 1) xs))
  appends_more f a b c p q =
      subst (Appends a c)
      (sym (ap (flat_map f) take_more ∙ flat_map-append f (take i xs) (x ∷ [])
      ∙ ap (λ t. flat_map f (take i xs) ++ t) (append-nil (f x))))
      (appends_both a b c (flat_map f (take i xs)) (f x) p q)

  -- the elements so far, and the next
  pub all_more : (P : X → Type 0) → All P (take i xs) → P x → All P (take (i + 1) xs)
  all_more P h p = All-more P xs i x within h (subst P is p)

  -- the converse
  pub all_fewer : (P : X → Type 0) → All P (take (i + 1) xs) → All P (take i xs) × P x
  all_fewer P h =
      let parts : All P (take i xs ++ x ∷ []) = subst (All P) take_more h in
      (first_part P (take i xs) (x ∷ []) parts, last_part P (take i xs) x parts)

  -- whether all so far pass, with one more seen
  pub passes_more : (P : X → Type 0) (here before after : Bool)
      → ((here ≡ true) × (after ≡ before)) ⊎ ((here ≡ false) × (after ≡ false))
      → (IsTrue before ↔ All P (take i xs)) → (IsTrue here ↔ P x) → IsTrue after ↔ All P (take (i + 1) xs)
  passes_more P here before after (inl h) so_far one =
      (λ t. all_more P (so_far.0 (sym h.1 ∙ t)) (one.0 h.0), λ all. h.1 ∙ so_far.1 (all_fewer P all).0)
  passes_more P here before after (inr h) so_far one =
      (λ t. absurd (true≢false (sym t ∙ h.1)), λ all. absurd (true≢false (sym (one.1 (all_fewer P all).1) ∙ h.0)))
