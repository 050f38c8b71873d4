-- Which lines bytes have, by the test of the model.
use Rattle.std.proofs.Common.{◌≡◌, ◌⊎◌, inl, inr, refl, sym, ap, subst, ◌∙◌, ℕ, Bool, true, false, ◌&&◌, ◌||◌, ◌==◌, arith}
use Rattle.std.proofs.Common.{List, [], ◌∷◌, ◌++◌, append_assoc}
use Rattle.std.proofs.lemmas.Bool.Decides.{nat_tests}
use Rattle.worker_journal.specs.Lines.{HasNoEnd, AreLines}
use Rattle.model_server.proofs.GroupLemmas.Among.{and_left, and_right}
use Rattle.model_workers.specs.Files.Files.{begins, has_line_from}
use Rattle.model_workers.specs.Files.Law.{IsLineIn}
use Rattle.model_workers.proofs.FilesLemmas.Whole.{lines_tail}

-- ---- what the test finds is a line

begun : (xs bs : List ℕ) → begins xs bs ≡ true → (rest : List ℕ) × (bs ≡ xs ++ rest)
begun [] bs h = (bs, refl)
begun (x ∷ xs) [] h = absurd (let t : false ≡ true = h in cc)
begun (x ∷ xs) (b ∷ bs) h =
    let test : (x == b) ≡ true = and_left (x == b) (begins xs bs) h in
    let same : x ≡ b = grind (arith, nat_tests) in
    let more = begun xs bs (and_right (x == b) (begins xs bs) h) in
    (more.0, ap (λ z. z ∷ bs) (sym same) ∙ ap (λ zs. x ∷ zs) more.1)

-- the bytes have the line, and before it nothing, or bytes that end with a line feed
record Found (at_once : Bool) (line bytes : List ℕ) : Type 0 where
  front : List ℕ
  rest : List ℕ
  is : bytes ≡ front ++ (line ++ 10 ∷ rest)
  place : ((at_once ≡ true) × (front ≡ [])) ⊎ ((fs : List ℕ) × (front ≡ fs ++ 10 ∷ []))

one_of : (x y : Bool) → (x || y) ≡ true → (x ≡ true) ⊎ (y ≡ true)
one_of true y h = inl refl
one_of false y h = inr h

found : (at_once : Bool) (line bytes : List ℕ) → has_line_from at_once line bytes ≡ true → Found at_once line bytes
found at_once line [] h = absurd (let t : false ≡ true = h in cc)
found at_once line (b ∷ bs) h =
    elim (one_of (at_once && begins (line ++ 10 ∷ []) (b ∷ bs)) (has_line_from (b == 10) line bs) h) [
      | inl here ↦
          (let g = begun (line ++ 10 ∷ []) (b ∷ bs) (and_right at_once (begins (line ++ 10 ∷ []) (b ∷ bs)) here) in
          record {
            front = [];
            rest = g.0;
            is = g.1 ∙ append_assoc line (10 ∷ []) g.0;
            place = inl (and_left at_once (begins (line ++ 10 ∷ []) (b ∷ bs)) here, refl);
          })
      | inr later ↦
          (let f = found (b == 10) line bs later in
          record {
            front = b ∷ f.front;
            rest = f.rest;
            is = ap (λ zs. b ∷ zs) f.is;
            place = inr (elim f.place [
              | inl p ↦
                  (let test : (b == 10) ≡ true = p.0 in
                  let same : b ≡ 10 = grind (arith, nat_tests) in
                  ([], ap (λ zs. b ∷ zs) p.1 ∙ ap (λ z. z ∷ []) same))
              | inr q ↦ (b ∷ q.0, ap (λ zs. b ∷ zs) q.1)
            ]);
          })
    ]

pub is_line : (line bytes : List ℕ) → HasNoEnd line → has_line_from true line bytes ≡ true → IsLineIn line bytes
is_line line bytes none h =
    let f = found true line bytes h in
    let before : AreLines f.front = elim f.place [ inl p ↦ inl p.1 | inr q ↦ inr q ] in
    (f.front, f.rest, before, none, f.is)

-- ---- the test finds each line

begins_with_it : (xs rest : List ℕ) → begins xs (xs ++ rest) ≡ true
begins_with_it [] rest = refl
begins_with_it (x ∷ xs) rest =
    let test : (x == x) ≡ true = grind (arith, nat_tests) in
    ap (λ t. t && begins xs (xs ++ rest)) test ∙ begins_with_it xs rest

or_true : (x y : Bool) → y ≡ true → (x || y) ≡ true
or_true true y h = refl
or_true false y h = h

ends_alone : (b : ℕ) → AreLines (b ∷ []) → b ≡ 10
ends_alone b (inl none) = absurd (cc none)
ends_alone b (inr ([], q)) = let t : b ≡ 10 = cc q in t
ends_alone b (inr (f ∷ [], q)) = absurd (cc q)
ends_alone b (inr (f ∷ (g ∷ fs), q)) = absurd (cc q)

at_the_start : (line rest : List ℕ) → has_line_from true line (line ++ 10 ∷ rest) ≡ true
at_the_start [] rest = refl
at_the_start (x ∷ xs) rest =
    let same : (x ∷ xs) ++ 10 ∷ rest ≡ ((x ∷ xs) ++ 10 ∷ []) ++ rest = sym (append_assoc (x ∷ xs) (10 ∷ []) rest) in
    let here : begins ((x ∷ xs) ++ 10 ∷ []) ((x ∷ xs) ++ 10 ∷ rest) ≡ true =
    ap (begins ((x ∷ xs) ++ 10 ∷ [])) same ∙ begins_with_it ((x ∷ xs) ++ 10 ∷ []) rest in
    ap (λ t. t || has_line_from (x == 10) (x ∷ xs) (xs ++ 10 ∷ rest)) here

finds : (at_once : Bool) (front line rest : List ℕ) → (front ≡ [] → at_once ≡ true) → AreLines front
    → has_line_from at_once line (front ++ (line ++ 10 ∷ rest)) ≡ true
finds at_once [] line rest start are =
    ap (λ t. has_line_from t line (line ++ 10 ∷ rest)) (start refl) ∙ at_the_start line rest
finds at_once (b ∷ bs) line rest start are =
    let next : bs ≡ [] → (b == 10) ≡ true =
    λ q. (let same : b ≡ 10 = ends_alone b (let P : List ℕ → Type 0 = λ zs. AreLines (b ∷ zs) in
    subst P q are) in grind (arith, nat_tests)) in
    or_true _ _ (finds (b == 10) bs line rest next (lines_tail b bs are))

pub test_finds : (line bytes : List ℕ) → IsLineIn line bytes → has_line_from true line bytes ≡ true
test_finds line bytes h =
    ap (has_line_from true line) h.4 ∙ finds true h.0 line h.1 (λ q. refl) h.2
