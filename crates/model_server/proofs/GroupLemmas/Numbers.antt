-- The text of an id determines its two numbers.
use Rattle.std.proofs.Common.{◌≡◌, ◌⊎◌, inl, inr, refl, ap, ◌∙◌, ℕ, ◌+◌, ◌<◌, ◌≤◌, ◌^◌, ◌%◌, nat_lt, nat_eq}
use Rattle.std.proofs.Common.{decimal, arith, Bool, true, false, ◌&&◌, ◌||◌, List, [], ◌∷◌, ◌++◌}
use Rattle.std.proofs.lemmas.Fmt.{decimal_by_steps, decimal_injective}
use Rattle.model_server.specs.Group.Group.{Numbers, id_text, is_below, fits}
use Rattle.model_server.specs.Group.Law.{Among}
use Rattle.std.proofs.lemmas.Bool.{ltb-true, lt-ltb}
use Rattle.std.proofs.lemmas.Bool.Decides.{Decides-eqb}
use Rattle.model_server.proofs.GroupLemmas.Among.{among_split, and_left, and_right}

-- a digit is no dash
no_dash : (n : ℕ) → n < 2 ^ 64 → (d : ℕ) → Among d (decimal n) → 48 ≤ d
no_dash n h = decimal_by_steps (λ n ds. (d : ℕ) → Among d ds → 48 ≤ d)
    (λ n l d a. elim a [ inl e ↦ omega (arith, e) | inr z ↦ absurd z ])
    (λ n ds l old d a. elim (among_split d ds ((48 + n % 10) ∷ []) a) [
      | inl b ↦ old d b
      | inr b ↦ elim b [ inl e ↦ omega (arith, e) | inr z ↦ absurd z ]
    ])
    n h

-- two texts without a dash before the first dash of one text are the same
pub split_dash : (xs ys us vs : List ℕ) → ((d : ℕ) → Among d xs → 48 ≤ d) → ((d : ℕ) → Among d us → 48 ≤ d)
    → xs ++ 45 ∷ ys ≡ us ++ 45 ∷ vs → (xs ≡ us) × (ys ≡ vs)
split_dash [] ys [] vs h k e = (refl, let t : 45 ∷ ys ≡ 45 ∷ vs = e in cc)
split_dash [] ys (u ∷ us) vs h k e =
    let t : 45 ∷ ys ≡ u ∷ (us ++ 45 ∷ vs) = e in
    let s : 45 ≡ u = cc in
    let b : 48 ≤ u = k u (inl refl) in absurd (omega (arith, s, b))
split_dash (x ∷ xs) ys [] vs h k e =
    let t : x ∷ (xs ++ 45 ∷ ys) ≡ 45 ∷ vs = e in
    let s : x ≡ 45 = cc in
    let b : 48 ≤ x = h x (inl refl) in absurd (omega (arith, s, b))
split_dash (x ∷ xs) ys (u ∷ us) vs h k e =
    let t : x ∷ (xs ++ 45 ∷ ys) ≡ u ∷ (us ++ 45 ∷ vs) = e in
    let head : x ≡ u = cc in
    let tail : xs ++ 45 ∷ ys ≡ us ++ 45 ∷ vs = cc in
    let r = split_dash xs ys us vs (λ d a. h d (inr a)) (λ d a. k d (inr a)) tail in
    (let f : xs ≡ us = r.0 in cc, r.1)

fits_both : (n : Numbers) → fits n ≡ true → (n.0 < 2 ^ 64) × (n.1 < 2 ^ 64)
fits_both n h = (
  ltb-true n.0 (2 ^ 64) (and_left (nat_lt n.0 (2 ^ 64)) (nat_lt n.1 (2 ^ 64)) h),
  ltb-true n.1 (2 ^ 64) (and_right (nat_lt n.0 (2 ^ 64)) (nat_lt n.1 (2 ^ 64)) h),
)

pub id_text_injective : (m n : Numbers) → fits m ≡ true → fits n ≡ true → id_text m ≡ id_text n → m ≡ n
id_text_injective m n h k e =
    let a = fits_both m h in
    let b = fits_both n k in
    let r = split_dash (decimal m.0) (decimal m.1) (decimal n.0) (decimal n.1) (no_dash m.0 a.0) (no_dash n.0 b.0) e in
    let x : m.0 ≡ n.0 = decimal_injective m.0 n.0 a.0 b.0 r.0 in
    let y : m.1 ≡ n.1 = decimal_injective m.1 n.1 a.1 b.1 r.1 in
    ap (λ z. (z, m.1)) x ∙ ap (λ z. (n.0, z)) y

below_yes : (m n : Numbers) → is_below m n ≡ true → (m.0 < n.0) ⊎ ((m.0 ≡ n.0) × (m.1 < n.1))
below_yes m n h =
    let case : (b : Bool) → nat_lt m.0 n.0 ≡ b → (b || (nat_eq m.0 n.0 && nat_lt m.1 n.1)) ≡ true
    → (m.0 < n.0) ⊎ ((m.0 ≡ n.0) × (m.1 < n.1))
    = λ b. elim b as (λ v. nat_lt m.0 n.0 ≡ v → (v || (nat_eq m.0 n.0 && nat_lt m.1 n.1)) ≡ true
    → (m.0 < n.0) ⊎ ((m.0 ≡ n.0) × (m.1 < n.1))) [
      | true ↦ λ q k. inl (ltb-true m.0 n.0 q)
      | false ↦ λ q k. inr (
        (Decides-eqb m.0 n.0).0 (and_left (nat_eq m.0 n.0) (nat_lt m.1 n.1) k),
        ltb-true m.1 n.1 (and_right (nat_eq m.0 n.0) (nat_lt m.1 n.1) k),
      )
    ] in
    case (nat_lt m.0 n.0) refl h

yes_below : (m n : Numbers) → (m.0 < n.0) ⊎ ((m.0 ≡ n.0) × (m.1 < n.1)) → is_below m n ≡ true
yes_below m n (inl l) = ap (λ b. b || (nat_eq m.0 n.0 && nat_lt m.1 n.1)) (lt-ltb m.0 n.0 l)
yes_below m n (inr p) =
    let case : (b : Bool) → (b || true) ≡ true =
    λ b. elim b as (λ v. (v || true) ≡ true) [ true ↦ refl | false ↦ refl ] in
    ap (λ b. nat_lt m.0 n.0 || (b && nat_lt m.1 n.1)) ((Decides-eqb m.0 n.0).1 p.0)
    ∙ (ap (λ b. nat_lt m.0 n.0 || b) (lt-ltb m.1 n.1 p.1) ∙ case (nat_lt m.0 n.0))

pub below_further : (l m n : Numbers) → is_below l m ≡ true → is_below m n ≡ true → is_below l n ≡ true
below_further l m n h k =
    yes_below l n (elim (below_yes l m h) [
      | inl a ↦ elim (below_yes m n k) [ inl b ↦ inl (omega (arith, a, b)) | inr b ↦ inl (omega (arith, a, b.0)) ]
      | inr a ↦ elim (below_yes m n k) [
        | inl b ↦ inl (omega (arith, a.0, b))
        | inr b ↦ inr (a.0 ∙ b.0, omega (arith, a.1, b.1))
      ]
    ])

pub not_below_itself : (n : Numbers) → is_below n n ≡ true → ⊥
not_below_itself n h = elim (below_yes n n h) [ inl a ↦ omega (arith, a) | inr a ↦ omega (arith, a.1) ]
