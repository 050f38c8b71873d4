-- Bytes that a byte parts.
use Rattle.std.proofs.Common.{◌≡◌, ◌≢◌, ◌<◌, ◌≤◌, ℕ, suc, ◌+◌, List, [], ◌∷◌, ◌++◌, take, drop, length, refl, sym}
use Rattle.std.proofs.Common.{◌∙◌, ap, subst, arith, inl, inr, Option, Some, None, ◌==◌, add-one}
use Rattle.std.proofs.lemmas.Bool.{cases_eq, cases_lt, le-ltb, lt-ltb}
use Rattle.std.proofs.lemmas.Bool.Decides.{nat_tests}
use Rattle.std.proofs.lemmas.Option.{none-some, some_pair_parts}
use Rattle.std.specs.List.{position, position_or_len}
use Rattle.std.specs.Option.{option_map}
use Rattle.redis_client.specs.Cluster.Split.{split_first, Lacks}

-- two parts that are the same as two others
pub record Same (a b front rest : List ℕ) : Type 0 where
  pub before : a ≡ front
  pub behind : b ≡ rest

-- the byte is here first
pub record IsFirst (byte : ℕ) (bytes a b : List ℕ) : Type 0 where
  pub is : bytes ≡ a ++ byte ∷ b
  pub lacks : Lacks byte a

module _ (byte : ℕ) where
  -- ---- one byte more

  abbrev Put : ℕ → List ℕ × List ℕ → List ℕ × List ℕ
  Put b x = (b ∷ x.0, x.1)

  here : (rest : List ℕ) → split_first byte (byte ∷ rest) ≡ Some ([], rest)
  here rest = grind (arith, nat_tests)

  later : (b : ℕ) (rest : List ℕ) → b ≢ byte → split_first byte (b ∷ rest) ≡ option_map (Put b) (split_first byte rest)
  later b rest other = grind (arith, nat_tests)

  -- ---- what is around the first one

  pub behind_front : (front rest : List ℕ) → Lacks byte front
      → split_first byte (front ++ byte ∷ rest) ≡ Some (front, rest)
  behind_front [] rest lacks = here rest
  behind_front (b ∷ front) rest lacks =
      later b (front ++ byte ∷ rest) lacks.0 ∙ ap (option_map (Put b)) (behind_front front rest lacks.1)

  pub nowhere : (bytes : List ℕ) → Lacks byte bytes → split_first byte bytes ≡ None
  nowhere [] lacks = refl
  nowhere (b ∷ rest) lacks = later b rest lacks.0 ∙ ap (option_map (Put b)) (nowhere rest lacks.1)

  pub parts : (bytes a b : List ℕ) → split_first byte bytes ≡ Some (a, b) → IsFirst byte bytes a b
  parts [] a b is = absurd (none-some _ is)
  parts (c ∷ rest) a b is = elim (cases_eq c byte) [
    | inl same ↦
        let whole : ◌≡◌ {A = Option (List ℕ × List ℕ)} (Some ([], rest)) (Some (a, b)) =
        sym (here rest) ∙ subst (λ x. split_first byte (x ∷ rest) ≡ Some (a, b)) same is in
        let two = some_pair_parts [] a rest b whole in
        record {
          is = ap (λ x. x ∷ rest) same ∙ ap (λ x. [] ++ byte ∷ x) two.1 ∙ ap (λ x. x ++ byte ∷ b) two.0;
          lacks = subst (Lacks byte) two.0 tt;
        }
    | inr other ↦ elim (split_first byte rest) as (λ o. split_first byte rest ≡ o → IsFirst byte (c ∷ rest) a b) [
      | None ↦ λ e. absurd (none-some _ (sym (later c rest other ∙ ap (option_map (Put c)) e) ∙ is))
      | Some x ↦ λ e.
          let whole : ◌≡◌ {A = Option (List ℕ × List ℕ)} (Some (c ∷ x.0, x.1)) (Some (a, b)) =
          sym (later c rest other ∙ ap (option_map (Put c)) e) ∙ is in
          let two = some_pair_parts (c ∷ x.0) a x.1 b whole in
          let within = parts rest x.0 x.1 e in
          record {
            is = ap (λ xs. c ∷ xs) within.is ∙ ap (λ xs. (c ∷ x.0) ++ byte ∷ xs) two.1 ∙ ap (λ xs. xs ++ byte ∷ b) two.0;
            lacks = subst (Lacks byte) two.0 (other, within.lacks);
          }
    ] refl
  ]

  pub absent : (bytes : List ℕ) → split_first byte bytes ≡ None → Lacks byte bytes
  absent [] is = tt
  absent (c ∷ rest) is = elim (cases_eq c byte) [
    | inl same ↦ absurd (none-some _ (sym is ∙ ap (λ x. split_first byte (x ∷ rest)) same ∙ here rest))
    | inr other ↦ elim (split_first byte rest) as (λ o. split_first byte rest ≡ o → Lacks byte (c ∷ rest)) [
      | None ↦ λ e. (other, absent rest e)
      | Some x ↦ λ e. absurd (none-some _ (sym is ∙ later c rest other ∙ ap (option_map (Put c)) e))
    ] refl
  ]

  -- ---- by its place

  abbrev pub Place : List ℕ → ℕ
  Place bytes = position_or_len (λ b. b == byte) bytes

  place_here : (rest : List ℕ) → Place (byte ∷ rest) ≡ 0
  place_here rest = grind (arith, nat_tests)

  place_later : (b : ℕ) (rest : List ℕ) → b ≢ byte → Place (b ∷ rest) ≡ suc (Place rest)
  place_later b rest other = grind (arith, nat_tests)

  at_place : (bytes : List ℕ) → Place bytes < length bytes
      → split_first byte bytes ≡ Some (take (Place bytes) bytes, drop (suc (Place bytes)) bytes)
  at_place [] lt = absurd (omega (arith, lt))
  at_place (b ∷ rest) lt = elim (cases_eq b byte) [
    | inl same ↦
        let here_place : Place (b ∷ rest) ≡ 0 = ap (λ x. Place (x ∷ rest)) same ∙ place_here rest in
        rw here_place (ap (λ x. split_first byte (x ∷ rest)) same ∙ here rest)
    | inr other ↦
        let there = place_later b rest other in
        let within : suc (Place rest) < suc (length rest) = subst (λ n. n < suc (length rest)) there lt in
        rw there (later b rest other ∙ ap (option_map (Put b)) (at_place rest (omega (arith, within))))
  ]

  past_place : (bytes : List ℕ) → length bytes ≤ Place bytes → split_first byte bytes ≡ None
  past_place [] le = refl
  past_place (b ∷ rest) le = elim (cases_eq b byte) [
    | inl same ↦
        let here_place : Place (b ∷ rest) ≡ 0 = ap (λ x. Place (x ∷ rest)) same ∙ place_here rest in
        let none : suc (length rest) ≤ 0 = subst (λ n. suc (length rest) ≤ n) here_place le in absurd (omega (arith, none))
    | inr other ↦
        let past : suc (length rest) ≤ suc (Place rest) =
        subst (λ n. suc (length rest) ≤ n) (place_later b rest other) le in
        later b rest other ∙ ap (option_map (Put b)) (past_place rest (omega (arith, past)))
  ]

  abbrev pub Around : List ℕ → ℕ → List ℕ × List ℕ
  Around bytes i = (take i bytes, drop (i + 1) bytes)

  pub of_position : (bytes : List ℕ)
      → split_first byte bytes ≡ option_map (Around bytes) (position (λ b. b == byte) bytes)
  of_position bytes = elim (cases_lt (Place bytes) (length bytes)) [
    | inl lt ↦ rw (lt-ltb (Place bytes) (length bytes) lt) (rw add-one (at_place bytes lt))
    | inr le ↦ rw (le-ltb (Place bytes) (length bytes) le) (past_place bytes le)
  ]

  -- ---- the last one

  pub not_lacking : (a b : List ℕ) → Lacks byte (a ++ byte ∷ b) → ⊥
  not_lacking [] b lacks = lacks.0 refl
  not_lacking (c ∷ a) b lacks = not_lacking a b lacks.1

  pub one_last : (a b front rest : List ℕ) → Lacks byte b → Lacks byte rest
      → a ++ byte ∷ b ≡ front ++ byte ∷ rest → Same a b front rest
  one_last [] b [] rest lb lr same = record { before = refl; behind = cc same }
  one_last [] b (c ∷ front) rest lb lr same =
      let is : b ≡ front ++ byte ∷ rest = cc same in absurd (not_lacking front rest (subst (Lacks byte) is lb))
  one_last (c ∷ a) b [] rest lb lr same =
      let is : rest ≡ a ++ byte ∷ b = cc same in absurd (not_lacking a b (subst (Lacks byte) is lr))
  one_last (c ∷ a) b (d ∷ front) rest lb lr same =
      let head : c ≡ d = cc same in
      let tail : a ++ byte ∷ b ≡ front ++ byte ∷ rest = cc same in
      let two = one_last a b front rest lb lr tail in
      record { before = ap (λ x. x ∷ a) head ∙ ap (λ xs. d ∷ xs) two.before; behind = two.behind }
