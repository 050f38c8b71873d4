-- What is pending and not held, before and after an acknowledgement.
use Rattle.std.proofs.Common.{◌≡◌, ◌⊎◌, inl, inr, refl, sym, ap, ◌∙◌, ℕ, suc, ◌+◌, ◌≤◌, ◌<◌, arith, nat_lt, Bool}
use Rattle.std.proofs.Common.{true, false, List, [], ◌∷◌, ◌++◌, if◌then◌else◌}
use Rattle.std.proofs.lemmas.Bool.{cases_lt, ltb-true, lt-ltb}
use Rattle.model_server.specs.Group.Worker.{Id}
use Rattle.model_server.specs.Group.Group.{Name, Pending, listed, own, pending_after, pending_ids}
use Rattle.model_server.specs.Rounds.Bound.{held_for}
use Rattle.model_server.proofs.RoundsLemmas.Lists.{clash, not_true}
use Rattle.model_server.proofs.RoundsLemmas.Parts as parts

-- pending, and not among what is done
abbrev pub still_pending : List Id → List Pending → Id → Bool
still_pending held ps x = if listed held x then false else listed (pending_ids ps) x

-- the same of what is pending for this consumer
abbrev pub still_mine : List Id → Name → List Pending → Id → Bool
still_mine held name ps x = if listed held x then false else listed (own name ps) x

-- what is acknowledged was held, so nothing else changes
pub acked_pending : (ids more : List Id) (ps : List Pending) (x : Id)
    → still_pending more (pending_after ids ps) x ≡ still_pending (ids ++ more) ps x
acked_pending ids more ps x =
    let case : (a b : Bool) → (if b then false else (if a then false else listed (pending_ids ps) x))
    ≡ (if (if a then true else b) then false else listed (pending_ids ps) x)
    = λ a b. elim a as (λ v. (if b then false else (if v then false else listed (pending_ids ps) x))
    ≡ (if (if v then true else b) then false else listed (pending_ids ps) x))
    [ true ↦ no_matter b | false ↦ refl ] in
    ap (λ z. if listed more x then false else z) (parts.listed_after ids ps x)
    ∙ (case (listed ids x) (listed more x)
    ∙ sym (ap (λ z. if z then false else listed (pending_ids ps) x) (parts.listed_both ids more x)))
  where
    no_matter : (b : Bool) → (if b then false else false) ≡ false
    no_matter true = refl
    no_matter false = refl

pub acked_mine : (name : Name) (ids more : List Id) (ps : List Pending) (x : Id)
    → still_mine more name (pending_after ids ps) x ≡ still_mine (ids ++ more) name ps x
acked_mine name ids more ps x =
    let case : (a b : Bool) → (if b then false else (if a then false else listed (own name ps) x))
    ≡ (if (if a then true else b) then false else listed (own name ps) x)
    = λ a b. elim a as (λ v. (if b then false else (if v then false else listed (own name ps) x))
    ≡ (if (if v then true else b) then false else listed (own name ps) x))
    [ true ↦ no_matter b | false ↦ refl ] in
    ap (λ z. if listed more x then false else z) (parts.mine_after name ids ps x)
    ∙ (case (listed ids x) (listed more x)
    ∙ sym (ap (λ z. if z then false else listed (own name ps) x) (parts.listed_both ids more x)))
  where
    no_matter : (b : Bool) → (if b then false else false) ≡ false
    no_matter true = refl
    no_matter false = refl

pub held_less : (i : Id) (ids to_commit : List Id) → held_for [] (to_commit ++ []) + 1 ≤ held_for (i ∷ ids) to_commit
held_less i ids [] = omega arith
held_less i ids (x ∷ xs) = omega arith

-- a test that holds of neither more nor less
pub not_less : (a b : ℕ) → b ≤ a → nat_lt a b ≡ false
not_less a b h = not_true (nat_lt a b) (λ k. absurd (omega (arith, ltb-true a b k, h)))

pub is_less : (a b : ℕ) → nat_lt a b ≡ true → suc a ≤ b
is_less a b h = omega (arith, ltb-true a b h)

pub is_no_less : (a b : ℕ) → nat_lt a b ≡ false → b ≤ a
is_no_less a b h = first (nat_lt_or a b)
  where
    nat_lt_or : (c d : ℕ) → (c < d) ⊎ (d ≤ c)
    nat_lt_or c d = cases_lt c d

    first : (a < b) ⊎ (b ≤ a) → b ≤ a
    first (inl l) = absurd (clash (nat_lt a b) (lt-ltb a b l) h)
    first (inr l) = l

-- what is held is not pending still
pub held_not : (held : List Id) (ps : List Pending) (x : Id) → still_pending held ps x ≡ true
    → (listed held x ≡ false) × (listed (pending_ids ps) x ≡ true)
held_not held ps x h = first (listed held x) refl h
  where
    first : (b : Bool) → listed held x ≡ b → (if b then false else listed (pending_ids ps) x) ≡ true
        → (listed held x ≡ false) × (listed (pending_ids ps) x ≡ true)
    first true q k = absurd (clash false k refl)
    first false q k = (q, k)

pub mine_not : (name : Name) (held : List Id) (ps : List Pending) (x : Id) → still_mine held name ps x ≡ true
    → (listed held x ≡ false) × (listed (own name ps) x ≡ true)
mine_not name held ps x h = first (listed held x) refl h
  where
    first : (b : Bool) → listed held x ≡ b → (if b then false else listed (own name ps) x) ≡ true
        → (listed held x ≡ false) × (listed (own name ps) x ≡ true)
    first true q k = absurd (clash false k refl)
    first false q k = (q, k)
