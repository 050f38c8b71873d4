-- The exit status of a program, by its outcome.
use Rattle.std.proofs.Common.{◌≡◌, ◌<◌, ◌⊎◌, ℕ, Err, IfOk, IsOk, Ok, OnErr, OnOk, Result, arith, false, inr, true}

-- of two facts the second holds
pub or_else : {A E : Type 0} (Q P : Type 0) (r : Result A E) → OnOk r P → OnOk r (Q ⊎ P)
or_else Q P (Ok a) holds = inr holds
or_else Q P (Err e) holds = tt

-- the status, by the outcome
module _ {C F : Type 0} (status : C → ℕ) where
  pub at_zero : {A E : Type 0} (P : Type 0) (ended : Result A E) (result : Result C F)
      → OnOk ended P → OnOk ended (IfOk result (λ code. status code ≡ 0))
      → OnErr ended (IfOk result (λ code. status code ≡ 1)) → IfOk result (λ code. status code ≡ 0 → P)
  at_zero P (Ok a) (Ok code) p zero one = λ is. p
  at_zero P (Ok a) (Err f) p zero one = tt
  at_zero P (Err e) (Ok code) p zero one = λ is. absurd (omega arith)
  at_zero P (Err e) (Err f) p zero one = tt

  pub at_one : {A E : Type 0} (P : Type 0) (ended : Result A E) (result : Result C F)
      → OnErr ended P → OnOk ended (IfOk result (λ code. status code ≡ 0))
      → OnErr ended (IfOk result (λ code. status code ≡ 1)) → IfOk result (λ code. status code ≡ 1 → P)
  at_one P (Ok a) (Ok code) p zero one = λ is. absurd (omega arith)
  at_one P (Ok a) (Err f) p zero one = tt
  at_one P (Err e) (Ok code) p zero one = λ is. p
  at_one P (Err e) (Err f) p zero one = tt

  pub below_two : {A E : Type 0} (ended : Result A E) (result : Result C F)
      → OnOk ended (IfOk result (λ code. status code ≡ 0))
      → OnErr ended (IfOk result (λ code. status code ≡ 1)) → IfOk result (λ code. status code < 2)
  below_two (Ok a) (Ok code) zero one = omega arith
  below_two (Ok a) (Err f) zero one = tt
  below_two (Err e) (Ok code) zero one = omega arith
  below_two (Err e) (Err f) zero one = tt

-- an error comes only after a failure
pub at_error : {A E C F : Type 0} (P : Type 0) (ended : Result A E) (result : Result C F)
    → OnErr ended P → OnOk ended (IsOk result) → OnErr result P
at_error P (Ok a) (Ok code) p given = tt
at_error P (Ok a) (Err f) p given = let h : false ≡ true = given in cc
at_error P (Err e) (Ok code) p given = tt
at_error P (Err e) (Err f) p given = p
