-- The exit status of the program, by its outcome.
use Rattle.std.proofs.Common.{◌≡◌, ◌⊎◌, ℕ, Err, IfErr, IfOk, Ok, OnErr, OnOk, Result, arith, inl, inr}
use Rattle.stream_run.specs.Failures.{IsOfChild}
use Rattle.stream_run.specs.declared.failure.Failure.{Failure}
use Rattle.stream_run.specs.declared.failure.Failure.TheVariants.{Child, Unopened, Round, Search, Outbox, Other}

-- a failure is the child's, or it is not
child_or_not : (f : Failure) → IsOfChild f ⊎ (IsOfChild f → ⊥)
child_or_not (Child e) = inl tt
child_or_not (Unopened e) = inl tt
child_or_not (Round e) = inr (λ is. is)
child_or_not (Search e) = inr (λ is. is)
child_or_not (Outbox e) = inr (λ is. is)
child_or_not (Other e) = inr (λ is. is)

-- after a failure the status is not 0
not_zero : (f : Failure) (n : ℕ) → (IsOfChild f → n ≡ 4) → ((IsOfChild f → ⊥) → n ≡ 1) → n ≡ 0 → ⊥
not_zero f n child other is = by (child_or_not f)
  where
    by : IsOfChild f ⊎ (IsOfChild f → ⊥) → ⊥
    by (inl of) = omega (arith, child of)
    by (inr not_of) = omega (arith, other not_of)

-- with 4 it is the child's
is_childs : (f : Failure) (n : ℕ) → ((IsOfChild f → ⊥) → n ≡ 1) → n ≡ 4 → IsOfChild f
is_childs f n other is = by (child_or_not f)
  where
    by : IsOfChild f ⊎ (IsOfChild f → ⊥) → IsOfChild f
    by (inl of) = of
    by (inr not_of) = absurd (omega (arith, other not_of))

module _ {A C F : Type 0} (status : C → ℕ) where
  pub at_zero : (P : Type 0) (ended : Result A Failure) (result : Result C F) → OnOk ended P
      → IfErr ended (λ f. IsOfChild f → IfOk result (λ code. status code ≡ 4))
      → IfErr ended (λ f. (IsOfChild f → ⊥) → IfOk result (λ code. status code ≡ 1))
      → IfOk result (λ code. status code ≡ 0 → P)
  at_zero P (Ok a) (Ok code) p child other = λ is. p
  at_zero P (Ok a) (Err e) p child other = tt
  at_zero P (Err f) (Ok code) p child other = λ is. absurd (not_zero f (status code) child other is)
  at_zero P (Err f) (Err e) p child other = tt

  pub at_one : (P : Type 0) (ended : Result A Failure) (result : Result C F) → OnErr ended P
      → OnOk ended (IfOk result (λ code. status code ≡ 0)) → IfOk result (λ code. status code ≡ 1 → P)
  at_one P (Ok a) (Ok code) p zero = λ is. absurd (omega arith)
  at_one P (Ok a) (Err e) p zero = tt
  at_one P (Err f) (Ok code) p zero = λ is. p
  at_one P (Err f) (Err e) p zero = tt

  pub at_four : (P : Type 0) (ended : Result A Failure) (result : Result C F) → IfErr ended (λ f. IsOfChild f → P)
      → OnOk ended (IfOk result (λ code. status code ≡ 0))
      → IfErr ended (λ f. (IsOfChild f → ⊥) → IfOk result (λ code. status code ≡ 1))
      → IfOk result (λ code. status code ≡ 4 → P)
  at_four P (Ok a) (Ok code) p zero other = λ is. absurd (omega arith)
  at_four P (Ok a) (Err e) p zero other = tt
  at_four P (Err f) (Ok code) p zero other = λ is. p (is_childs f (status code) other is)
  at_four P (Err f) (Err e) p zero other = tt
