-- Properties of a result that is passed on.
use Rattle.std.proofs.Common.{Option, Some, None, Result, Ok, Err, IfOk, IfSome, IsSome, IsSomeAnd, refl}

-- a property of it implies another
pub found_then : {A E : Type 0} (P Q : A → Type 0) (r : Result (Option A) E) → ((x : A) → P x → Q x)
    → IfOk r (λ o. IfSome o P) → IfOk r (λ o. IfSome o Q)
found_then P Q (Ok (Some x)) f h = f x h
found_then P Q (Ok None) f h = tt
found_then P Q (Err e) f h = tt

-- and the result is there
pub found_there : {A E : Type 0} (P Q : A → Type 0) (r : Result (Option A) E) → ((x : A) → P x → Q x)
    → IfOk r (λ o. IfSome o P) → IfOk r (λ o. IsSome o) → IfOk r (λ o. IsSomeAnd o Q)
found_there P Q (Ok (Some x)) f h some = f x h
found_there P Q (Ok None) f h some = absurd cc
found_there P Q (Err e) f h some = tt

-- it is there, whatever else holds of it
pub is_there : {A E : Type 0} (P : A → Type 0) (r : Result (Option A) E) → IfOk r (λ o. IsSomeAnd o P)
    → IfOk r (λ o. IsSome o)
is_there P (Ok (Some x)) h = refl
is_there P (Ok None) h = absurd h
is_there P (Err e) h = tt

-- two properties of it imply a third
pub found_both : {A E : Type 0} (P Q R : A → Type 0) (r : Result (Option A) E) → ((x : A) → P x → Q x → R x)
    → IfOk r (λ o. IfSome o P) → IfOk r (λ o. IfSome o Q) → IfOk r (λ o. IfSome o R)
found_both P Q R (Ok (Some x)) f h k = f x h k
found_both P Q R (Ok None) f h k = tt
found_both P Q R (Err e) f h k = tt
