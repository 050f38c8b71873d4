-- Commands that are sent one after the other, in two parts.
use Rattle.std.proofs.Common.{◌≡◌, ◌⊎◌, ℕ, List, [], ◌∷◌, ◌++◌, inl, inr, subst, sym}
use Rattle.redis_connection.specs.Link.{Link}
use Rattle.redis_connection.specs.declared.error.AskError.{AskError}
use Rattle.redis_client.specs.Asked.{AsksEach, BreaksOff}

-- the first commands got their replies, and then the others
pub both : (xs ys : List (List (List ℕ))) (old mid new : Link) → AsksEach old mid xs → AsksEach mid new ys
    → AsksEach old new (xs ++ ys)
both [] ys old mid new first then = subst (λ l. AsksEach l new ys) first then
both (x ∷ xs) ys old mid new first then = (first.0, first.1, both xs ys first.0 mid new first.2 then)

-- the first got their replies, and among the others one did not
pub breaks_later : (xs ys : List (List (List ℕ))) (old mid new : Link) (e : AskError) → AsksEach old mid xs
    → BreaksOff mid new ys e → BreaksOff old new (xs ++ ys) e
breaks_later [] ys old mid new e first then = subst (λ l. BreaksOff l new ys e) first then
breaks_later (x ∷ xs) ys old mid new e first then =
    inr (first.0, first.1, breaks_later xs ys first.0 mid new e first.2 then)

-- among the first one was not
pub breaks_first : (xs ys : List (List (List ℕ))) (old new : Link) (e : AskError) → BreaksOff old new xs e
    → BreaksOff old new (xs ++ ys) e
breaks_first [] ys old new e breaks = absurd breaks
breaks_first (x ∷ xs) ys old new e (inl none) = inl none
breaks_first (x ∷ xs) ys old new e (inr later) = inr (later.0, later.1, breaks_first xs ys later.0 new e later.2)
