-- Bytes that are read one by one.
use Rattle.std.proofs.Common.{◌≡◌, ◌≢◌, ◌∙◌, refl, sym, ap, ℕ, List, [], ◌∷◌, ◌++◌, Option, Some, None, append_assoc}
use Rattle.std.specs.Io.KnownBytes.{Appends, Consumes, Keeps}
use Rattle.worker_jobs.specs.Lines.{HasNoEnd}

-- nothing was taken
pub none_taken : (c : Option (List ℕ)) → Consumes c c []
none_taken None = tt
none_taken (Some bytes) = refl

-- bytes were taken, and then more
pub taken_both : (a b c : Option (List ℕ)) (xs ys : List ℕ) → Consumes a b xs → Consumes b c ys → Consumes a c (xs ++ ys)
taken_both None b c xs ys p q = tt
taken_both (Some old) None c xs ys p q = absurd p
taken_both (Some old) (Some mid) None xs ys p q = absurd q
taken_both (Some old) (Some mid) (Some new) xs ys p q =
    p ∙ (ap (λ (zs : List ℕ). xs ++ zs) q ∙ sym (append_assoc xs ys new))

-- nothing was taken, and then bytes
pub kept_taken : (a b c : Option (List ℕ)) (xs : List ℕ) → Keeps a b → Consumes b c xs → Consumes a c xs
kept_taken None b c xs p q = tt
kept_taken (Some old) None c xs p q = absurd p
kept_taken (Some old) (Some mid) None xs p q = absurd q
kept_taken (Some old) (Some mid) (Some new) xs p q = sym p ∙ q

-- one byte more, which ends no line
pub no_end_more : (xs : List ℕ) (x : ℕ) → HasNoEnd xs → x ≢ 10 → HasNoEnd (xs ++ x ∷ [])
no_end_more [] x none is = (is, tt)
no_end_more (y ∷ ys) x none is = (none.0, no_end_more ys x none.1 is)

-- known bytes that grew stay so
pub sent_kept : (a b c : Option (List ℕ)) (xs : List ℕ) → Appends a b xs → Keeps b c → Appends a c xs
sent_kept None b c xs p q = tt
sent_kept (Some old) None c xs p q = absurd p
sent_kept (Some old) (Some mid) None xs p q = absurd q
sent_kept (Some old) (Some mid) (Some new) xs p q = q ∙ p
