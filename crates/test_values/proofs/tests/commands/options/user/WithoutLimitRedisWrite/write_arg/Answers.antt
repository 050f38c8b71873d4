use Rattle.std.proofs.Common.{rules, ◌≡◌, ◌⊎◌, inl, inr, codes, refl, Result, Ok, Err}
use Rattle.std.specs.Prelude.{OnErr}
use Rattle.redis_args.proofs.WriterLemmas.{stops_at_once}
use Rattle.test_values.proofs.tests.commands.options.user.WithoutLimitRedisWrite.write_arg.Goals as goal

-- maps the right part of a choice, and keeps the left one
beside : {P Q X : Type 0} → (P → Q) → X ⊎ P → X ⊎ Q
beside f (inl x) = inl x
beside f (inr p) = inr (f p)

-- maps what holds of an error
on_err : {T E : Type 0} (r : Result T E) {P Q : Type 0} → (P → Q) → OnErr r P → OnErr r Q
on_err (Ok x) f h = tt
on_err (Err e) f h = f h

pub returns-then-eq-clause-wrote : goal.returns-then-eq-clause-wrote
returns-then-eq-clause-wrote c =
    let spelled : c.args.arg.now ≡ codes "LIMIT" = search rules in
    stops_at_once refl (inl (spelled, refl))

pub returns-clause-same : goal.returns-clause-same
returns-clause-same c =
    on_err c.write_arg.result (λ same. λ a e. (beside (same a e).0, beside (same a e).1)) c.write_arg.ensures.same
