-- The results that both readings of a value may return.
use Rattle.std.proofs.Common.{◌≡◌, ◌≢◌, ℕ, List, ◌∙◌}
use Rattle.std.specs.Prelude.{Option, Some, None, Result, Ok, Err, IfOk, IfErr, String, string_bytes}
use Rattle.std.specs.declared.alloc.Global.{Global}
use Rattle.redis_resp.specs.declared.value.error.ParsingError.{ParsingError}
use Rattle.redis_resp.specs.declared.value.error.ParsingError.TheVariants.{Memory}
use Rattle.redis_resp.specs.Tree.{Tree}
use Rattle.test_notation.specs.Answer.{MayAnswer, IsAnswer, compared}
use Rattle.test_notation.specs.Refusal.{answer_form}

-- the postcondition of a reading, as `MayAnswer`
pub may_answer : {T M : Type 0} (meaning : T → M) (reading : Tree → Option M)
    (may_refuse : Tree → ParsingError → Type 0) (t : Tree) (answer : Result T ParsingError)
    → IfOk answer (λ r. reading t ≡ Some (meaning r))
    → IfErr answer (λ e. may_refuse t e × (e ≢ Memory → reading t ≡ None)) → IfErr answer (λ e. e ≢ Memory)
    → MayAnswer meaning reading may_refuse t answer
may_answer meaning reading may_refuse t (Ok r) ok err told = ok
may_answer meaning reading may_refuse t (Err e) ok err told = (told, err.0, err.1 told)

-- the line of the results of both readings
pub is_answer : {T M E : Type 0} (meaning : T → M) (reading : Tree → Option M)
    (may_refuse : Tree → ParsingError → Type 0) (form : T → List ℕ) (t : Tree) (owned lent : Result T ParsingError)
    (owned_form lent_form : List ℕ) (line : Result (String Global) E) → owned_form ≡ answer_form form owned
    → lent_form ≡ answer_form form lent → MayAnswer meaning reading may_refuse t owned
    → MayAnswer meaning reading may_refuse t lent → IfOk line (λ l. string_bytes l ≡ compared owned_form lent_form)
    → IfOk line (λ l. IsAnswer meaning reading may_refuse form t (string_bytes l))
is_answer meaning reading may_refuse form t owned lent owned_form lent_form (Ok l) p q m n e = record {
  owned = owned;
  lent = lent;
  owned_may = m;
  lent_may = n;
  line_is = e ∙ (λ i. compared (p i) (q i));
}
is_answer meaning reading may_refuse form t owned lent owned_form lent_form (Err _) p q m n e = tt
