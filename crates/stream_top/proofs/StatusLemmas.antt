-- The exit status of the program, by its outcome.
use Rattle.std.proofs.Common.{◌≡◌, ◌<◌, ◌≤◌, ◌⊎◌, ℕ, Err, IfOk, List, Ok, OnErr, OnOk, Result, arith, inr, map}
use Rattle.redis_connection.specs.Link.{Link}
use Rattle.stream_top.specs.Asked.{Ends, EndsAsSaid}
use Rattle.stream_top.specs.Options.{IsTaskOf, text_of}
use Rattle.stream_top.specs.declared.options.Task.{Task}
use Rattle.stream_top.specs.declared.options.Word.{Word}

module _ {C F : Type 0} (status : C → ℕ) (result : Result C F) (zero : IfOk result (λ code. status code ≡ 0)) where
  pub no_other : (P : Type 0) → IfOk result (λ code. 0 < status code → P)
  no_other P = elim result as (λ r. IfOk r (λ code. status code ≡ 0) → IfOk r (λ code. 0 < status code → P))
      [ Ok code ↦ λ zero. λ is. absurd (omega arith) | Err f ↦ λ zero. tt ] zero

  pub two_at_most : IfOk result (λ code. status code ≤ 2)
  two_at_most = elim result as (λ r. IfOk r (λ code. status code ≡ 0) → IfOk r (λ code. status code ≤ 2))
      [ Ok code ↦ λ zero. omega arith | Err f ↦ λ zero. tt ] zero

pub on_err : {B F Q : Type 0} (r : Result B F) → Q → OnErr r Q
on_err (Ok b) q = tt
on_err (Err f) q = q

-- the task is that of the words
pub as_said : {C F : Type 0} (status : C → ℕ) (result : Result C F) (H : Type 0) (words : List Word) (task : Task)
    (old new : Link) → IsTaskOf words (map text_of words) task → OnOk result (Ends task old new)
    → IfOk result (λ code. status code ≡ 0 → H ⊎ EndsAsSaid words old new)
as_said status (Ok code) H words task old new said ends = λ is. inr (record { task = task; said = said; ends = ends })
as_said status (Err f) H words task old new said ends = tt
