-- Lemmas on the error of a reader.
use Rattle.std.proofs.Common.{◌≡◌, ℕ, zero, suc, Result, Ok, Err, IfErr, subst}
use Rattle.std.specs.declared.io.Error.{Error}
use Rattle.redis_connection.specs.Cause.{read_failure_of}
use Rattle.redis_connection.specs.Usable.{IsOfReader, IsReadError}
use Rattle.redis_connection.specs.declared.error.ConnectionError.{ConnectionError}

module _ (may_read : Type 0) (failed_with : Error → Type 0) where
  of_read_len : (r : Result ℕ Error) → IfErr r (IsReadError failed_with)
      → IfErr (read_failure_of r) (IsOfReader may_read failed_with)
  of_read_len (Ok zero) p = tt
  of_read_len (Ok (suc n)) p = tt
  of_read_len (Err e) p = p

  -- the error of a read is that of the reader
  pub of_read : (r : Result ℕ Error) (e : ConnectionError) → read_failure_of r ≡ Err e
      → IfErr r (IsReadError failed_with) → IsOfReader may_read failed_with e
  of_read r e is p =
      subst (λ (x : Result ℕ ConnectionError). IfErr x (IsOfReader may_read failed_with)) is (of_read_len r p)
