-- Bytes that were sent before they were written.
use Rattle.std.specs.Prelude.{◌≡◌, ◌==◌, true, [], ◌∷◌, ℕ, ◌-◌, List, take, drop, length, codes, Option, Some, None, if◌then◌else◌}
use Rattle.std.specs.List.{starts_with}
use Rattle.std.specs.Str.{bytes_eq}
use Rattle.memchr.specs.Find.{FindsNeedle}
use Rattle.redis_wire.specs.Packed.{command_bytes}

-- all bytes before these, if they end with these
abbrev pub before_end : List ℕ → List ℕ → Option (List ℕ)
before_end end all = if bytes_eq (drop (length all - length end) all) end
    then Some (take (length all - length end) all) else None

-- the bytes that were written, if the bytes that were sent are known, and end with those that were sent early
abbrev pub written : List ℕ → Option (List ℕ) → Option (List ℕ)
written early None = None
written early (Some all) = before_end early all

-- MULTI and EXEC as bytes: the begin and the end of a transaction
abbrev pub multi_bytes : List ℕ
multi_bytes = command_bytes (codes "MULTI" ∷ [])

abbrev pub exec_bytes : List ℕ
exec_bytes = command_bytes (codes "EXEC" ∷ [])

-- the bytes begin with MULTI, and these are all of them before the first EXEC: the server queues them, and executes none
pub record IsQueued (bytes queued : List ℕ) : Type 0 where
  pub begins : starts_with (λ a b. a == b) bytes multi_bytes ≡ true
  pub front : queued ≡ take (length queued) bytes
  pub first : FindsNeedle bytes exec_bytes 0 (Some (length queued))
