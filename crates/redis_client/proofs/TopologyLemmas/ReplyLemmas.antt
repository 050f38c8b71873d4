-- Lists that a loop reads member by member; the cause of a refusal does not matter.
use Rattle.std.proofs.Common.{◌≡◌, List, ◌∷◌, sym, Option, None}
use Rattle.redis_resp.specs.Reading.{traverse}
use Rattle.redis_resp.proofs.ReadLemmas.{ReadSoFar}

-- a member with no record stops the reading
pub stopped : {A M : Type 0} (f : A → Option M) (all items rest : List A) (x : A) (done : List M) → items ≡ x ∷ rest
    → f x ≡ None → ReadSoFar f all items done → traverse f all ≡ None
stopped f all items rest x done steps none r = sym (rw (steps, none) at r.so_far)
