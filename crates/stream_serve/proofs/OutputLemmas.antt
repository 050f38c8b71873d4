-- Lemmas on what a writer was given.
use Rattle.std.proofs.Common.{◌≡◌, ◌+◌, ℕ, List, take, drop, Option}
use Rattle.std.proofs.Common.{sym, subst}
use Rattle.std.proofs.Math.Seq.{take-add}
use Rattle.std.specs.Io.KnownBytes.{Appends}
use Rattle.std.proofs.KnownBytes.{Appends-trans}

-- a front of the bytes was written, and then more of the rest
pub front_more : (a b c : Option (List ℕ)) (bytes rest : List ℕ) (at n : ℕ) → rest ≡ drop at bytes
    → Appends a b (take at bytes) → Appends b c (take n rest) → Appends a c (take (at + n) bytes)
front_more a b c bytes rest at n is p q =
    subst (Appends a c) (sym (take-add at n bytes))
    (Appends-trans a b c (take at bytes) (take n (drop at bytes)) p (subst (λ r. Appends b c (take n r)) is q))
