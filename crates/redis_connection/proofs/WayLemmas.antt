-- Lemmas on bytes that are sent and received.
use Rattle.std.proofs.Common.{◌≡◌, ◌+◌, ◌≤◌, ℕ, List, [], length, take, drop, Option, Some, None, Result, Ok, Err}
use Rattle.std.proofs.Common.{OnOk, OnErr, arith, sym, subst}
use Rattle.std.proofs.Math.Seq.{take-add}
use Rattle.std.proofs.lemmas.List.{take_all}
use Rattle.std.specs.Io.KnownBytes.{Appends, Consumes, Keeps}
use Rattle.std.proofs.KnownBytes.{Appends-trans, Appends-kept, Consumes-trans, Consumes-kept}

-- a reader from which nothing was read is unchanged
pub kept_of : (a b : Option (List ℕ)) → Consumes a b [] → Keeps a b
kept_of None b p = tt
kept_of (Some x) None p = absurd p
kept_of (Some x) (Some y) p = sym p

pub kept_on : (a b c : Option (List ℕ)) → Consumes a b [] → Keeps b c → Keeps a c
kept_on a b c p q = kept_of a c (Consumes-kept a b c [] p q)

pub taken_on : (a b c : Option (List ℕ)) (bs : List ℕ) → Consumes a b [] → Consumes b c bs → Consumes a c bs
taken_on a b c bs p q = Consumes-trans a b c [] bs p q

-- a prefix of the bytes was written, and then more of the rest
pub front_more : (a b c : Option (List ℕ)) (bytes rest : List ℕ) (at n : ℕ) → rest ≡ drop at bytes
    → Appends a b (take at bytes) → Appends b c (take n rest) → Appends a c (take (at + n) bytes)
front_more a b c bytes rest at n is p q =
    subst (Appends a c) (sym (take-add at n bytes))
    (Appends-trans a b c (take at bytes) (take n (drop at bytes)) p (subst (λ r. Appends b c (take n r)) is q))

-- all of them were written
pub front_all : (a b : Option (List ℕ)) (bytes : List ℕ) (at : ℕ) → length bytes ≤ at → Appends a b (take at bytes)
    → Appends a b bytes
front_all a b bytes at le p = subst (Appends a b) (take_all at bytes le) p

-- the bytes written stay written when the writer is flushed, whatever its result
pub flushed : {A E : Type 0} (r : Result A E) (a b c : Option (List ℕ)) (bytes : List ℕ) → Appends a b bytes → Keeps b c
    → OnOk r (Appends a c bytes)
flushed (Ok x) a b c bytes p q = Appends-kept a b c bytes p q
flushed (Err e) a b c bytes p q = tt

pub flushed_err : {A E : Type 0} (r : Result A E) (a b c : Option (List ℕ)) (bytes : List ℕ) → Appends a b bytes
    → Keeps b c → OnErr r ((n : ℕ) × Appends a c (take n bytes))
flushed_err (Ok x) a b c bytes p q = tt
flushed_err (Err e) a b c bytes p q = (
  length bytes,
  subst (Appends a c) (sym (take_all (length bytes) bytes (omega arith)))
      (Appends-kept a b c bytes p q),
)
