-- What a reader and a writer report, step by step.
use Rattle.std.proofs.Common.{ℕ, List, [], ◌++◌, take, drop, length, ◌-◌, refl, sym, ◌∙◌, ap, append_assoc, append-nil}
use Rattle.std.proofs.Common.{Option, Some, None}
use Rattle.std.specs.Io.KnownBytes.{Appends, Consumes, Keeps}
use Rattle.std.proofs.lemmas.List.{take-append-drop}
use Rattle.stream_option_parsing.proofs.LineLemmas.{tail_is}
use Rattle.stream_option_parsing.specs.Told.{WroteUpTo}

pub Consumes-then : (a b c : Option (List ℕ)) (xs ys : List ℕ) → Consumes a b xs → Consumes b c ys
    → Consumes a c (xs ++ ys)
Consumes-then None b c xs ys p q = tt
Consumes-then (Some s) None c xs ys p q = absurd p
Consumes-then (Some s) (Some t) None xs ys p q = absurd q
Consumes-then (Some s) (Some t) (Some u) xs ys p q = p ∙ ap (λ r. xs ++ r) q ∙ sym (append_assoc xs ys u)

pub Consumes-keeps : (a b c : Option (List ℕ)) (xs : List ℕ) → Consumes a b xs → Keeps b c → Consumes a c xs
Consumes-keeps None b c xs p q = tt
Consumes-keeps (Some s) None c xs p q = absurd p
Consumes-keeps (Some s) (Some t) None xs p q = absurd q
Consumes-keeps (Some s) (Some t) (Some u) xs p q = p ∙ ap (λ r. xs ++ r) (sym q)

pub Consumes-none : (a : Option (List ℕ)) → Consumes a a []
Consumes-none None = tt
Consumes-none (Some s) = refl

pub Appends-then : (a b c : Option (List ℕ)) (xs ys : List ℕ) → Appends a b xs → Appends b c ys → Appends a c (xs ++ ys)
Appends-then None b c xs ys p q = tt
Appends-then (Some s) None c xs ys p q = absurd p
Appends-then (Some s) (Some t) None xs ys p q = absurd q
Appends-then (Some s) (Some t) (Some u) xs ys p q = q ∙ ap (λ r. r ++ ys) p ∙ append_assoc s xs ys

pub Appends-keeps : (a b c : Option (List ℕ)) (xs : List ℕ) → Appends a b xs → Keeps b c → Appends a c xs
Appends-keeps None b c xs p q = tt
Appends-keeps (Some s) None c xs p q = absurd p
Appends-keeps (Some s) (Some t) None xs p q = absurd q
Appends-keeps (Some s) (Some t) (Some u) xs p q = q ∙ p

pub Appends-none : (a : Option (List ℕ)) → Appends a a []
Appends-none None = tt
Appends-none (Some s) = sym (append-nil s)

pub up_to_none : (bytes : List ℕ) (a : Option (List ℕ)) → WroteUpTo bytes bytes a a
up_to_none bytes a = record { written = []; splits = refl; appended = Appends-none a }

up_to_drop : (bytes rest : List ℕ) (a b c : Option (List ℕ)) (n : ℕ) → WroteUpTo bytes rest a b
    → Appends b c (take n rest) → WroteUpTo bytes (drop n rest) a c
up_to_drop bytes rest a b c n w h = record {
  written = w.written ++ take n rest;
  splits = w.splits ∙ ap (λ t. w.written ++ t) (sym (take-append-drop n rest))
      ∙ sym (append_assoc w.written (take n rest) (drop n rest));
  appended = Appends-then a b c w.written (take n rest) w.appended h;
}

pub up_to_more : (bytes rest : List ℕ) (a b c : Option (List ℕ)) (n : ℕ) → WroteUpTo bytes rest a b
    → Appends b c (take n rest) → WroteUpTo bytes (take (length rest - n) (drop n rest)) a c
up_to_more bytes rest a b c n w h = rw (tail_is rest n) (up_to_drop bytes rest a b c n w h)

pub up_to_kept : (bytes rest : List ℕ) (a b c : Option (List ℕ)) → WroteUpTo bytes rest a b → Keeps b c
    → WroteUpTo bytes rest a c
up_to_kept bytes rest a b c w h =
    record { written = w.written; splits = w.splits; appended = Appends-keeps a b c w.written w.appended h }
