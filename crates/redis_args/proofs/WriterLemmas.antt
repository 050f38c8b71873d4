-- How a run of writes that stopped within a list of arguments reads in a longer list.
use Rattle.std.specs.List.{flat_map}
use Rattle.std.proofs.Common.{◌≡◌, ◌<◌, zero, suc, get_or, take, length, ℕ, List, [], ◌∷◌, ◌++◌, refl, sym, ◌∙◌, subst}
use Rattle.std.proofs.Common.{append_assoc, append-nil, arith, Result, Ok, Err}
use Rattle.std.specs.Prelude.{IfErr, IsErrAnd, MatchResult}
use Rattle.redis_args.specs.Writer.{StopsWithin}

module _ {E : Type 0} {old new : List (List ℕ)} {may_refuse : List ℕ → E → Type 0} {e : E} where
  -- the first argument was refused
  pub stops_at_once : {x : List ℕ} {xs : List (List ℕ)} → new ≡ old → may_refuse x e
      → StopsWithin old (x ∷ xs) new may_refuse e
  stops_at_once {x = x} {xs = xs} kept refused = record {
    written = [];
    next = x;
    rest = xs;
    splits = refl;
    holds = kept ∙ sym (append-nil old);
    refused = refused;
  }

  -- the run stopped in the prefix of the list
  pub stops_before : (xs ys : List (List ℕ)) → StopsWithin old xs new may_refuse e
      → StopsWithin old (xs ++ ys) new may_refuse e
  stops_before xs ys s = record {
    written = s.written;
    next = s.next;
    rest = s.rest ++ ys;
    splits = grind (arith, append_assoc);
    holds = s.holds;
    refused = s.refused;
  }

  -- the prefix was written, and the run stopped in what follows
  pub stops_after : {mid : List (List ℕ)} (xs ys : List (List ℕ)) → mid ≡ old ++ xs
      → StopsWithin mid ys new may_refuse e → StopsWithin old (xs ++ ys) new may_refuse e
  stops_after xs ys w s = record {
    written = xs ++ s.written;
    next = s.next;
    rest = s.rest;
    splits = grind (arith, append_assoc);
    holds = grind (arith, append_assoc);
    refused = s.refused;
  }

  -- the same for one argument
  pub stops_before_one : (x : List ℕ) (ys : List (List ℕ)) → StopsWithin old (x ∷ []) new may_refuse e
      → StopsWithin old (x ∷ ys) new may_refuse e
  stops_before_one x ys s = stops_before (x ∷ []) ys s

  pub stops_after_one : {mid : List (List ℕ)} (x : List ℕ) (ys : List (List ℕ)) → mid ≡ old ++ x ∷ []
      → StopsWithin mid ys new may_refuse e → StopsWithin old (x ∷ ys) new may_refuse e
  stops_after_one x ys w s = stops_after (x ∷ []) ys w s

-- at the exit of a `?`
pub stops_at_exit : {T E : Type 0} {old all new : List (List ℕ)} {may_refuse : List ℕ → E → Type 0} {e : E}
    (r : Result T E)
    → IsErrAnd r (λ y. y ≡ e) → StopsWithin old all new may_refuse e → IfErr r (StopsWithin old all new may_refuse)
stops_at_exit (Ok _) h s = tt
stops_at_exit {old = old} {all = all} {new = new} {may_refuse = may_refuse} (Err y) h s =
    subst (StopsWithin old all new may_refuse) (sym h) s

pub ruleset stops = (stops_at_once, stops_before, stops_after, stops_before_one, stops_after_one, stops_at_exit)

-- the run wrote the first elements' arguments, and stopped in those of the element at i
pub stops_in_element : {T E : Type 0} (f : T → List (List ℕ)) (xs : List T) (i : ℕ)
    (x : T) {old mid new : List (List ℕ)} {may_refuse : List ℕ → E → Type 0} {e : E}
    → i < length xs → x ≡ get_or xs i x → mid ≡ old ++ flat_map f (take i xs)
    → StopsWithin mid (f x) new may_refuse e → StopsWithin old (flat_map f xs) new may_refuse e
stops_in_element f (y ∷ ys) zero x {old = old} {mid = mid} {new = new} {may_refuse = r} {e = e} lt is w s =
    stops_before (f y) (flat_map f ys) (subst (λ m. StopsWithin m (f y) new r e) (w ∙ append-nil old)
    (subst (λ z. StopsWithin mid (f z) new r e) is s))
stops_in_element f (y ∷ ys) (suc i) x {old = old} lt is w s =
    stops_after (f y) (flat_map f ys) refl
    (stops_in_element f ys i x (omega arith) is (w ∙ sym (append_assoc old (f y) (flat_map f (take i ys)))) s)
stops_in_element f [] i x lt is w s = absurd (omega arith)

-- the same, if the clause also specifies what `Ok` means
pub wrote_at_exit : {T E : Type 0} {old all new : List (List ℕ)} {may_refuse : List ℕ → E → Type 0} {e : E}
    (r : Result T E)
    → IsErrAnd r (λ y. y ≡ e) → StopsWithin old all new may_refuse e
    → MatchResult r (λ _. new ≡ old ++ all) (StopsWithin old all new may_refuse)
wrote_at_exit (Ok _) h s = absurd h
wrote_at_exit {old = old} {all = all} {new = new} {may_refuse = may_refuse} (Err y) h s =
    subst (StopsWithin old all new may_refuse) (sym h) s
