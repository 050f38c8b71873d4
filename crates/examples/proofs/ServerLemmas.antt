-- What arguments ask for, as splits of them.
use Rattle.std.proofs.Common.{◌≡◌, ℕ, ◌-◌, ◌<◌, ◌≤◌, List, [], ◌∷◌, ◌++◌, length, take, drop, get_or, refl, sym, ◌∙◌}
use Rattle.std.proofs.Common.{ap, subst, arith}
use Rattle.std.proofs.Math.Seq.{take-length}
use Rattle.std.proofs.lemmas.List.{take-append-drop, take_at, drop_at, length-append, length-drop, drop-map}
use Rattle.std.specs.Global.{Vec}
use Rattle.redis.specs.Words.{AddFits, AddSettings as Add, Equal, HasNoSplit, IsFree, IsOneSplit}
use Rattle.redis.specs.Words.{IsSplit, add_sentence, add_words, arguments}
use Rattle.examples.specs.Server.{Asks}

-- what is asked for is a split
asked_split : (args : List (List ℕ)) (add : Add) (id : List ℕ) (fields : List (List ℕ)) → Asks args add id fields
    → IsSplit AddFits add_sentence add_words args add (length (add_sentence add))
asked_split args add id fields a = record {
  fits = a.fits;
  within = omega (arith, ap length a.spelled, length-append (add_sentence add) (id ∷ fields));
  spelled = rw a.spelled (take_at (add_sentence add) (id ∷ fields) (length (add_sentence add)) refl);
  free =
      rw a.spelled
      (subst (λ x. IsFree add_words x)
      (sym (drop_at (add_sentence add) (id ∷ fields) (length (add_sentence add)) refl)) a.apart);
}

-- what follows any split is the id and the fields
asked_rest : (args : List (List ℕ)) (o add : Add) (k : ℕ) (id : List ℕ) (fields : List (List ℕ))
    → IsOneSplit AddFits add_sentence add_words Equal args o k → Asks args add id fields
    → (o ≡ add) × (drop k args ≡ id ∷ fields)
asked_rest args o add k id fields one a =
    let same = one.only add (length (add_sentence add)) (asked_split args add id fields a) in (
      sym same.0,
      ap (λ n. drop n args) (sym same.1) ∙ ap (drop (length (add_sentence add))) a.spelled
          ∙ drop_at (add_sentence add) (id ∷ fields) (length (add_sentence add)) refl,
    )

-- a split before an id and fields is what is asked for
pub split_asked : (args : List (List ℕ)) (o : Add) (k : ℕ) (i : List ℕ) (fs : List (List ℕ))
    → IsOneSplit AddFits add_sentence add_words Equal args o k → drop k args ≡ i ∷ fs
    → Asks args o i fs
split_asked args o k i fs one e = record {
  fits = one.split.fits;
  spelled = sym (take-append-drop k args) ∙ ap (λ t. t ++ drop k args) one.split.spelled
      ∙ ap (λ r. add_sentence o ++ r) e;
  apart = subst (λ r. IsFree add_words r) e one.split.free;
}

-- and nothing else is
pub asked_once : (args : List (List ℕ)) (o add : Add) (k : ℕ) (i id : List ℕ) (fs fields : List (List ℕ))
    → IsOneSplit AddFits add_sentence add_words Equal args o k → drop k args ≡ i ∷ fs
    → Asks args add id fields → (o ≡ add) × (i ≡ id) × (fs ≡ fields)
asked_once args o add k i id fs fields one e a =
    let rest = asked_rest args o add k id fields one a in
    let same : i ∷ fs ≡ id ∷ fields = sym e ∙ rest.1 in
    (rest.0, cc, cc)

-- if nothing follows the split, nothing is asked for
pub asked_nothing : (args : List (List ℕ)) (o add : Add) (k : ℕ) (id : List ℕ) (fields : List (List ℕ))
    → IsOneSplit AddFits add_sentence add_words Equal args o k → drop k args ≡ []
    → Asks args add id fields → ⊥
asked_nothing args o add k id fields one e a =
    let same : [] ≡ id ∷ fields = sym e ∙ (asked_rest args o add k id fields one a).1 in
    absurd cc

-- nor if there is no split
pub unasked : (args : List (List ℕ)) (add : Add) (id : List ℕ) (fields : List (List ℕ))
    → HasNoSplit AddFits add_sentence add_words args → Asks args add id fields → ⊥
unasked args add id fields none a = none add (length (add_sentence add)) (asked_split args add id fields a)

-- a slice from a place on is what is left there
rest_whole : (xs : List (Vec ℕ)) (k : ℕ) → take (length xs - k) (drop k xs) ≡ drop k xs
rest_whole xs k = ap (λ n. take n (drop k xs)) (sym (length-drop k xs)) ∙ take-length (drop k xs)

first_of : (r : List (Vec ℕ)) (x : Vec ℕ) → 1 ≤ length r → x ≡ get_or r 0 x
    → arguments r ≡ x.items ∷ arguments (take (length r - 1) (drop 1 r))
first_of [] x le e = absurd (omega arith)
first_of (y ∷ ys) x le e =
    let n : length (y ∷ ys) - 1 ≡ length ys = omega arith in
    let same : x ≡ y = e in
    rw (n, take-length ys, same) refl

none_of : (r : List (Vec ℕ)) → length r < 1 → arguments r ≡ []
none_of [] lt = refl
none_of (y ∷ ys) lt = absurd (omega arith)

-- the arguments from a place on, by the slice that is matched: a first one and others, or none
pub arguments_first : (xs : List (Vec ℕ)) (k : ℕ) (x : Vec ℕ) → 1 ≤ length (take (length xs - k) (drop k xs))
    → x ≡ get_or (take (length xs - k) (drop k xs)) 0 x
    → drop k (arguments xs) ≡ x.items ∷ arguments
    (take (length (take (length xs - k) (drop k xs)) - 1) (drop 1 (take (length xs - k) (drop k xs))))
arguments_first xs k x le e = drop-map (λ arg. arg.items) k xs ∙ ap (λ r. arguments r) (sym (rest_whole xs k))
    ∙ first_of (take (length xs - k) (drop k xs)) x le e

pub arguments_none : (xs : List (Vec ℕ)) (k : ℕ) → length (take (length xs - k) (drop k xs)) < 1
    → drop k (arguments xs) ≡ []
arguments_none xs k lt = drop-map (λ arg. arg.items) k xs ∙ ap (λ r. arguments r) (sym (rest_whole xs k))
    ∙ none_of (take (length xs - k) (drop k xs)) lt
