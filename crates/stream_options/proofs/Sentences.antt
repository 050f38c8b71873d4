-- Parts of arguments that can be read back: the lemmas compose as the arguments do.
use Rattle.std.proofs.Common.{◌≡◌, ℕ, ◌<◌, ◌^◌, Bool, true, false, not, ◌&&◌, ◌||◌, cond, List, [], ◌∷◌, ◌++◌, decimal}
use Rattle.std.proofs.Common.{Option, Some, None, refl, sym, ◌∙◌, subst, ap, append_assoc, append-nil, ◌⊎◌, inl, inr}
use Rattle.std.specs.Prelude.{IfSome}
use Rattle.std.specs.Option.{option_map, option_and_then}
use Rattle.std.specs.Str.{bytes_eq, is_utf8, IsUtf8}
use Rattle.std.specs.Str.Parse.{digits_value}
use Rattle.std.proofs.lemmas.Fmt.{decimal_is_IsNumeral}
use Rattle.std.proofs.lemmas.Str.{IsUtf8-from_is_utf8, is_utf8-from_IsUtf8}
use Rattle.std.proofs.lemmas.Slice.Eq.{bytes_eq-Decides}
use Rattle.std.proofs.lemmas.Bool.{ltb-true, lt-ltb}
use Rattle.std.proofs.lemmas.Option.{some_pair_parts, same_Some}
use Rattle.redis_args.specs.Clause.{clause, flag}
use Rattle.stream_options.specs.Laws.{Determines, IsExact, Equal}
use Rattle.stream_options.specs.ReadBack.{number_of, text_of, valued, argument_clause, set, unset, beside, followed}
use Rattle.stream_options.specs.ReadBack.{seen, reading_as, either, one, argument_at, if_passes, kept, filtered}
use Rattle.stream_options.specs.ReadBack.{optional, flag_clause, both}
use Rattle.stream_options.specs.Words.{among, begins, IsUsize}

-- Reading is the inverse of writing: written arguments are read again before any rest that begins
-- with none of the words, what is read was written, and the arguments are empty or begin with one
-- of the words.
pub record ReadsBack {T : Type 0} (Fits : T → Type 0) (write : T → List (List ℕ)) (words : List (List ℕ))
    (read : List (List ℕ) → Option (T × List (List ℕ))) : Type 0 where
  pub again : (x : T) (r : List (List ℕ)) → Fits x → begins words r ≡ false → read (write x ++ r) ≡ Some (x, r)
  pub takes : (args : List (List ℕ)) (x : T) (r : List (List ℕ)) → read args ≡ Some (x, r)
      → (args ≡ write x ++ r) × Fits x
  pub opens : (x : T) → (write x ≡ []) ⊎ (begins words (write x) ≡ true)

-- the reading is this value with this rest
abbrev pub gives : {T : Type 0} → Option (T × List (List ℕ)) → T → List (List ℕ) → Type 0
gives read x r = read ≡ Some (x, r)

-- so the written arguments and a free rest determine the value that was written, and the rest
pub told : {T : Type 0} (Fits : T → Type 0) (write : T → List (List ℕ)) (words : List (List ℕ))
    (read : List (List ℕ) → Option (T × List (List ℕ))) → ReadsBack Fits write words read
    → (x y : T) (r s : List (List ℕ)) → Fits x → Fits y → begins words r ≡ false → begins words s ≡ false
    → write x ++ r ≡ write y ++ s → (x ≡ y) × (r ≡ s)
told Fits write words read p x y r s fx fy fr fs e =
    some_pair_parts x y r s (sym (p.again x r fx fr) ∙ ap read e ∙ p.again y s fy fs)

-- ---- words

-- no word is in both
abbrev pub apart : List (List ℕ) → List (List ℕ) → Bool
apart ws [] = true
apart ws (v ∷ vs) = not (among ws v) && apart ws vs

-- each word is in the second
abbrev pub within : List (List ℕ) → List (List ℕ) → Bool
within [] vs = true
within (w ∷ ws) vs = among vs w && within ws vs

or_false : (a b : Bool) → (a || b) ≡ false → (a ≡ false) × (b ≡ false)
or_false true b e = absurd cc
or_false false b e = (refl, e)

pub and_true : (a b : Bool) → (a && b) ≡ true → (a ≡ true) × (b ≡ true)
and_true true b e = (refl, e)
and_true false b e = absurd cc

not_true : (a : Bool) → not a ≡ true → a ≡ false
not_true true e = absurd cc
not_true false e = refl

bytes_eq_same : (w : List ℕ) → bytes_eq w w ≡ true
bytes_eq_same w = (bytes_eq-Decides w w).1 refl

-- a word of the second is none of the first
among_apart : (ws vs : List (List ℕ)) (a : List ℕ) → apart ws vs ≡ true → among vs a ≡ true → among ws a ≡ false
among_apart ws [] a p e = absurd cc
among_apart ws (v ∷ vs) a p e =
    let parts = and_true (not (among ws v)) (apart ws vs) p in
    elim (bytes_eq a v) as (λ q. bytes_eq a v ≡ q → (q || among vs a) ≡ true → among ws a ≡ false) [
      | true ↦ λ h _. let same : a ≡ v = (bytes_eq-Decides a v).0 h in rw same (not_true (among ws v) parts.0)
      | false ↦ λ h m. among_apart ws vs a parts.1 m
    ] refl e

among-append : (ws vs : List (List ℕ)) (a : List ℕ) → among (ws ++ vs) a ≡ (among ws a || among vs a)
among-append [] vs a = refl
among-append (w ∷ ws) vs a =
    elim (bytes_eq a w) as (λ q. (q || among (ws ++ vs) a) ≡ ((q || among ws a) || among vs a)) [
      | true ↦ refl
      | false ↦ among-append ws vs a
    ]

free-append : (ws vs r : List (List ℕ)) → begins (ws ++ vs) r ≡ false → (begins ws r ≡ false) × (begins vs r ≡ false)
free-append ws vs [] e = (refl, refl)
free-append ws vs (a ∷ r) e = or_false (among ws a) (among vs a) (sym (among-append ws vs a) ∙ e)

among_first : (ws vs : List (List ℕ)) (a : List ℕ) → among ws a ≡ true → among (ws ++ vs) a ≡ true
among_first ws vs a h = among-append ws vs a ∙ ap (λ q. q || among vs a) h

among_second : (ws vs : List (List ℕ)) (a : List ℕ) → among vs a ≡ true → among (ws ++ vs) a ≡ true
among_second ws vs a h = among-append ws vs a
    ∙ elim (among ws a) as (λ q. (q || among vs a) ≡ true) [ true ↦ refl | false ↦ h ]

begins_first : (ws vs x y : List (List ℕ)) → begins ws x ≡ true → begins (ws ++ vs) (x ++ y) ≡ true
begins_first ws vs [] y h = absurd cc
begins_first ws vs (a ∷ x) y h = among_first ws vs a h

begins_second : (ws vs x : List (List ℕ)) → begins vs x ≡ true → begins (ws ++ vs) x ≡ true
begins_second ws vs [] h = absurd cc
begins_second ws vs (a ∷ x) h = among_second ws vs a h

begins_still : (ws x y : List (List ℕ)) → begins ws x ≡ true → begins ws (x ++ y) ≡ true
begins_still ws [] y h = absurd cc
begins_still ws (a ∷ x) y h = h

begins_apart : (ws vs x y : List (List ℕ)) → apart ws vs ≡ true → begins vs x ≡ true → begins ws (x ++ y) ≡ false
begins_apart ws vs [] y p h = absurd cc
begins_apart ws vs (a ∷ x) y p h = among_apart ws vs a p h

among_within : (ws vs : List (List ℕ)) (a : List ℕ) → within ws vs ≡ true → among vs a ≡ false → among ws a ≡ false
among_within [] vs a p e = refl
among_within (w ∷ ws) vs a p e =
    let parts = and_true (among vs w) (within ws vs) p in
    elim (bytes_eq a w) as (λ q. bytes_eq a w ≡ q → (q || among ws a) ≡ false) [
      | true ↦ λ h. let same : a ≡ w = (bytes_eq-Decides a w).0 h in let one : among vs a ≡ true =
          rw same parts.0 in absurd cc
      | false ↦ λ h. among_within ws vs a parts.1 e
    ] refl

-- arguments that begin with none of the words begin with none of fewer words
pub free_within : (ws vs r : List (List ℕ)) → within ws vs ≡ true → begins vs r ≡ false → begins ws r ≡ false
free_within ws vs [] p e = refl
free_within ws vs (a ∷ r) p e = among_within ws vs a p e

-- ---- one after the other

both_some : {A B : Type 0} (f : List (List ℕ) → Option (A × List (List ℕ)))
    (g : List (List ℕ) → Option (B × List (List ℕ))) (args : List (List ℕ)) (x : A) (y : B) (r s : List (List ℕ))
    → f args ≡ Some (x, r) → g r ≡ Some (y, s) → both f g args ≡ Some ((x, y), s)
both_some f g args x y r s p q = rw (p, q) refl

record BothSome {A B : Type 0} (f : List (List ℕ) → Option (A × List (List ℕ)))
    (g : List (List ℕ) → Option (B × List (List ℕ))) (args : List (List ℕ)) (x : A) (y : B)
    (s : List (List ℕ)) : Type 0 where
  r : List (List ℕ)
  first : f args ≡ Some (x, r)
  second : g r ≡ Some (y, s)

second_some : {A B : Type 0} (f : List (List ℕ) → Option (A × List (List ℕ)))
    (g : List (List ℕ) → Option (B × List (List ℕ))) (args : List (List ℕ)) (x a : A) (y : B) (r s : List (List ℕ))
    → f args ≡ Some (a, r) → (o : Option (B × List (List ℕ))) → g r ≡ o → option_map (beside a) o ≡ Some ((x, y), s)
    → BothSome f g args x y s
second_some f g args x a y r s h None o e = absurd cc
second_some f g args x a y r s h (Some z) o e =
    let p = some_pair_parts (a, z.0) (x, y) z.1 s e in
    let px : a ≡ x = ap (λ t. t.0) p.0 in
    let py : z.0 ≡ y = ap (λ t. t.1) p.0 in
    record {
      r = r;
      first = h ∙ ap (λ t. Some (t, r)) px;
      second = o ∙ ap (λ t. Some (t, z.1)) py
          ∙ ap (λ t. Some (y, t)) p.1;
    }

first_some : {A B : Type 0} (f : List (List ℕ) → Option (A × List (List ℕ)))
    (g : List (List ℕ) → Option (B × List (List ℕ))) (args : List (List ℕ)) (x : A) (y : B) (s : List (List ℕ))
    → (o : Option (A × List (List ℕ))) → f args ≡ o → option_and_then (followed g) o ≡ Some ((x, y), s)
    → BothSome f g args x y s
first_some f g args x y s None o e = absurd cc
first_some f g args x y s (Some z) o e = second_some f g args x z.0 y z.1 s o (g z.1) refl e

pub both_reads : {A B : Type 0} (F : A → Type 0) (f : A → List (List ℕ)) (ws : List (List ℕ))
    (rf : List (List ℕ) → Option (A × List (List ℕ)))
    (G : B → Type 0) (g : B → List (List ℕ)) (vs : List (List ℕ)) (rg : List (List ℕ) → Option (B × List (List ℕ)))
    → ReadsBack F f ws rf → ReadsBack G g vs rg → apart ws vs ≡ true
    → ReadsBack (λ x. F x.0 × G x.1) (λ x. f x.0 ++ g x.1) (ws ++ vs) (both rf rg)
both_reads F f ws rf G g vs rg p q ap_ = record {
  again = λ x r fits free.
      let parts = free-append ws vs r free in
      let mid : begins ws (g x.1 ++ r) ≡ false = elim (q.opens x.1) [
        | inl e ↦ rw e parts.0
        | inr e ↦ begins_apart ws vs (g x.1) r ap_ e
      ] in
      ap (both rf rg) (append_assoc (f x.0) (g x.1) r) ∙ both_some rf rg _ x.0 x.1 _ r
      (p.again x.0 (g x.1 ++ r) fits.0 mid) (q.again x.1 r fits.1 parts.1);
  takes = λ args x r e.
      let s = first_some rf rg args x.0 x.1 r (rf args) refl e in
      let one = p.takes args x.0 s.r s.first in
      let two = q.takes s.r x.1 r s.second in
      (one.0 ∙ ap (λ t. f x.0 ++ t) two.0 ∙ sym (append_assoc (f x.0) (g x.1) r), (one.1, two.1));
  opens = λ x. elim (p.opens x.0) [
    | inr e ↦ inr (begins_first ws vs (f x.0) (g x.1) e)
    | inl e ↦ rw e (elim (q.opens x.1) [
      | inl d ↦ inl d
      | inr d ↦ inr (begins_second ws vs (g x.1) d)
    ])
  ];
}

-- ---- a clause that may be left out

optional_some : {T : Type 0} (F : T → Type 0) (f : T → List (List ℕ)) (rf : List (List ℕ) → Option (T × List (List ℕ)))
    → ((args : List (List ℕ)) (x : T) (r : List (List ℕ)) → rf args ≡ Some (x, r) → (args ≡ f x ++ r) × F x)
    → (args : List (List ℕ)) (o : Option T) (r : List (List ℕ)) (z : Option (T × List (List ℕ))) → rf args ≡ z
    → option_map set z ≡ Some (o, r) → (args ≡ clause f o ++ r) × IfSome o F
optional_some F f rf takes args o r None h e = absurd cc
optional_some F f rf takes args o r (Some z) h e =
    let p = some_pair_parts (Some z.0) o z.1 r e in
    let t = takes args z.0 z.1 h in
    subst (λ o'. (args ≡ clause f o' ++ r) × IfSome o' F) p.0 (t.0 ∙ ap (λ s. f z.0 ++ s) p.1, t.1)

-- it always begins with one of its words
pub optional_reads : {T : Type 0} (F : T → Type 0) (f : T → List (List ℕ)) (ws : List (List ℕ))
    (rf : List (List ℕ) → Option (T × List (List ℕ)))
    → ReadsBack F f ws rf → ((x : T) → begins ws (f x) ≡ true)
    → ReadsBack (λ o. IfSome o F) (clause f) ws (optional ws rf)
optional_reads F f ws rf p strict = record {
  again = elim [
    | None ↦ λ r fits free. rw free refl
    | Some x ↦ λ r fits free. rw (begins_still ws (f x) r (strict x), p.again x r fits free) refl
  ];
  takes = λ args o r e. elim (begins ws args) as (λ q. gives (cond q (option_map set (rf args)) (Some (unset args))) o r
      → (args ≡ clause f o ++ r) × IfSome o F) [
        | true ↦ λ h. optional_some F f rf p.takes args o r (rf args) refl h
        | false ↦ λ h. let s = some_pair_parts None o args r h in
            subst (λ o'. (args ≡ clause f o' ++ r) × IfSome o' F) s.0
            (s.1, tt)
      ] e;
  opens = elim [
    | None ↦ inl refl
    | Some x ↦ inr (strict x)
  ];
}

-- ---- a word and its argument

-- an argument is read as the value that was written
pub record ReadsArgument {T : Type 0} (Fits : T → Type 0) (write : T → List ℕ) (of : List ℕ → Option T) : Type 0 where
  pub again : (x : T) → Fits x → of (write x) ≡ Some x
  pub takes : (bytes : List ℕ) (x : T) → of bytes ≡ Some x → (bytes ≡ write x) × Fits x

-- the clause of a word and an argument
abbrev pub worded : {T : Type 0} → List ℕ → (T → List ℕ) → T → List (List ℕ)
worded word write x = word ∷ write x ∷ []

valued_some : {T : Type 0} (F : T → Type 0) (write : T → List ℕ) (of : List ℕ → Option T) → ReadsArgument F write of
    → (word b : List ℕ) (rest : List (List ℕ)) (o : Option T) (r : List (List ℕ))
    → (z : Option T) → of b ≡ z → gives (option_map (λ x. set (x, rest)) z) o r
    → (word ∷ b ∷ rest ≡ clause (worded word write) o ++ r) × IfSome o F
valued_some F write of p word b rest o r None h e = absurd cc
valued_some F write of p word b rest o r (Some x) h e =
    let s = some_pair_parts (Some x) o rest r e in
    let t = p.takes b x h in
    subst (λ o'. (word ∷ b ∷ rest ≡ clause (worded word write) o' ++ r) × IfSome o' F) s.0 (rw (t.0, s.1) refl, t.1)

argument_takes : {T : Type 0} (F : T → Type 0) (write : T → List ℕ) (of : List ℕ → Option T) → ReadsArgument F write of
    → (word : List ℕ) (rest : List (List ℕ)) (o : Option T) (r : List (List ℕ))
    → gives (valued of rest) o r → (word ∷ rest ≡ clause (worded word write) o ++ r) × IfSome o F
argument_takes F write of p word [] o r e = absurd cc
argument_takes F write of p word (b ∷ rest) o r e = valued_some F write of p word b rest o r (of b) refl e

unset_takes : {T : Type 0} (F : T → Type 0) (f : T → List (List ℕ)) (args : List (List ℕ)) (o : Option T)
    (r : List (List ℕ)) → gives (Some (unset args)) o r → (args ≡ clause f o ++ r) × IfSome o F
unset_takes F f args o r e = let s =
    some_pair_parts None o args r e in subst (λ o'. (args ≡ clause f o' ++ r) × IfSome o' F) s.0 (s.1, tt)

pub argument_reads : {T : Type 0} (F : T → Type 0) (write : T → List ℕ) (of : List ℕ → Option T) (word : List ℕ)
    → ReadsArgument F write of
    → ReadsBack (λ o. IfSome o F) (clause (worded word write)) (word ∷ []) (argument_clause of word)
argument_reads F write of word p = record {
  again = elim [
    | Some x ↦ λ r fits free. rw (bytes_eq_same word, p.again x fits) refl
    | None ↦ elim [
      | [] ↦ λ fits free. refl
      | (a ∷ r) ↦ λ fits free. rw (or_false (bytes_eq a word) false free).0 refl
    ]
  ];
  takes = elim [
    | [] ↦ λ o r e. unset_takes F (worded word write) [] o r e
    | (a ∷ rest) ↦ λ o r. elim (bytes_eq a word) as (λ q. bytes_eq a word ≡ q
        → gives (cond q (valued of rest) (Some (unset (a ∷ rest)))) o r
        → (a ∷ rest ≡ clause (worded word write) o ++ r) × IfSome o F) [
          | true ↦ λ h e. let same : a ≡ word =
              (bytes_eq-Decides a word).0 h in rw same (argument_takes F write of p word rest o r e)
          | false ↦ λ h e. unset_takes F (worded word write) (a ∷ rest) o r e
        ] refl
  ];
  opens = elim [
    | None ↦ inl refl
    | Some x ↦ inr (ap (λ q. q || false) (bytes_eq_same word))
  ];
}

pub flag_reads : (word : List ℕ) → ReadsBack (λ b. Unit {0}) (flag word) (word ∷ []) (flag_clause word)
flag_reads word = record {
  again = elim [
    | true ↦ λ r fits free. rw (bytes_eq_same word) refl
    | false ↦ elim [
      | [] ↦ λ fits free. refl
      | (a ∷ r) ↦ λ fits free. rw (or_false (bytes_eq a word) false free).0 refl
    ]
  ];
  takes = elim [
    | [] ↦ λ b r e. let s = some_pair_parts false b [] r e in rw (← s.0, ← s.1) (refl, tt)
    | (a ∷ rest) ↦ λ b r. elim (bytes_eq a word) as (λ q. bytes_eq a word ≡ q
        → gives (cond q (Some (true, rest)) (Some (false, a ∷ rest))) b r → (a ∷ rest ≡ flag word b ++ r) × Unit {0}) [
          | true ↦ λ h e. let s = some_pair_parts true b rest r e in let same : a ≡ word =
              (bytes_eq-Decides a word).0 h in rw (← s.0, ← s.1, same) (refl, tt)
          | false ↦ λ h e. let s = some_pair_parts false b (a ∷ rest) r e in rw (← s.0, ← s.1) (refl, tt)
        ] refl
  ];
  opens = elim [
    | true ↦ inr (ap (λ q. q || false) (bytes_eq_same word))
    | false ↦ inl refl
  ];
}

-- ---- arguments

guard_some : {A : Type 0} (b : Bool) (x y : A) → cond b (Some x) None ≡ Some y → (b ≡ true) × (x ≡ y)
guard_some true x y e = (refl, same_Some x y e)
guard_some false x y e = absurd cc

pub number_reads : ReadsArgument IsUsize decimal number_of
unfolding number_of
number_reads = record {
  again = λ n fits.
      let v : digits_value 10 (decimal n) ≡ n = (decimal_is_IsNumeral n fits).1 in
      rw (v, bytes_eq_same (decimal n), lt-ltb n (2 ^ 64) fits) refl;
  takes = λ bytes n e.
      let g = guard_some _ (digits_value 10 bytes) n e in
      let t = and_true _ _ g.0 in
      let same : bytes ≡ decimal (digits_value 10 bytes) =
      (bytes_eq-Decides bytes (decimal (digits_value 10 bytes))).0 t.0 in
      (same ∙ ap decimal g.1, subst (λ m. m < 2 ^ 64) g.1 (ltb-true _ _ t.1));
}

pub text_reads : ReadsArgument IsUtf8 (λ x. x) text_of
unfolding text_of
text_reads = record {
  again = λ x fits. rw (is_utf8-from_IsUtf8 x fits) refl;
  takes = λ bytes x e.
      let g = guard_some (is_utf8 bytes) bytes x e in
      (g.1, subst IsUtf8 g.1 (IsUtf8-from_is_utf8 bytes g.0));
}

-- ---- the same as another type

pub seen_some : {T S : Type 0} (from : T → S) (z : Option (T × List (List ℕ))) (x : S) (r : List (List ℕ)) {P : Type 0}
    → gives (option_map (seen from) z) x r → ((t : T) → z ≡ Some (t, r) → from t ≡ x → P) → P
seen_some from None x r e k = absurd cc
seen_some from (Some z) x r e k = let s =
    some_pair_parts (from z.0) x z.1 r e in k z.0 (ap (λ t. Some (z.0, t)) s.1) s.0

pub as_reads : {S T : Type 0} (to : S → T) (from : T → S) (F : T → Type 0) (f : T → List (List ℕ)) (ws : List (List ℕ))
    (rf : List (List ℕ) → Option (T × List (List ℕ)))
    → ReadsBack F f ws rf → ((s : S) → from (to s) ≡ s) → ((t : T) → to (from t) ≡ t)
    → ReadsBack (λ s. F (to s)) (λ s. f (to s)) ws (reading_as from rf)
as_reads to from F f ws rf p back forth = record {
  again = λ x r fits free. rw (p.again (to x) r fits free) (ap (λ s. Some (s, r)) (back x));
  takes = λ args x r e. seen_some from (rf args) x r e (λ t h is.
      let same : t ≡ to x = sym (forth t) ∙ ap to is in
      subst (λ u. (args ≡ f u ++ r) × F u) same (p.takes args t r h));
  opens = λ x. p.opens (to x);
}

-- ---- one of two

abbrev pub cases : {A B : Type 0} {R : Type 0} → (A → R) → (B → R) → A ⊎ B → R
cases f g (inl x) = f x
cases f g (inr y) = g y

abbrev pub CasesFit : {A B : Type 0} → (A → Type 0) → (B → Type 0) → A ⊎ B → Type 0
CasesFit F G (inl x) = F x
CasesFit F G (inr y) = G y

pub either_reads : {A B : Type 0} (F : A → Type 0) (f : A → List (List ℕ)) (ws : List (List ℕ))
    (rf : List (List ℕ) → Option (A × List (List ℕ)))
    (G : B → Type 0) (g : B → List (List ℕ)) (vs : List (List ℕ)) (rg : List (List ℕ) → Option (B × List (List ℕ)))
    (firsts : List (List ℕ))
    → ReadsBack F f ws rf → ReadsBack G g vs rg → ((x : A) → begins firsts (f x) ≡ true) → apart firsts vs ≡ true
    → within firsts ws ≡ true
    → ReadsBack (CasesFit F G) (cases f g) (ws ++ vs) (either firsts (λ x. inl x) rf (λ y. inr y) rg)
either_reads F f ws rf G g vs rg firsts p q strict ap_ in_ = record {
  again = elim [
    | inl x ↦ λ r fits free. rw (
      begins_still firsts (f x) r (strict x),
      p.again x r fits (free-append ws vs r free).0,
    ) refl
    | inr y ↦ λ r fits free.
        let parts = free-append ws vs r free in
        let none : begins firsts (g y ++ r) ≡ false = elim (q.opens y) [
          | inl e ↦ rw e (free_within firsts ws r in_ parts.0)
          | inr e ↦ begins_apart firsts vs (g y) r ap_ e
        ] in
        rw (none, q.again y r fits parts.1) refl
  ];
  takes = λ args x r. elim (begins firsts args) as
      (λ b. gives (cond b (option_map (seen (λ x. inl x)) (rf args)) (option_map (seen (λ y. inr y)) (rg args))) x r
      → (args ≡ cases f g x ++ r) × CasesFit F G x) [
        | true ↦ λ e. seen_some (λ x. inl x) (rf args) x r e
            (λ t h is. subst (λ u. (args ≡ cases f g u ++ r) × CasesFit F G u) is (p.takes args t r h))
        | false ↦ λ e. seen_some (λ y. inr y) (rg args) x r e
            (λ t h is. subst (λ u. (args ≡ cases f g u ++ r) × CasesFit F G u) is (q.takes args t r h))
      ];
  opens = elim [
    | inl x ↦ elim (p.opens x) [
      | inl e ↦ inl e
      | inr e ↦ inr (subst (λ t. begins (ws ++ vs) t ≡ true) (append-nil (f x)) (begins_first ws vs (f x) [] e))
    ]
    | inr y ↦ elim (q.opens y) [
      | inl e ↦ inl e
      | inr e ↦ inr (begins_second ws vs (g y) e)
    ]
  ];
}

-- ---- only values that pass a test

passes_some : {T : Type 0} (test : T → Bool) (o : Option T) (y : T) {P : Type 0}
    → option_and_then (if_passes test) o ≡ Some y → (o ≡ Some y → test y ≡ true → P) → P
passes_some test None y e k = absurd cc
passes_some test (Some x) y e k = let g =
    guard_some (test x) x y e in k (ap (λ t. Some t) g.1) (subst (λ t. test t ≡ true) g.1 g.0)

pub kept_reads : {T : Type 0} (F : T → Type 0) (write : T → List ℕ) (of : List ℕ → Option T) (test : T → Bool)
    → ReadsArgument F write of → ReadsArgument (λ x. F x × (test x ≡ true)) write (kept test of)
kept_reads F write of test p = record {
  again = λ x fits. rw (p.again x fits.0, fits.1) refl;
  takes = λ bytes x e. passes_some test (of bytes) x e (λ h t. let k = p.takes bytes x h in (k.0, (k.1, t)));
}

pub filtered_reads : {T : Type 0} (F : T → Type 0) (f : T → List (List ℕ)) (ws : List (List ℕ))
    (rf : List (List ℕ) → Option (T × List (List ℕ))) (test : T → Bool) → ReadsBack F f ws rf
    → ReadsBack (λ x. F x × (test x ≡ true)) f ws (filtered test rf)
filtered_reads F f ws rf test p = record {
  again = λ x r fits free. rw (p.again x r fits.0 free, fits.1) refl;
  takes = λ args x r e. passes_some (λ y. test y.0) (rf args) (x, r) e
      (λ h t. let k = p.takes args x r h in (k.0, (k.1, t)));
  opens = p.opens;
}

-- ---- a whole type

among_more : (ws vs : List (List ℕ)) (a : List ℕ) → within ws vs ≡ true → among ws a ≡ true → among vs a ≡ true
among_more ws vs a p e = elim (among vs a) as (λ q. among vs a ≡ q → among vs a ≡ true) [
  | true ↦ λ h. h
  | false ↦ λ h. let f : among ws a ≡ false = among_within ws vs a p h in absurd cc
] refl

begins_more : (ws vs x : List (List ℕ)) → within ws vs ≡ true → begins ws x ≡ true → begins vs x ≡ true
begins_more ws vs [] p e = absurd cc
begins_more ws vs (a ∷ x) p e = among_more ws vs a p e

-- the same with more words, and with a predicate of its own for the values that fit
pub whole : {T : Type 0} (F : T → Type 0) (f : T → List (List ℕ)) (ws : List (List ℕ))
    (rf : List (List ℕ) → Option (T × List (List ℕ))) → ReadsBack F f ws rf
    → (words : List (List ℕ)) → within ws words ≡ true → (Fit : T → Type 0) → ((x : T) → Fit x → F x)
    → ((x : T) → F x → Fit x) → ReadsBack Fit f words rf
whole F f ws rf p words in_ Fit into out = record {
  again = λ x r fits free. p.again x r (into x fits) (free_within ws words r in_ free);
  takes = λ args x r e. let t = p.takes args x r e in (t.0, out x t.1);
  opens = λ x. elim (p.opens x) [ inl e ↦ inl e | inr e ↦ inr (begins_more ws words (f x) in_ e) ];
}

-- a value that can be read back is determined by its arguments, which a free rest follows
pub determined : {T : Type 0} (Fit : T → Type 0) (f : T → List (List ℕ)) (words : List (List ℕ))
    (rf : List (List ℕ) → Option (T × List (List ℕ))) → ReadsBack Fit f words rf
    → Determines Fit f words Equal
determined Fit f words rf p = told Fit f words rf p

-- and two values are equal exactly if their arguments are
pub exact : {T : Type 0} (Fit : T → Type 0) (f : T → List (List ℕ)) (words : List (List ℕ))
    (rf : List (List ℕ) → Option (T × List (List ℕ))) → ReadsBack Fit f words rf
    → IsExact Fit f Equal
exact Fit f words rf p a b fa fb =
    (λ e. ap f e, λ e. (told Fit f words rf p a b [] [] fa fb refl refl (ap (λ t. t ++ []) e)).0)

-- ---- one argument alone

pub one_takes : {A V : Type 0} (make : A → V) (o : Option A) (rest : List (List ℕ)) (v : V)
    (r : List (List ℕ)) {P : Type 0} → gives (one make o rest) v r
    → ((a : A) → o ≡ Some a → make a ≡ v → rest ≡ r → P) → P
one_takes make None rest v r e k = absurd cc
one_takes make (Some a) rest v r e k = let s = some_pair_parts (make a) v rest r e in k a refl s.0 s.1

-- an argument that is one of the words
pub argument_at_reads : {T : Type 0} (F : T → Type 0) (write : T → List ℕ) (of : List ℕ → Option T)
    (words : List (List ℕ)) → ReadsArgument F write of
    → ((x : T) → begins words (write x ∷ []) ≡ true) → ReadsBack F (λ x. write x ∷ []) words (argument_at of)
argument_at_reads F write of words p strict = record {
  again = λ x r fits free. rw (p.again x fits) refl;
  takes = elim [
    | [] ↦ λ x r e. absurd cc
    | (a ∷ rest) ↦ λ x r e. one_takes (λ x. x) (of a) rest x r e (λ q h is s.
        let k = p.takes a q h in
        subst (λ y. (a ∷ rest ≡ write y ∷ r) × F y) is (rw (k.0, s) refl, k.1))
  ];
  opens = λ x. inr (strict x);
}

-- ---- for the parsers of arguments

-- The same if the value read again may differ in settings that are not compared.
pub record ReadsAlike {T : Type 0} (Fits : T → Type 0) (write : T → List (List ℕ)) (words : List (List ℕ))
    (Alike : T → T → Type 0) (read : List (List ℕ) → Option (T × List (List ℕ))) : Type 0 where
  pub again : (x : T) (r : List (List ℕ)) → Fits x → begins words r ≡ false
      → (y : T) × (read (write x ++ r) ≡ Some (y, r)) × Alike x y
  pub takes : (args : List (List ℕ)) (x : T) (r : List (List ℕ)) → read args ≡ Some (x, r)
      → (args ≡ write x ++ r) × Fits x

-- an inverse, if all settings are compared
pub alike : {T : Type 0} {Fits : T → Type 0} {write : T → List (List ℕ)} {words : List (List ℕ)} {read : List (List ℕ)
    → Option (T × List (List ℕ))}
    → ReadsBack Fits write words read → ReadsAlike Fits write words Equal read
alike p = record {
  again = λ x r fits free. (x, p.again x r fits free, refl);
  takes = p.takes;
}
