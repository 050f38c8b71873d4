-- What a reading means for the splits of an argument list.
use Rattle.std.proofs.Common.{◌≡◌, ℕ, zero, suc, get_or, add-one, ◌-◌, ◌+◌, ◌≤◌, ◌<◌, Bool, true, false, ◌||◌, List, []}
use Rattle.std.proofs.Common.{◌∷◌, ◌++◌, map, length, drop, Option, Some, None, refl, sym, ◌∙◌, subst, ap, arith}
use Rattle.std.specs.Str.{bytes_eq}
use denote.Ref.{Bor}
use Rattle.std.proofs.lemmas.List.{take-append-drop, take_at, drop_at, length-append, length-drop}
use Rattle.std.proofs.lemmas.Option.{some_pair_parts, none-some}
use Rattle.stream_options.specs.Words.{among, begins, IsFree}
use Rattle.stream_options.proofs.Sentences.{ReadsAlike}
use Rattle.stream_option_parsing.specs.Split.{IsSplit, IsOneSplit, HasNoSplit, Fails}
use Rattle.stream_option_parsing.specs.declared.error.SentenceError.{SentenceError}
use Rattle.stream_option_parsing.specs.declared.error.SentenceError.TheVariants.{NotASentence, Memory}

among_at : (words : List (Bor (List ℕ))) (i : ℕ) (d : Bor (List ℕ)) (a : List ℕ) → i < length words
    → among (map (λ w. w.now) (drop i words)) a
    ≡ (bytes_eq a (get_or words i d).now || among (map (λ w. w.now) (drop (suc i) words)) a)
among_at [] i d a lt = absurd (omega arith)
among_at (x ∷ xs) zero d a lt = refl
among_at (x ∷ xs) (suc i) d a lt = among_at xs i d a (omega arith)

-- one word more is looked at
pub among_drop : (words : List (Bor (List ℕ))) (i : ℕ) (d : Bor (List ℕ)) (w a : List ℕ) (q : Bool) → i < length words
    → w ≡ (get_or words i d).now → bytes_eq a w ≡ q
    → among (map (λ w. w.now) (drop i words)) a ≡ (q || among (map (λ w. w.now) (drop (i + 1) words)) a)
among_drop words i d w a q lt e h = rw (add-one, ← h, e) (among_at words i d a lt)

module _ {T : Type 0} (Fits : T → Type 0) (f : T → List (List ℕ)) (words : List (List ℕ)) (Alike : T → T → Type 0)
    (read : List (List ℕ) → Option (T × List (List ℕ))) (p : ReadsAlike Fits f words Alike read) where
  -- the sentence, and what follows it
  whole : (args : List (List ℕ)) (o : T) (k : ℕ) → IsSplit Fits f words args o k → args ≡ f o ++ drop k args
  whole args o k s = sym (take-append-drop k args) ∙ ap (λ t. t ++ drop k args) s.spelled

  -- a split is read
  split_read : (args : List (List ℕ)) (o : T) (k : ℕ) → IsSplit Fits f words args o k
      → (x : T) × (read args ≡ Some (x, drop k args)) × Alike o x
  split_read args o k s =
      let a = p.again o (drop k args) s.fits s.free in
      (a.0, ap read (whole args o k s) ∙ a.1, a.2)

  -- what is read, and followed by a free rest, is a split
  pub split_found : (args : List (List ℕ)) (o : T) (r : List (List ℕ)) → read args ≡ Some (o, r)
      → begins words r ≡ false → IsSplit Fits f words args o (length args - length r)
  split_found args o r e free =
      let t = p.takes args o r e in
      let n : length args - length r ≡ length (f o) = omega (arith, ap length t.0, length-append (f o) r) in
      record {
        fits = t.1;
        within = omega arith;
        spelled = rw (n, t.0) (take_at (f o) r (length (f o)) refl);
        free = rw (n, t.0) (subst (λ x. IsFree words x) (sym (drop_at (f o) r (length (f o)) refl)) free);
      }

  -- the rest is no longer than all the arguments
  pub rest_le : (args : List (List ℕ)) (o : T) (r : List (List ℕ)) → read args ≡ Some (o, r) → length r ≤ length args
  rest_le args o r e = omega (arith, ap length (p.takes args o r e).0, length-append (f o) r)

  -- it is the one split
  pub one_split : (args : List (List ℕ)) (o : T) (r : List (List ℕ)) → read args ≡ Some (o, r) → begins words r ≡ false
      → IsOneSplit Fits f words Alike args o (length args - length r)
  one_split args o r e free =
      let s = split_found args o r e free in
      record {
        split = s;
        only = λ other l t.
            let x = split_read args other l t in
            let d = some_pair_parts x.0 o (drop l args) r (sym x.1 ∙ e) in (
              subst (λ y. Alike other y) d.0 x.2,
              omega (arith, ap length d.1, length-drop l args, t.within, rest_le args o r e),
            );
      }

  -- all splits have the same k
  pub same_count : (args : List (List ℕ)) (a b : T) (k l : ℕ) → IsSplit Fits f words args a k
      → IsSplit Fits f words args b l → k ≡ l
  same_count args a b k l s t =
      let x = split_read args a k s in
      let y = split_read args b l t in
      let d = some_pair_parts x.0 y.0 (drop k args) (drop l args) (sym x.1 ∙ y.1) in
      omega (arith, ap length d.1, length-drop k args, length-drop l args, s.within, t.within)

  -- if nothing is read there is no split
  pub split_none : (args : List (List ℕ)) → read args ≡ None → HasNoSplit Fits f words args
  split_none args e o k s = let x = split_read args o k s in none-some (x.0, drop k args) (sym e ∙ x.1)

  -- nor if what follows isn't free
  pub split_not_free : (args : List (List ℕ)) (o : T) (r : List (List ℕ)) → read args ≡ Some (o, r)
      → begins words r ≡ true → HasNoSplit Fits f words args
  split_not_free args o r e begun other k s =
      let x = split_read args other k s in
      let d = some_pair_parts o x.0 r (drop k args) (sym e ∙ x.1) in
      let q : true ≡ false = sym begun ∙ ap (begins words) d.1 ∙ s.free in absurd cc

  -- if reading failed for another cause than memory
  pub split_fails : (args : List (List ℕ)) (e : SentenceError) → Fails e (read args) → e ≡ NotASentence
      → HasNoSplit Fits f words args
  split_fails args NotASentence h m = split_none args h
  split_fails args Memory h m = absurd cc
