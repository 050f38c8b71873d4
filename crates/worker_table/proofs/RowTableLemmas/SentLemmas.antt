-- No post of an outbox is lost.
use Rattle.std.proofs.Common.{◌≡◌, ◌∙◌, ◌⊎◌, ◌==◌, refl, sym, ap, subst, inl, inr, ⊎_elim, ℕ, Bool, true, false, true≢false, List, [], ◌∷◌, ◌++◌}
use Rattle.std.proofs.Common.{Option, Some, None, is_some, IsSome, if◌then◌else◌}
use Rattle.std.proofs.lemmas.Bool.{eqb-true}
use Rattle.worker_table.specs.RowTable.Rows.{Cell, Key, Row, find, same_key}
use Rattle.worker_table.specs.RowTable.Posts.{IsAmong, IsFirst, Post, Posted, Stored, post_for, with_all_posted, with_posted, without, without_post}
use Rattle.worker_table.specs.RowTable.Sent.{Goes, HasKey, HasPost, NoPostIsLost, NoneIsLost, begins, puts, answers}
use Rattle.worker_table.proofs.RowTableLemmas.RowsLemmas.{both_true, same_self}

key_is : (a b : Key) → same_key a b ≡ true → a ≡ b
key_is a b h =
    let both = both_true (a.0 == b.0) (a.1 == b.1) h in
    ap (λ (n : ℕ). (n, a.1)) (eqb-true a.0 b.0 both.0) ∙ ap (λ (n : ℕ). (b.0, n)) (eqb-true a.1 b.1 both.1)

-- -- rows after others

found_last : (b : Bool) (cells : List Cell) (A : Type 0) → (b ≡ true → A)
    → IsSome (if b then Some cells else None) → A
found_last true cells A is h = is refl
found_last false cells A is h = absurd (true≢false (sym h))

found_step : (b : Bool) (cells : List Cell) (o more : Option (List Cell)) (A : Type 0) → (IsSome more → IsSome o ⊎ A)
    → IsSome (if b then Some cells else more) → IsSome (if b then Some cells else o) ⊎ A
found_step true cells o more A on h = inl refl
found_step false cells o more A on h = on h

found_in : (rows : List Row) (r : Row) (k : Key) → IsSome (find k (rows ++ r ∷ [])) → IsSome (find k rows) ⊎ (r.0 ≡ k)
found_in [] r k h = inr (found_last (same_key r.0 k) r.1 (r.0 ≡ k) (key_is r.0 k) h)
found_in (x ∷ xs) r k h =
    found_step (same_key x.0 k) x.1 (find k xs) (find k (xs ++ r ∷ [])) (r.0 ≡ k) (found_in xs r k) h

some_step : (b : Bool) (cells : List Cell) (o more : Option (List Cell)) → (IsSome o → IsSome more)
    → IsSome (if b then Some cells else o) → IsSome (if b then Some cells else more)
some_step true cells o more on h = refl
some_step false cells o more on h = on h

some_front : (rows more : List Row) (k : Key) → IsSome (find k rows) → IsSome (find k (rows ++ more))
some_front [] more k h = absurd (true≢false (sym h))
some_front (x ∷ xs) more k h =
    some_step (same_key x.0 k) x.1 (find k xs) (find k (xs ++ more)) (some_front xs more k) h

some_or : (b : Bool) (cells : List Cell) (o : Option (List Cell)) → IsSome o → IsSome (if b then Some cells else o)
some_or true cells o h = refl
some_or false cells o h = h

last_there : (rows : List Row) (r : Row) → IsSome (find r.0 (rows ++ r ∷ []))
last_there [] r = rw (same_self r.0) refl
last_there (x ∷ xs) r = some_or (same_key x.0 r.0) x.1 (find r.0 (xs ++ r ∷ [])) (last_there xs r)

-- -- posts after others

has_front : (posts more : List Post) (k : Key) → HasPost k posts → HasPost k (posts ++ more)
has_front [] more k h = absurd h
has_front (p ∷ ps) more k (inl is) = inl is
has_front (p ∷ ps) more k (inr later) = inr (has_front ps more k later)

has_last : (posts : List Post) (p : Post) → HasPost p.key (posts ++ p ∷ [])
has_last [] p = inl refl
has_last (q ∷ qs) p = inr (has_last qs p)

among_front : (posts more : List Post) (p : Post) → IsAmong p posts → IsAmong p (posts ++ more)
among_front [] more p h = absurd h
among_front (q ∷ qs) more p (inl is) = inl is
among_front (q ∷ qs) more p (inr later) = inr (among_front qs more p later)

among_both : (posts : List Post) (last p : Post) → IsAmong p (posts ++ last ∷ []) → IsAmong p posts ⊎ (last ≡ p)
among_both [] last p (inl is) = inr is
among_both [] last p (inr none) = absurd none
among_both (q ∷ qs) last p (inl is) = inl (inl is)
among_both (q ∷ qs) last p (inr later) = ⊎_elim (λ a. inl (inr a)) inr (among_both qs last p later)

-- ---- posts without one

has_step : (b : Bool) (j k : Key) (p : Post) (ps : List Post) → same_key p.key j ≡ b
    → (HasPost k ps → HasPost k (without j ps) ⊎ (j ≡ k)) → HasPost k (p ∷ ps)
    → HasPost k (if b then without j ps else p ∷ without j ps) ⊎ (j ≡ k)
has_step true j k p ps e on (inl is) = inr (sym (key_is p.key j e) ∙ is)
has_step true j k p ps e on (inr later) = on later
has_step false j k p ps e on (inl is) = inl (inl is)
has_step false j k p ps e on (inr later) = ⊎_elim (λ a. inl (inr a)) inr (on later)

has_without : (j k : Key) (posts : List Post) → HasPost k posts → HasPost k (without j posts) ⊎ (j ≡ k)
has_without j k [] h = absurd h
has_without j k (p ∷ ps) h = has_step (same_key p.key j) j k p ps refl (has_without j k ps) h

among_step : (b : Bool) (j : Key) (q p : Post) (ps : List Post) → same_key p.key j ≡ b
    → (IsAmong q ps → IsAmong q (without j ps) ⊎ (j ≡ q.key)) → IsAmong q (p ∷ ps)
    → IsAmong q (if b then without j ps else p ∷ without j ps) ⊎ (j ≡ q.key)
among_step true j q p ps e on (inl is) = inr (sym (key_is p.key j e) ∙ ap (λ (x : Post). x.key) is)
among_step true j q p ps e on (inr later) = on later
among_step false j q p ps e on (inl is) = inl (inl is)
among_step false j q p ps e on (inr later) = ⊎_elim (λ a. inl (inr a)) inr (on later)

among_without : (j : Key) (q : Post) (posts : List Post) → IsAmong q posts → IsAmong q (without j posts) ⊎ (j ≡ q.key)
among_without j q [] h = absurd h
among_without j q (p ∷ ps) h = among_step (same_key p.key j) j q p ps refl (among_without j q ps) h

within_step : (b : Bool) (j : Key) (q p : Post) (ps : List Post) → (IsAmong q (without j ps) → IsAmong q ps)
    → IsAmong q (if b then without j ps else p ∷ without j ps) → IsAmong q (p ∷ ps)
within_step true j q p ps on h = inr (on h)
within_step false j q p ps on (inl is) = inl is
within_step false j q p ps on (inr later) = inr (on later)

within : (j : Key) (q : Post) (posts : List Post) → IsAmong q (without j posts) → IsAmong q posts
within j q [] h = h
within j q (p ∷ ps) h = within_step (same_key p.key j) j q p ps (within j q ps) h

-- ---- the steps

module _ (first : Stored) where
  with_new : (s : Stored) (done : List Key) (p : Posted) → NoneIsLost first s done
      → NoneIsLost first (record { rows = s.rows ++ p.0 ∷ []; posts = s.posts ++ post_for p ∷ [] }) done
  with_new s done p lost = record {
    rows = λ k h. ⊎_elim
        (λ old. ⊎_elim inl (λ a. inr (⊎_elim (λ b. inl (has_front s.posts (post_for p ∷ []) k b)) inr a)) (lost.rows k old))
        (λ is. inr (inl (subst (λ (j : Key). HasPost j (s.posts ++ post_for p ∷ [])) is (has_last s.posts (post_for p)))))
        (found_in s.rows p.0 k h);
    posts = λ q a. ⊎_elim (λ b. inl (among_front s.posts (post_for p ∷ []) q b)) inr (lost.posts q a);
    early = λ q a. ⊎_elim
        (λ b. ⊎_elim inl (λ h. inr (some_front s.rows (p.0 ∷ []) q.key h)) (lost.early q b))
        (λ is. inr (subst (λ (x : Post). IsSome (find x.key (s.rows ++ p.0 ∷ []))) is (last_there s.rows p.0)))
        (among_both s.posts (post_for p) q a);
  }

  one_put : (s : Stored) (done : List Key) (p : Posted) → NoneIsLost first s done
      → NoneIsLost first (with_posted s p) done
  one_put s done p lost = by (is_some (find p.0.0 s.rows))
    where
      other : Stored
      other = record { rows = s.rows ++ p.0 ∷ []; posts = s.posts ++ post_for p ∷ [] }

      by : (b : Bool) → NoneIsLost first (if b then s else other) done
      by true = lost
      by false = with_new s done p lost

  all_put : (s : Stored) (done : List Key) (ps : List Posted) → NoneIsLost first s done
      → NoneIsLost first (with_all_posted s ps) done
  all_put s done [] lost = lost
  all_put s done (p ∷ ps) lost = all_put (with_posted s p) done ps (one_put s done p lost)

  one_answered : (s : Stored) (done : List Key) (j : Key) → NoneIsLost first s done
      → NoneIsLost first (without_post s j) (j ∷ done)
  one_answered s done j lost = record {
    rows = λ k h. ⊎_elim inl
        (λ a. inr (⊎_elim (λ b. ⊎_elim inl (λ is. inr (inl is)) (has_without j k s.posts b)) (λ d. inr (inr d)) a))
        (lost.rows k h);
    posts = λ q a. ⊎_elim (λ b. ⊎_elim inl (λ is. inr (inl is)) (among_without j q s.posts b)) (λ d. inr (inr d))
        (lost.posts q a);
    early = λ q a. lost.early q (within j q s.posts a);
  }

  none_lost : (s : Stored) (done : List Key) → Goes first s done → NoneIsLost first s done
  none_lost s done begins = record { rows = λ k h. inl h; posts = λ p a. inl a; early = λ p a. inl a }
  none_lost s done (puts t all ps g) = all_put t all ps (none_lost t all g)
  none_lost s done (answers t all p g is) = one_answered t all p.key (none_lost t all g)

pub law_holds : NoPostIsLost
law_holds first s done g = none_lost first s done g
