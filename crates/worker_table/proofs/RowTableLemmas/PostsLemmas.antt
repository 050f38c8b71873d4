-- Rows that are put in with their posts.
use Rattle.std.proofs.Common.{◌≡◌, ◌∙◌, ◌⊎◌, refl, sym, ap, subst, inl, inr, Bool, true, false, true≢false, List, [], ◌∷◌, ◌++◌}
use Rattle.std.proofs.Common.{Option, Some, None, is_some, IfSome, option_map, if◌then◌else◌, Result, Ok, Err, OnOk}
use Rattle.worker_table.specs.RowTable.Rows.{AreKnown, Row, find, with_known, with_row, with_rows}
use Rattle.worker_table.specs.RowTable.Posts.{Posted, Stored, post_for, rows_in, rows_known, with_all_posted, with_known_posted, with_post, with_posted, with_stored}
use Rattle.worker_table.proofs.RowTableLemmas.PutLemmas.{PutSoFar, put_in, put_more, put_none}

-- ---- the rows of what is there

rows_one : (s : Stored) (p : Posted) → (with_posted s p).rows ≡ with_row s.rows p.0
rows_one s p = by (is_some (find p.0.0 s.rows))
  where
    other : Stored
    other = record { rows = s.rows ++ p.0 ∷ []; posts = s.posts ++ post_for p ∷ [] }

    by : (b : Bool) → (if b then s else other).rows ≡ (if b then s.rows else s.rows ++ p.0 ∷ [])
    by true = refl
    by false = refl

rows_all : (s : Stored) (ps : List Posted) → (with_all_posted s ps).rows ≡ with_rows s.rows (rows_in ps)
rows_all s [] = refl
rows_all s (p ∷ ps) =
    rows_all (with_posted s p) ps ∙ ap (λ (rs : List Row). with_rows rs (rows_in ps)) (rows_one s p)

pub rows_put : (ps : List Posted) (known : Option Stored)
    → rows_known (with_known_posted ps known) ≡ with_known (rows_in ps) (rows_known known)
rows_put ps None = refl
rows_put ps (Some s) = ap Some (rows_all s ps)

pub rows_both : (a b : List Posted) → rows_in (a ++ b) ≡ rows_in a ++ rows_in b
rows_both [] b = refl
rows_both (p ∷ a) b = ap (λ (rs : List Row). p.0 ∷ rs) (rows_both a b)

-- ---- one row that was not there

pub new_posted : (known mid new : Option Stored) (p : Posted)
    → IfSome known (λ s. is_some (find p.0.0 s.rows) ≡ false) → mid ≡ option_map (λ s. with_stored s p.0) known
    → new ≡ option_map (λ s. with_post s (post_for p)) mid → new ≡ with_known_posted (p ∷ []) known
new_posted None mid new p told one two = two ∙ ap (option_map (λ s. with_post s (post_for p))) one
new_posted (Some s) mid new p told one two =
    two ∙ ap (option_map (λ s. with_post s (post_for p))) one ∙ ap Some (by (is_some (find p.0.0 s.rows)) told)
  where
    other : Stored
    other = record { rows = s.rows ++ p.0 ∷ []; posts = s.posts ++ post_for p ∷ [] }

    by : (b : Bool) → b ≡ false
        → with_post (record { rows = if b then s.rows else s.rows ++ p.0 ∷ []; posts = s.posts }) (post_for p)
        ≡ (if b then s else other)
    by true e = absurd (true≢false e)
    by false e = refl

told_of_rows : (known : Option Stored) (r : Row) (b : Bool) → IfSome known (λ s. is_some (find r.0 s.rows) ≡ b)
    → IfSome (rows_known known) (λ rs. is_some (find r.0 rs) ≡ b)
told_of_rows None r b told = tt
told_of_rows (Some s) r b told = told

pub new_there : (known mid new : Option Stored) (p : Posted)
    → IfSome known (λ s. is_some (find p.0.0 s.rows) ≡ false) → mid ≡ option_map (λ s. with_stored s p.0) known
    → new ≡ option_map (λ s. with_post s (post_for p)) mid → AreKnown (rows_in (p ∷ [])) (rows_known new)
new_there known mid new p told one two =
    put_in (rows_known known) (rows_known new) p.0 (told_of_rows known p.0 false told)
    (ap rows_known (new_posted known mid new p told one two) ∙ rows_put (p ∷ []) known)

-- ---- all of them

in_turn : (s : Stored) (a b : List Posted) → with_all_posted s (a ++ b) ≡ with_all_posted (with_all_posted s a) b
in_turn s [] b = refl
in_turn s (p ∷ a) b = in_turn (with_posted s p) a b

known_in_turn : (known : Option Stored) (a b : List Posted)
    → with_known_posted (a ++ b) known ≡ with_known_posted b (with_known_posted a known)
known_in_turn None a b = refl
known_in_turn (Some s) a b = ap Some (in_turn s a b)

-- these were put in so far
pub record PostedSoFar (first : Option Stored) (done : List Posted) (known : Option Stored) : Type 0 where
  pub is : known ≡ with_known_posted done first
  pub rows : PutSoFar (rows_known first) (rows_in done) (rows_known known)

pub posted_none : (known : Option Stored) → PostedSoFar known [] known
posted_none None = record { is = refl; rows = put_none None }
posted_none (Some s) = record { is = refl; rows = put_none (Some s.rows) }

pub posted_more : (first known new : Option Stored) (done : List Posted) (p : Posted) → PostedSoFar first done known
    → new ≡ with_known_posted (p ∷ []) known → AreKnown (rows_in (p ∷ [])) (rows_known new)
    → PostedSoFar first (done ++ p ∷ []) new
posted_more first known new done p so_far more there = record {
  is = more ∙ ap (with_known_posted (p ∷ [])) so_far.is ∙ sym (known_in_turn first done (p ∷ []));
  rows = subst (λ (rs : List Row). PutSoFar (rows_known first) rs (rows_known new)) (sym (rows_both done (p ∷ [])))
      (put_more (rows_known first) (rows_in done) (rows_known known) (rows_known new) p.0 so_far.rows
      (ap rows_known more ∙ rows_put (p ∷ []) known) there);
}

-- -- facts of results

pub ok_too : {A E P Q : Type 0} (r : Result A E) → OnOk r P → (P → Q) → OnOk r Q
ok_too (Ok x) p f = f p
ok_too (Err e) p f = tt
