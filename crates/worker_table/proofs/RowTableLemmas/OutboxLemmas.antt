-- Posts in memory: copies of them, which of them are left, and which one is first.
use Rattle.std.proofs.Common.{◌≡◌, ◌∙◌, refl, sym, ap, inl, inr, ℕ, zero, suc, ◌<◌, ◌+◌, arith, Bool, true, false, not, List, [], ◌∷◌, ◌++◌, map, filter}
use Rattle.std.proofs.Common.{cond, if◌then◌else◌, IsTrue, length, get_or, take, subst}
use Rattle.std.proofs.lemmas.Grind.{common_steps}
use Rattle.std.proofs.lemmas.List.{map-append, map_more}
use Rattle.std.proofs.lemmas.List.Elements.{same_from_all_zip}
use Rattle.std.specs.List.{AllByRecursion, AllZip}
use Rattle.worker_table.specs.RowTable.OfPost.{post_of, posted_of}
use Rattle.worker_table.specs.RowTable.Posts as posts
use Rattle.worker_table.specs.RowTable.Posts.{IsAmong, is_not_behind, post_for, without}
use Rattle.worker_table.specs.RowTable.Rows.{Key, same_key}
use Rattle.worker_table.specs.contracts.row_table.post.PostClone.TheImpl.{ghosts as copying}
use Rattle.worker_table.specs.declared.row_table.post.Post.{Post}
use Rattle.worker_table.specs.declared.row_table.post.PostedRow.{PostedRow}

-- ---- copies

post_copied : (x y : Post) → copying.is_clone x y → post_of y ≡ post_of x
post_copied x y h = λ i. record {
  key = (h.0 i, h.1.0 i);
  command = same_from_all_zip _ x.command.items y.command.items h.1.1.0.0 (λ a b e. e) i;
  question = same_from_all_zip _ x.question.items y.question.items h.1.1.1.0 (λ a b e. e) i;
}

pub posts_copied : (xs ys : List Post) → AllZip copying.is_clone xs ys → map post_of ys ≡ map post_of xs
posts_copied [] [] h = refl
posts_copied [] (y ∷ ys) h = absurd h
posts_copied (x ∷ xs) [] h = absurd h
posts_copied (x ∷ xs) (y ∷ ys) h = λ i. post_copied x y h.0 i ∷ posts_copied xs ys h.1 i

-- the post of a row comes after the others
pub post_behind : (old new : List Post) (p : Post) (row : PostedRow) → p.first ≡ row.row.first → p.second ≡ row.row.second
    → p.command.items ≡ row.command.items → p.question.items ≡ row.question.items → new ≡ old ++ p ∷ []
    → map post_of new ≡ map post_of old ++ post_for (posted_of row) ∷ []
post_behind old new p row first second command question is =
    let same : post_of p ≡ post_for (posted_of row) =
    λ i. record { key = (first i, second i); command = command i; question = question i } in
    ap (map post_of) is ∙ map-append post_of old (p ∷ []) ∙ ap (λ (x : posts.Post). map post_of old ++ x ∷ []) same

-- ---- those of all other keys

left_step : (b : Bool) (p : Post) (ps : List Post) (k : Key) (left : List posts.Post) → map post_of ps ≡ left
    → map post_of (cond (not b) (p ∷ ps) ps) ≡ (if b then left else post_of p ∷ left)
left_step true p ps k left h = h
left_step false p ps k left h = ap (λ (rest : List posts.Post). post_of p ∷ rest) h

pub others_left : (k : Key) (ps : List Post)
    → map post_of (filter (λ p. not (same_key (post_of p).key k)) ps) ≡ without k (map post_of ps)
others_left k [] = refl
others_left k (p ∷ ps) =
    left_step (same_key (post_of p).key k) p (filter (λ q. not (same_key (post_of q).key k)) ps) k (without k (map post_of ps))
    (others_left k ps)

-- ---- the first one

own_order : (a : Key) → is_not_behind a a ≡ true
own_order a = grind (arith, common_steps)

other_order : (a b : Key) → is_not_behind a b ≡ false → is_not_behind b a ≡ true
other_order a b h = grind (arith, common_steps)

order_on : (a b c : Key) → is_not_behind a b ≡ true → is_not_behind b c ≡ true → is_not_behind a c ≡ true
order_on a b c h k = grind (arith, common_steps)

among_at : (ps : List Post) (i : ℕ) (p : Post) → i < length ps → p ≡ get_or ps i p
    → IsAmong (post_of p) (map post_of ps)
among_at [] i p within is = absurd (let no : ⊥ = omega arith in no)
among_at (x ∷ xs) zero p within is = inl (ap post_of (sym is))
among_at (x ∷ xs) (suc i) p within is = inr (among_at xs i p (omega arith) is)

-- the key is not after that of any of these
abbrev IsBefore : Key → List posts.Post → Type 0
IsBefore k ps = AllByRecursion (λ q. IsTrue (is_not_behind k q.key)) ps

before_more : (k : Key) (ps : List posts.Post) (p : posts.Post) → IsBefore k ps → is_not_behind k p.key ≡ true
    → IsBefore k (ps ++ p ∷ [])
before_more k [] p all one = (one, tt)
before_more k (x ∷ xs) p all one = (all.0, before_more k xs p all.1 one)

before_all : (j k : Key) (ps : List posts.Post) → is_not_behind j k ≡ true → IsBefore k ps → IsBefore j ps
before_all j k [] first all = tt
before_all j k (x ∷ xs) first all = (order_on j k x.key first all.0, before_all j k xs first all.1)

-- the first one among some
abbrev pub IsFirstSoFar : List Post → ℕ → Post → Type 0
IsFirstSoFar ps at p = IsAmong (post_of p) (map post_of ps) × IsBefore (post_of p).key (map post_of (take at ps))

with_more : (ps : List Post) (at : ℕ) (p : Post) (k : Key) → at < length ps → p ≡ get_or ps at p
    → IsBefore k (map post_of (take at ps)) → is_not_behind k (post_of p).key ≡ true
    → IsBefore k (map post_of (take (at + 1) ps))
with_more ps at p k within is all one =
    let further = map_more post_of ps at p within ∙ ap (λ (x : Post). map post_of (take at ps) ++ post_of x ∷ []) (sym is) in
    subst (IsBefore k) (sym further) (before_more k (map post_of (take at ps)) (post_of p) all one)

-- a post that comes before it
pub first_changes : (ps : List Post) (at : ℕ) (p old : Post) → at < length ps → p ≡ get_or ps at p → IsFirstSoFar ps at old
    → is_not_behind (post_of old).key (post_of p).key ≡ false → IsFirstSoFar ps (at + 1) p
first_changes ps at p old within is so_far after =
    let key = (post_of p).key in (
      among_at ps at p within is,
      with_more ps at p key within is
          (before_all key (post_of old).key (map post_of (take at ps)) (other_order (post_of old).key key after) so_far.1)
          (own_order key),
    )

-- and one that does not
pub first_stays : (ps : List Post) (at : ℕ) (p old : Post) → at < length ps → p ≡ get_or ps at p → IsFirstSoFar ps at old
    → is_not_behind (post_of old).key (post_of p).key ≡ true → IsFirstSoFar ps (at + 1) old
first_stays ps at p old within is so_far before =
    (so_far.0, with_more ps at p (post_of old).key within is so_far.1 before)
