-- Posts that go out.
use Rattle.std.proofs.Common.{◌≡◌, ◌⊎◌, ◌∙◌, refl, sym, ap, subst, inl, inr, ℕ, Bool, true, true≢false, not, ◌==◌, length}
use Rattle.std.proofs.Common.{Vec, List, [], ◌∷◌, map, Option, Some, None, IfSome, option_map, Result, Ok, Err, OnErr, OnOk}
use Rattle.redis_connection.specs.Link.{Link}
use Rattle.redis_resp.proofs.TreeLemmas.{tree-Array}
use Rattle.redis_resp.specs.Tree.{trees}
use Rattle.redis_resp.specs.Value.{tree}
use Rattle.redis_resp.specs.declared.value.Value.{Value, Array}
use Rattle.redis_wire.specs.Reply as wire
use Rattle.std.specs.declared.alloc.Global.{Global}
use Rattle.worker_table.specs.declared.row_table.cell.Column.{Column}
use Rattle.worker_table.specs.declared.row_table.post.Post as memory
use Rattle.worker_table.specs.RowTable.OfPost.{post_of}
use Rattle.worker_table.specs.RowTable.Posts.{IsFirst, Post, Posted, Stored, rows_in, rows_known, with_known_posted, without_post}
use Rattle.worker_table.specs.RowTable.Rows.{Key, Row}
use Rattle.worker_table.proofs.RowTableLemmas.PostsLemmas.{rows_put}
use Rattle.worker_table.specs.Forwarded.{AsksBy, HasSent, IsAdded, Went, are_some, forwarding_kept, has_entry, is_too_small}
use Rattle.worker_table.specs.Forwarded.{more, none, shows_one}
use Rattle.worker_table.specs.Kept.{committed_with}
use Rattle.worker_table.specs.declared.sending.SendError.{SendError}

-- ---- a post

pub added_before : (p : Post) (bytes : List ℕ) (a : wire.Answer) (old m new : Link) → bytes ≡ p.command
    → AsksBy bytes a old m → is_too_small a ≡ true
    → ((b : wire.Answer) × AsksBy p.question b m new × (shows_one b ≡ true)) → IsAdded p old new
added_before p bytes a old m new are asks small (b, looks, shows) =
    (a, inr (m, b, subst (λ (bs : List ℕ). AsksBy bs a old m) are asks, small, looks, shows))

some_entries : (items : List Value) (b : Bool) → b ≡ (length items == 0) → not b ≡ true
    → are_some (trees (map tree items)) ≡ true
some_entries [] b is some = absurd (true≢false (sym some ∙ ap not is))
some_entries (x ∷ xs) b is some = refl

-- an array with an entry in it
pub entry_in : (v : Value) (entries : Vec Value Global) (b : Bool) → v ≡ Array entries → b ≡ (length entries.items == 0)
    → not b ≡ true → has_entry (tree v) ≡ true
entry_in v entries b is len some =
    ap has_entry (ap tree is ∙ tree-Array entries) ∙ some_entries entries.items b len some

-- ---- all posts

-- the first one went out, and was removed
pub one_went : (l m n : Link) (s t u v : Option Stored) (found : Option memory.Post) (p : memory.Post) → Went l s m t
    → IfSome t (λ x. IsFirst (option_map post_of found) x.posts) → found ≡ Some p → IsAdded (post_of p) m n → u ≡ t
    → v ≡ option_map (λ x. without_post x (post_of p).key) u → Went l s n v
one_went l m n s t u v found p went first is added same without =
    subst (λ (o : Option Stored). Went l s n o)
    (sym (without ∙ ap (option_map (λ (x : Stored). without_post x (post_of p).key)) same))
    (more l m n s t (post_of p) went
    (subst (λ (f : Option memory.Post). IfSome t (λ x. IsFirst (option_map post_of f) x.posts)) is first) added)

-- ---- the rows stay

rows_left : (s : Option Stored) (k : Key) → rows_known (option_map (λ u. without_post u k) s) ≡ rows_known s
rows_left None k = refl
rows_left (Some s) k = refl

went_keeps : (l n : Link) (s t : Option Stored) → Went l s n t → rows_known t ≡ rows_known s
went_keeps l n s t (none m u) = refl
went_keeps l n s t (more o m k u v p went first added) = rows_left v p.key ∙ went_keeps o m u v went

-- what a handler keeps after it sent
pub sent_keeps : {A : Type 0} (columns : List Column) (loose : List Posted) (r : Result A SendError) (old new : Link)
    (s t : Option Stored) → OnOk r (HasSent r old s new t) → OnErr r ((t ≡ s) ⊎ HasSent r old s new t)
    → forwarding_kept columns loose t ≡ forwarding_kept columns loose s
sent_keeps columns loose r old new s t ok err =
    ap (λ (rows : Option (List Row)). record { columns = columns; loose = rows_in loose; committed = rows }) (by r ok err)
  where
    by : {A : Type 0} (r : Result A SendError) → OnOk r (HasSent r old s new t)
        → OnErr r ((t ≡ s) ⊎ HasSent r old s new t) → rows_known t ≡ rows_known s
    by (Ok x) done failed = went_keeps old new s t done.0
    by (Err e) done failed = elim failed [
      | inl is ↦ ap rows_known is
      | inr sent ↦ went_keeps old sent.0 s t sent.1
    ]

-- ---- a commit

pub committed_posted : (columns : List Column) (old new : List Posted) (before after : Option Stored) → new ≡ []
    → after ≡ with_known_posted old before
    → forwarding_kept columns new after ≡ committed_with (forwarding_kept columns old before)
committed_posted columns old new before after cleared put =
    ap (λ (ps : List Posted). forwarding_kept columns ps after) cleared
    ∙ ap (forwarding_kept columns []) put
    ∙ ap (λ (rows : Option (List Row)). record { columns = columns; loose = []; committed = rows }) (rows_put old before)
