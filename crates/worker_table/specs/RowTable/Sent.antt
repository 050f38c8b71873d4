-- The contents of a table with an outbox, over every schedule of transactions and replies.
use Rattle.std.specs.Prelude.{◌≡◌, ◌⊎◌, List, [], ◌∷◌, Some, IsSome, map}
use Rattle.worker_table.specs.RowTable.Rows.{Key, find}
use Rattle.worker_table.specs.RowTable.Posts.{IsAmong, IsFirst, Post, Posted, Stored, with_all_posted, without_post}

-- `k` is one of the keys
abbrev pub HasKey : Key → List Key → Type 0
HasKey k [] = ⊥
HasKey k (x ∷ xs) = (x ≡ k) ⊎ HasKey k xs

-- a post with this key is in the outbox
abbrev pub HasPost : Key → List Post → Type 0
HasPost k posts = HasKey k (map (λ p. p.key) posts)

module _ (first : Stored) where
  -- The contents that may be committed after `first`, and the keys whose commands got a reply. `puts`: rows are
  -- inserted with their posts. `answers`: the first post is removed after its reply. A crash leaves the last
  -- commit, so it is not a step.
  pub data Goes : Stored → List Key → Type 0 where
    begins : Goes first []
    puts : (s : Stored) (done : List Key) (ps : List Posted) → Goes s done → Goes (with_all_posted s ps) done
    answers : (s : Stored) (done : List Key) (p : Post) → Goes s done → IsFirst (Some p) s.posts
        → Goes (without_post s p.key) (p.key ∷ done)

  -- Each row existed at first, or has a post in the outbox, or got a reply. Each post that existed at first is
  -- in the outbox or got a reply. Each other post in the outbox has a row.
  pub record NoneIsLost (s : Stored) (done : List Key) : Type 0 where
    pub rows : (k : Key) → IsSome (find k s.rows) → IsSome (find k first.rows) ⊎ (HasPost k s.posts ⊎ HasKey k done)
    pub posts : (p : Post) → IsAmong p first.posts → IsAmong p s.posts ⊎ HasKey p.key done
    pub early : (p : Post) → IsAmong p s.posts → IsAmong p first.posts ⊎ IsSome (find p.key s.rows)

-- the law: all contents that may be committed satisfy `NoneIsLost`
abbrev pub NoPostIsLost : Type 0
NoPostIsLost = (first s : Stored) (done : List Key) → Goes first s done → NoneIsLost first s done
