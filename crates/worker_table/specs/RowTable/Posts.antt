-- A table with an outbox: its rows, and the commands that are to be sent for them.
use Rattle.std.specs.Prelude.{◌≡◌, ◌⊎◌, ◌&&◌, ◌||◌, ◌==◌, ℕ, Bool, List, [], ◌∷◌, ◌++◌, Option, Some, None, is_some}
use Rattle.std.specs.Prelude.{if◌then◌else◌, map, nat_le, nat_lt, option_map, IsTrue}
use Rattle.std.specs.List.{AllByRecursion}
use Rattle.worker_table.specs.RowTable.Rows.{Key, Row, find, same_key, with_row}

-- a command for the row with this key, and the query that checks whether it was executed
pub record Post : Type 0 where
  pub key : Key
  pub command : List ℕ
  pub question : List ℕ

-- the rows, and the posts, in the order of insertion
pub record Stored : Type 0 where
  pub rows : List Row
  pub posts : List Post

-- a row to insert, with the command and the query of its post
abbrev pub Posted : Type 0
Posted = Row × (List ℕ × List ℕ)

-- the post of the row, with the row's key
abbrev pub post_for : Posted → Post
post_for p = record { key = p.0.0; command = p.1.0; question = p.1.1 }

-- appends the row, unless its key exists
abbrev pub with_stored : Stored → Row → Stored
with_stored s r = record { rows = with_row s.rows r; posts = s.posts }

-- appends the post
abbrev pub with_post : Stored → Post → Stored
with_post s p = record { rows = s.rows; posts = s.posts ++ p ∷ [] }

-- appends the row and its post, unless the row's key exists
abbrev pub with_posted : Stored → Posted → Stored
with_posted s p = if is_some (find p.0.0 s.rows) then s else record {
  rows = s.rows ++ p.0 ∷ [];
  posts = s.posts ++ post_for p ∷ [];
}

-- appends the rows and their posts, one by one
abbrev pub with_all_posted : Stored → List Posted → Stored
with_all_posted s [] = s
with_all_posted s (p ∷ ps) = with_all_posted (with_posted s p) ps

-- inserts the rows and their posts into the contents, if these are known
abbrev pub with_known_posted : List Posted → Option Stored → Option Stored
with_known_posted ps known = option_map (λ s. with_all_posted s ps) known

-- the rows, without their posts
abbrev pub rows_in : List Posted → List Row
rows_in ps = map (λ p. p.0) ps

-- the rows of the contents, if these are known
abbrev pub rows_known : Option Stored → Option (List Row)
rows_known known = option_map (λ s. s.rows) known

-- the posts with other keys than `k`
abbrev pub without : Key → List Post → List Post
without k [] = []
without k (p ∷ ps) = if same_key p.key k then without k ps else p ∷ without k ps

-- the contents without the post with the key `k`
abbrev pub without_post : Stored → Key → Stored
without_post s k = record { rows = s.rows; posts = without k s.posts }

-- `p` is one of the posts
abbrev pub IsAmong : Post → List Post → Type 0
IsAmong p [] = ⊥
IsAmong p (q ∷ qs) = (q ≡ p) ⊎ IsAmong p qs

-- whether the key `a` is not after the key `b`. Keys are compared by their first numbers, and then by their
-- second numbers.
abbrev pub is_not_behind : Key → Key → Bool
is_not_behind a b = nat_lt a.0 b.0 || ((a.0 == b.0) && nat_le a.1 b.1)

-- the post with the smallest key, or `None` if there are no posts
abbrev pub IsFirst : Option Post → List Post → Type 0
IsFirst None posts = posts ≡ []
IsFirst (Some p) posts = IsAmong p posts × AllByRecursion (λ q. IsTrue (is_not_behind p.key q.key)) posts
