-- The fields that the replies of XINFO name, and the law that all others are ignored.
use Rattle.std.specs.Prelude.{◌≡◌, ◌⊎◌, ℕ, false, List, [], ◌∷◌, ◌++◌, Option, Some, codes}
use Rattle.std.specs.List.{AllByRecursion}
use Rattle.std.specs.Str.{bytes_eq}
use Rattle.redis_resp.specs.Tree.{Tree, items, pairs_in}
use Rattle.redis_resp.specs.Text.{text_reading}

-- the names of a stream's fields
abbrev pub stream_names : List (List ℕ)
stream_names = codes "last-generated-id" ∷ codes "radix-tree-keys" ∷ codes "radix-tree-nodes" ∷ codes "groups"
    ∷ codes "length" ∷ codes "first-entry" ∷ codes "last-entry" ∷ []

-- the names of the fields of a stream and of its idempotent producers
abbrev pub tracked_names : List (List ℕ)
tracked_names = codes "idmp-duration" ∷ codes "idmp-maxsize" ∷ codes "pids-tracked" ∷ codes "iids-tracked"
    ∷ codes "iids-added" ∷ codes "iids-duplicates" ∷ stream_names

-- the names of a consumer's fields
abbrev pub consumer_names : List (List ℕ)
consumer_names = codes "name" ∷ codes "pending" ∷ codes "idle" ∷ []

-- the names of a group's fields
abbrev pub group_names : List (List ℕ)
group_names = codes "name" ∷ codes "consumers" ∷ codes "pending" ∷ codes "last-delivered-id" ∷ codes "entries-read"
    ∷ codes "lag" ∷ []

-- the names of a consumer's fields in the reply of XINFO STREAM FULL
abbrev pub full_consumer_names : List (List ℕ)
full_consumer_names = codes "name" ∷ codes "seen-time" ∷ codes "active-time" ∷ codes "pel-count" ∷ codes "pending" ∷ []

-- the names of a group's fields in that reply
abbrev pub full_group_names : List (List ℕ)
full_group_names =
    codes "name" ∷ codes "last-delivered-id" ∷ codes "entries-read" ∷ codes "lag" ∷ codes "pel-count" ∷ codes "pending"
    ∷ codes "consumers" ∷ []

-- the names of a stream's fields in that reply
abbrev pub full_names : List (List ℕ)
full_names =
    codes "length" ∷ codes "radix-tree-keys" ∷ codes "radix-tree-nodes" ∷ codes "last-generated-id"
    ∷ codes "max-deleted-entry-id"
    ∷ codes "entries-added" ∷ codes "recorded-first-entry-id" ∷ codes "entries" ∷ codes "groups" ∷ []

-- it is none of the names
abbrev pub IsOther : List (List ℕ) → List ℕ → Type 0
IsOther names key = AllByRecursion (λ name. bytes_eq name key ≡ false) names

-- `more` has the pairs of `t` and, somewhere among them, one whose key is a text and none of the names
pub record HasOtherKey (names : List (List ℕ)) (t more : Tree) : Type 0 where
  pub before : List (Tree × Tree)
  pub after : List (Tree × Tree)
  pub key : Tree
  pub value : Tree
  pub text : List ℕ
  pub pairs : pairs_in t ≡ Some (before ++ after)
  pub more_pairs : pairs_in more ≡ Some (before ++ (key, value) ∷ after)
  pub is_text : text_reading key ≡ Some text
  pub is_other : IsOther names text

-- a pair with another key does not change the reading
abbrev pub OtherKeysChangeNothing : {M : Type 0} → List (List ℕ) → (Tree → Option M) → Type 0
OtherKeysChangeNothing names reading = (t more : Tree) → HasOtherKey names t more → reading more ≡ reading t

-- `more` has the items of `t`, with one item replaced by an item that is related to it by `IsMore`
pub record HasOtherItem (IsMore : Tree → Tree → Type 0) (t more : Tree) : Type 0 where
  pub before : List Tree
  pub after : List Tree
  pub item : Tree
  pub changed : Tree
  pub items_are : items t ≡ Some (before ++ item ∷ after)
  pub more_items_are : items more ≡ Some (before ++ changed ∷ after)
  pub is_more : IsMore item changed

-- `more` has the pairs of `t`, except that the value of one pair with this name is replaced by a value that is related
-- to it by `IsMore`
pub record HasOtherValue (name : List ℕ) (IsMore : Tree → Tree → Type 0) (t more : Tree) : Type 0 where
  pub before : List (Tree × Tree)
  pub after : List (Tree × Tree)
  pub key : Tree
  pub value : Tree
  pub changed : Tree
  pub pairs : pairs_in t ≡ Some (before ++ (key, value) ∷ after)
  pub more_pairs : pairs_in more ≡ Some (before ++ (key, changed) ∷ after)
  pub is_name : text_reading key ≡ Some name
  pub is_more : IsMore value changed

-- `more` is the group `t` with one additional field, of the group or of one of its consumers
abbrev pub HasMoreInGroup : Tree → Tree → Type 0
HasMoreInGroup t more =
    HasOtherKey full_group_names t more
    ⊎ HasOtherValue (codes "consumers") (HasOtherItem (HasOtherKey full_consumer_names)) t more

-- `more` is the stream `t` with one additional field, of the stream, of one of its groups or of one of their consumers
abbrev pub HasMoreInStream : Tree → Tree → Type 0
HasMoreInStream t more = HasOtherKey full_names t more
    ⊎ HasOtherValue (codes "groups") (HasOtherItem HasMoreInGroup) t more

-- one additional field, at any position, does not change the reading
abbrev pub MoreChangesNothing : {M : Type 0} → (Tree → Tree → Type 0) → (Tree → Option M) → Type 0
MoreChangesNothing IsMore reading = (t more : Tree) → IsMore t more → reading more ≡ reading t
