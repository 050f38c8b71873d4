-- The values that read as the reply of an automatic claim.
use Rattle.std.specs.Prelude.{ℕ, List, [], ◌∷◌, flat_map, length, nat_lt, Bool, false, Option, Some, None, option_map}
use Rattle.std.specs.FinMap.{empty}
use Rattle.redis_resp.specs.Then.{◌>>=◌}
use Rattle.redis_resp.specs.Tree.{Tree, nil, bulk, array, array_of_plain}
use Rattle.redis_resp.specs.Text.{text_reading}
use Rattle.redis_resp.specs.Reading.{list_reading, option_reading}
use Rattle.stream_entries.specs.Entry.{Entry, entry_of}
use Rattle.stream_entries.specs.Rows.{rows_reading}

-- the id to continue with, the entries that were claimed, the deleted ids, and whether the list of claimed
-- entries has more items than entries
pub record AutoClaim : Type 0 where
  pub next : List ℕ
  pub claimed : List Entry
  pub deleted : List (List ℕ)
  pub invalid : Bool

-- the reply without ids and entries
abbrev pub empty_autoclaim : AutoClaim
empty_autoclaim = record { next = []; claimed = []; deleted = []; invalid = false }

-- the kind of the items of a claimed list: only nil, ids, or rows
pub data ClaimedKind : Type 0 where
  nils : ClaimedKind
  ids : ClaimedKind
  rows : ClaimedKind

-- the kind of the first item that is not nil, a bulk string or an array; no item has an attribute around it
abbrev pub kind_of_items : List Tree → Option ClaimedKind
kind_of_items [] = Some nils
kind_of_items (nil ∷ items) = kind_of_items items
kind_of_items (bulk bytes ∷ items) = Some ids
kind_of_items (array members ∷ items) = Some rows
kind_of_items (item ∷ items) = None

-- the kind of a list of items, and their number
abbrev pub shape_of_items : List Tree → Option (ClaimedKind × ℕ)
shape_of_items items = option_map (λ kind. (kind, length items)) (kind_of_items items)

-- the same of a claimed list, an array with no attribute around it
abbrev pub claimed_shape : Tree → Option (ClaimedKind × ℕ)
claimed_shape t = array_of_plain t >>= shape_of_items

-- an id is an entry without fields, and a missing one is none
abbrev pub id_entries : Option (List ℕ) → List Entry
id_entries None = []
id_entries (Some id) = entry_of (id, empty) ∷ []

-- the entries of a claimed list of that kind
abbrev pub entries_by_kind : ClaimedKind → Tree → Option (List Entry)
entries_by_kind nils t = Some []
entries_by_kind ids t = option_map (flat_map id_entries) (list_reading (option_reading text_reading) t)
entries_by_kind rows t = rows_reading t

-- the entries of a claimed list of that shape, and whether they are fewer than its items
abbrev pub claimed_by_shape : Tree → ClaimedKind × ℕ → Option (List Entry × Bool)
claimed_by_shape t shape = option_map (λ entries. (entries, nat_lt (length entries) shape.1))
    (entries_by_kind shape.0 t)

-- the entries of a claimed list, and whether they are fewer than its items
abbrev pub claimed_reading : Tree → Option (List Entry × Bool)
claimed_reading t = claimed_shape t >>= claimed_by_shape t

-- the next id, the claimed list and, if there is a third item, the deleted ids
abbrev pub Parts : Type 0
Parts = Tree × Tree × Option Tree

-- the parts of a list of two or three
abbrev pub two_or_three : List Tree → Option Parts
two_or_three (next ∷ claimed ∷ []) = Some (next, claimed, None)
two_or_three (next ∷ claimed ∷ deleted ∷ []) = Some (next, claimed, Some deleted)
two_or_three _ = None

-- the parts of a reply, an array with no attribute around it
abbrev pub parts_in : Tree → Option Parts
parts_in t = array_of_plain t >>= two_or_three

-- the deleted ids; none if the reply has no such item
abbrev pub deleted_reading : Option Tree → Option (List (List ℕ))
deleted_reading None = Some []
deleted_reading (Some t) = list_reading text_reading t

-- each part by its own reading
abbrev pub autoclaim_of : Parts → Option AutoClaim
autoclaim_of parts =
    claimed_reading parts.1 >>= λ claimed.
    deleted_reading parts.2 >>= λ deleted.
    text_reading parts.0 >>= λ next.
    Some (record { next = next; claimed = claimed.0; deleted = deleted; invalid = claimed.1 })

-- an array of two or three: the next id, the claimed list and the deleted ids
abbrev pub autoclaim_reading : Tree → Option AutoClaim
autoclaim_reading t = parts_in t >>= autoclaim_of
