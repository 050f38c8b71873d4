-- The meaning of the invalid-entries flag of an automatic claim.
use Rattle.std.specs.Prelude.{◌≡◌, ◌⊎◌, List, [], ◌∷◌, Bool, true, Some, IsSome}
use Rattle.std.specs.List.{AllByRecursion, list_any}
use Rattle.redis_resp.specs.Tree.{Tree, plain, array_of_plain, pairs_in}
use Rattle.redis_resp.specs.Text.{text_reading}
use Rattle.redis_resp.specs.Reading.{is_nil}
use Rattle.stream_entries.specs.AutoClaim.{AutoClaim, Parts, autoclaim_reading, parts_in}

-- the value is nil, whatever attributes are around it
abbrev pub holds_nil : Tree → Bool
holds_nil item = is_nil (plain item)

-- one id, or a row of one pair
abbrev pub IsOneEntry : Tree → Type 0
IsOneEntry item = IsSome (text_reading item) ⊎ ((pair : Tree × Tree) × (pairs_in item ≡ Some (pair ∷ [])))

-- An accepted claimed list each item of which is nil, one id or a row of one pair: entries are marked invalid exactly
-- if an item is nil.
abbrev pub InvalidEntriesTellNil : Type 0
InvalidEntriesTellNil = (t : Tree) (reply : AutoClaim) (parts : Parts) (items : List Tree)
    → autoclaim_reading t ≡ Some reply → parts_in t ≡ Some parts
    → array_of_plain parts.1 ≡ Some items → AllByRecursion (λ item. (holds_nil item ≡ true) ⊎ IsOneEntry item) items
    → reply.invalid ≡ list_any holds_nil items
