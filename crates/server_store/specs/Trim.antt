-- How many entries a trim removes.
use Rattle.std.specs.Prelude.{◌≡◌, ◌+◌, ◌-◌, ◌==◌, ◌||◌, ◌&&◌, ℕ, Bool, true, false, List, [], ◌∷◌, cond, drop, length, nat_le, nat_lt}
use Rattle.std.specs.Ordering.{is_lt}
use Rattle.server_store.specs.Order.{id_order, IsAscending, IsSplitBefore}
use Rattle.server_store.specs.declared.stream.Entry.{Entry}
use Rattle.server_store.specs.declared.stream.Node.{Node}
use Rattle.server_store.specs.declared.stream.Stream.{Stream}
use Rattle.server_store.specs.declared.trim.Bound.{Bound}
use Rattle.server_store.specs.declared.trim.Bound.TheVariants.{Length, Below}
use Rattle.server_store.specs.declared.trim.Trim.{Trim}

-- n of the oldest are removed: all but the newest ones that may stay, or those with smaller ids
abbrev pub IsExactCount : Bound → List Entry → ℕ → Type 0
IsExactCount (Length most) entries count = count ≡ length entries - most
IsExactCount (Below least) entries count =
    IsAscending (λ entry. entry.id) entries → IsSplitBefore (λ entry. entry.id) least entries count

-- whether the bound allows to remove a node as a whole, by the number of entries and of those removed before: more
-- are there than may stay, and no fewer are left without it; or its last id is smaller
abbrev pub lets_go : Bound → ℕ → ℕ → Node → Bool
lets_go (Length most) len taken node = nat_lt taken (len - most) && nat_le (taken + node.live) (len - most)
lets_go (Below least) len taken node = is_lt (id_order node.last least)

-- the node is removed: no more than there are, no more than the limit, and the bound allows it
abbrev pub goes : Trim → ℕ → ℕ → Node → Bool
goes trim len taken node =
    nat_le (taken + node.live) len && ((trim.limit == 0 || nat_le (taken + node.live) trim.limit) && lets_go trim.bound len taken node)

-- the number of entries that the first whole nodes have, by the number that was removed before
abbrev pub whole_from : Trim → ℕ → ℕ → List Node → ℕ
whole_from trim len taken [] = taken
whole_from trim len taken (node ∷ nodes) =
    cond (goes trim len taken node) (whole_from trim len (taken + node.live) nodes) taken

-- `count` of the oldest entries are removed, by the trim, and the others stay
pub record IsTrimmed (trim : Trim) (count : ℕ) (old new : Stream) : Type 0 where
  pub entries : new.entries.items ≡ drop count old.entries.items
  pub exact : trim.is_approximate ≡ false → IsExactCount trim.bound old.entries.items count
  pub whole : trim.is_approximate ≡ true → count ≡ whole_from trim (length old.entries.items) 0 old.nodes.items
  pub others : new ≡ record old { entries = new.entries; nodes = new.nodes; gone = new.gone }
