-- The entries that were read for a consumer are put into the group.
use Rattle.std.specs.Prelude.{◌≡◌, ℕ, List, [], ◌∷◌, map}
use Rattle.server_store.specs.Consumers.{IsSeen}
use Rattle.server_store.specs.Pending.{IsGiven}
use Rattle.server_store.specs.declared.group.Group.{Group}
use Rattle.server_store.specs.declared.group.Pending.{Pending}

-- the pending entry with the consumer of this number
abbrev pub for_consumer : ℕ → Pending → Pending
for_consumer number p = record p { consumer = number }

-- these are given, one after the other
abbrev pub AreGiven : List Pending → Group → Group → Type 0
AreGiven [] old new = new ≡ old
AreGiven (p ∷ ps) old new = (between : Group) × IsGiven p old between
    × (between ≡ record old { pending = between.pending; consumers = between.consumers }) × AreGiven ps between new

-- The group has delivered as much as the part. The consumer of this name is seen, and what is pending in the part is
-- given for it, whatever its number is in the part.
pub record IsPut (name : List ℕ) (now : ℕ) (part old new : Group) : Type 0 where
  pub number : ℕ
  pub between : Group
  pub seen : IsSeen name now number (record old { last_id = part.last_id; entries_read = part.entries_read }) between
  pub stays : between.pending.items ≡ old.pending.items
  pub others : between ≡ record old {
    last_id = part.last_id;
    entries_read = part.entries_read;
    pending = between.pending;
    consumers = between.consumers;
    next_number = between.next_number;
  }
  pub given : AreGiven (map (for_consumer number) part.pending.items) between new
