-- What XREADGROUP delivers.
use Rattle.std.specs.Prelude.{◌≡◌, ℕ, Bool, List, [], ◌∷◌, filter, take}
use Rattle.std.specs.Bool.{MatchBool}
use Rattle.std.specs.Ordering.{is_lt}
use Rattle.server_store.specs.Consumers.{IsSeen}
use Rattle.server_store.specs.Laws.{AreInOrder}
use Rattle.server_store.specs.Order.{id_order}
use Rattle.server_store.specs.Pending.{IsGiven}
use Rattle.server_store.specs.declared.entry_id.EntryId.{EntryId}
use Rattle.server_store.specs.declared.group.Group.{Group}
use Rattle.server_store.specs.declared.stream.Entry.{Entry}

-- the entries after this id, in order
abbrev pub entries_behind : EntryId → List Entry → List Entry
entries_behind id = filter (λ entry. is_lt (id_order id entry.id))

-- the pending entries and the consumers are unchanged
pub record IsPendingSame (old new : Group) : Type 0 where
  pub pending : new.pending ≡ old.pending
  pub consumers : new.consumers ≡ old.consumers

module _ (number now : ℕ) (noack : Bool) where
  -- The entry with this id is the last one that the group delivered. It is pending for the consumer of this number,
  -- delivered once at this moment, unless it is acknowledged at once.
  pub record IsDelivered (id : EntryId) (old new : Group) : Type 0 where
    pub last_id : new.last_id ≡ id
    pub pending : MatchBool noack (IsPendingSame old new)
        (IsGiven (record { id = id; consumer = number; given_at = now; deliveries = 1 }) old new)
    pub others : new ≡ record old {
      last_id = id;
      entries_read = new.entries_read;
      pending = new.pending;
      consumers = new.consumers;
    }

  -- the entries are delivered, one after the other
  abbrev pub AreDelivered : List Entry → Group → Group → Type 0
  AreDelivered [] old new = new ≡ old
  AreDelivered (entry ∷ entries) old new =
      (between : Group) × IsDelivered entry.id old between × AreDelivered entries between new

-- the consumer of this name is seen, and the first `most` entries after the last one are delivered to it
pub record HandsOut (name : List ℕ) (now most : ℕ) (noack : Bool) (entries : List Entry) (old new : Group) : Type 0 where
  pub number : ℕ
  pub between : Group
  pub seen : IsSeen name now number old between
  pub stays : between.pending.items ≡ old.pending.items
  pub others : between ≡ record old { pending = between.pending; consumers = between.consumers; next_number = between.next_number }
  pub delivered : AreInOrder entries
      → AreDelivered number now noack (take most (entries_behind old.last_id entries)) between new
