-- The laws of the order.
use Rattle.std.proofs.Common.{◌≡◌, ◌++◌, ◌∷◌, [], ◌<◌, inl, inr, ℕ, List, length, get_or, ap, ◌∙◌, arith}
use Rattle.std.proofs.lemmas.List.{length-append, get_or_append_left, get_or_at}
use Rattle.std.proofs.lemmas.Bool.{cases_lt}
use Rattle.std.specs.declared.cmp.Ordering.TheVariants.{Less}
use Rattle.server_store.specs.Laws.{AreInOrder, EntriesStayInOrder, IsInOrder, PendingStaysInOrder}
use Rattle.server_store.specs.Order.{id_order}
use Rattle.server_store.specs.Pending.{IsAcknowledged, IsGiven}
use Rattle.server_store.specs.Stream.{IsWithoutOne}
use Rattle.server_store.specs.declared.entry_id.EntryId.{EntryId}
use Rattle.server_store.specs.declared.group.Group.{Group}
use Rattle.server_store.specs.declared.group.Pending.{Pending}
use Rattle.server_store.specs.declared.stream.Entry.{Entry}
use Rattle.server_store.proofs.AscendLemmas.{ascending_insert, ascending_set, ascending_remove, ascending_drop, less_as, stands_in_bounds}

given : (p : Pending) (old new : Group) → IsGiven p old new → IsInOrder old → IsInOrder new
given p old new (inl again) up =
    rw again.is (ascending_set (λ q. q.id) old.pending.items again.index p again.within
    (λ d. ap (λ q. q.id) (stands_in_bounds old.pending.items again.index again.was d again.within again.stood) ∙ again.named) up)
given p old new (inr more) up =
    rw more.is (ascending_insert (λ q. q.id) old.pending.items more.index p more.within (more.place up) up)

acknowledged : (id : EntryId) (old new : Group) → IsAcknowledged id old new → IsInOrder old → IsInOrder new
acknowledged id old new gone up = rw gone.others (ascending_remove (λ q. q.id) old.pending.items gone.index gone.within up)

removed : (id : EntryId) (old new : List Entry) → IsWithoutOne id old new → AreInOrder old → AreInOrder new
removed id old new gone up = rw gone.others (ascending_remove (λ e. e.id) old gone.index gone.within up)

appended : (entry : Entry) (old : List Entry)
    → ((k : ℕ) (d : Entry) → k < length old → id_order (get_or old k d).id entry.id ≡ Less)
    → AreInOrder old → AreInOrder (old ++ entry ∷ [])
appended entry old above up a b d lt bound =
    let long = length-append old (entry ∷ []) in
    elim (cases_lt b (length old)) [
      | inl low ↦ less_as (λ e. e.id) _ _ _ _
          (get_or_append_left old (entry ∷ []) d a (omega arith)) (get_or_append_left old (entry ∷ []) d b low) (up a b d lt low)
      | inr high ↦
          less_as (λ e. e.id) _ _ _ _
          (get_or_append_left old (entry ∷ []) d a (omega arith)) (get_or_at old entry [] d b (omega arith))
          (above a d (omega arith))
    ]

pub pending_laws : PendingStaysInOrder
pending_laws = record {
  given = given;
  acknowledged = acknowledged;
}

pub entry_laws : EntriesStayInOrder
entry_laws = record {
  appended = appended;
  removed = removed;
  trimmed = λ count old up. ascending_drop (λ e. e.id) count old up;
}
