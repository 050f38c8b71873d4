-- Elements in the order of their ids.
use Rattle.std.specs.Prelude.{◌≡◌, ◌≢◌, ◌<◌, ℕ, List, length, slice_index_or}
use Rattle.std.specs.List.Sorted.{IsPartitionPoint}
use Rattle.std.specs.Ordering.{nat_cmp, ordering_then}
use Rattle.std.specs.declared.cmp.Ordering.{Ordering}
use Rattle.std.specs.declared.cmp.Ordering.TheVariants.{Less, Greater}
use Rattle.server_store.specs.declared.entry_id.EntryId.{EntryId}

-- how two ids compare: by their milliseconds, and then by their sequence numbers
abbrev pub id_order : EntryId → EntryId → Ordering
id_order a b = ordering_then (nat_cmp a.milliseconds b.milliseconds) (nat_cmp a.sequence b.sequence)

-- the ids ascend, so none comes twice
abbrev pub IsAscending : {X : Type 0} → (X → EntryId) → List X → Type 0
IsAscending {X} id_of xs =
    (i j : ℕ) (d : X) → i < j → j < length xs
    → id_order (id_of (slice_index_or xs i d)) (id_of (slice_index_or xs j d)) ≡ Less

-- none has this id: the ids before the index are smaller, and those from it on larger
abbrev pub IsGapFor : {X : Type 0} → (X → EntryId) → EntryId → List X → ℕ → Type 0
IsGapFor id_of id = IsPartitionPoint (λ x. id_order (id_of x) id ≡ Less) (λ x. id_order (id_of x) id ≡ Greater)

-- none has this id
abbrev pub IsNowhere : {X : Type 0} → (X → EntryId) → EntryId → List X → Type 0
IsNowhere {X} id_of id xs = (k : ℕ) (d : X) → k < length xs → id_of (slice_index_or xs k d) ≢ id

-- the ids before the index are smaller, and those from it on are not
abbrev pub IsSplitBefore : {X : Type 0} → (X → EntryId) → EntryId → List X → ℕ → Type 0
IsSplitBefore id_of id = IsPartitionPoint (λ x. id_order (id_of x) id ≡ Less) (λ x. id_order (id_of x) id ≢ Less)
