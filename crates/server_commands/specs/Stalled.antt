-- What XAUTOCLAIM finds.
use Rattle.std.specs.Prelude.{◌≡◌, ◌-◌, ◌==◌, ◌||◌, ℕ, Bool, false, List, [], ◌∷◌, drop, nat_le, if◌then◌else◌}
use Rattle.std.specs.Ordering.{is_eq}
use Rattle.server_store.specs.Laws.{AreInOrder, IsInOrder}
use Rattle.server_store.specs.Order.{id_order, IsSplitBefore}
use Rattle.server_store.specs.declared.entry_id.EntryId.{EntryId}
use Rattle.server_store.specs.declared.group.Group.{Group}
use Rattle.server_store.specs.declared.group.Pending.{Pending}
use Rattle.server_store.specs.declared.stream.Entry.{Entry}
use Rattle.server_store.specs.declared.stream.Stream.{Stream}
use Rattle.server_commands.specs.declared.commands.stalled.Claim.{Claim}
use Rattle.server_commands.specs.declared.commands.stalled.Stalled.{Stalled}

-- one of the entries has this id
abbrev pub has_entry : EntryId → List Entry → Bool
has_entry id [] = false
has_entry id (entry ∷ entries) = is_eq (id_order entry.id id) || has_entry id entries

-- what is taken over, the ids that are gone, and the id at which the next claim goes on
pub record Found : Type 0 where
  pub claimed : List Pending
  pub gone : List EntryId
  pub next : EntryId

-- nothing, and at which id it goes on
abbrev pub nothing_until : EntryId → Found
nothing_until id = record { claimed = []; gone = []; next = id }

-- one more id that is gone
abbrev pub with_gone : EntryId → Found → Found
with_gone id found = record found { gone = id ∷ found.gone }

-- one more that is taken over
abbrev pub with_claimed : Pending → Found → Found
with_claimed pending found = record found { claimed = pending ∷ found.claimed }

module _ (entries : List Entry) (now least_idle : ℕ) where
  -- The entries that a claim finds, which scans and takes at most these numbers: a deleted one is gone, and one that
  -- was idle long enough is taken over.
  abbrev pub found_in : ℕ → ℕ → List Pending → Found
  found_in attempts left [] = nothing_until (record { milliseconds = 0; sequence = 0 })
  found_in attempts left (p ∷ pending) =
      if attempts == 0 || left == 0 then nothing_until p.id
      else if has_entry p.id entries
      then (if nat_le least_idle (now - p.given_at)
      then with_claimed p (found_in (attempts - 1) (left - 1) pending)
      else found_in (attempts - 1) left pending)
      else with_gone p.id (found_in (attempts - 1) (left - 1) pending)

-- what is found of a stalled claim
abbrev pub found_of : Stalled → Found
found_of s = record { claimed = s.claimed.items; gone = s.gone.items; next = s.next }

-- the claim finds this from its start on
pub record IsFound (stream : Stream) (group : Group) (claim : Claim) (attempts : ℕ) (stalled : Stalled) : Type 0 where
  pub start : ℕ
  pub split : IsInOrder group → IsSplitBefore (λ p. p.id) claim.start group.pending.items start
  pub is : AreInOrder stream.entries.items → found_of stalled
      ≡ found_in stream.entries.items claim.now claim.least_idle attempts claim.most (drop start group.pending.items)
