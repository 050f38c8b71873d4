-- What XDEL does.
use Rattle.std.specs.Prelude.{◌≡◌, ◌+◌, ◌⊎◌, ℕ, List, [], ◌∷◌, drop, filter, length, not}
use Rattle.std.specs.Global.{Vec}
use Rattle.std.specs.List.{HoldsAt}
use Rattle.std.specs.Ordering.{is_eq}
use Rattle.server_store.specs.Laws.{AreInOrder as EntriesAscend}
use Rattle.server_store.specs.Order.{id_order}
use Rattle.server_store.specs.declared.entry_id.EntryId.{EntryId}
use Rattle.server_store.specs.declared.stream.Entry.{Entry}
use Rattle.server_store.specs.declared.stream.Stream.{Stream}
use Rattle.server_commands.specs.Acknowledging.{count_answer}
use Rattle.server_commands.specs.Changed.{IsChangedAt}
use Rattle.server_commands.specs.IdWords.{AreRead}
use Rattle.server_commands.specs.Places.{AreInOrder, IsMissing, keys_of}
use Rattle.server_commands.specs.declared.answer.Answer.{Answer}

-- the entries with other ids than this one, in order
abbrev pub entries_without : EntryId → List Entry → List Entry
entries_without id = filter (λ entry. not (is_eq (id_order entry.id id)))

-- the entries with other ids than these, in order
abbrev pub entries_without_all : List EntryId → List Entry → List Entry
entries_without_all [] entries = entries
entries_without_all (id ∷ ids) entries = entries_without_all ids (entries_without id entries)

-- the entries with these ids are removed, and `count` were there; the others stay, in order
pub record AreDeleted (ids : List EntryId) (count : ℕ) (old new : Stream) : Type 0 where
  pub entries : EntriesAscend old.entries.items → new.entries.items ≡ entries_without_all ids old.entries.items
  pub order : EntriesAscend old.entries.items → EntriesAscend new.entries.items
  pub counted : length new.entries.items + count ≡ length old.entries.items
  pub others : new ≡ record old { entries = new.entries; nodes = new.nodes; gone = new.gone; max_deleted_id = new.max_deleted_id }

-- the entries with the ids in the other arguments are deleted from the stream, and counted
pub record IsXdel (arguments : List (Vec ℕ)) (answer : Answer) (old new : List Stream) : Type 0 where
  pub key : List ℕ
  pub ids : List EntryId
  pub count : ℕ
  pub keyed : HoldsAt (λ word. word.items ≡ key) arguments 0
  pub read : AreRead (drop 1 arguments) ids
  pub how : IsChangedAt key (AreDeleted ids count) old new
  pub answered : answer ≡ count_answer count

-- there is no such stream
pub record IsXdelOfNone (arguments : List (Vec ℕ)) (answer : Answer) (old new : List Stream) : Type 0 where
  pub key : List ℕ
  pub keyed : HoldsAt (λ word. word.items ≡ key) arguments 0
  pub none : AreInOrder (keys_of old) → IsMissing key (keys_of old)
  pub same : new ≡ old
  pub answered : answer ≡ count_answer 0

-- entries are deleted from the stream, or there is no such stream
abbrev pub DeletesIn : List (Vec ℕ) → Answer → List Stream → List Stream → Type 0
DeletesIn arguments answer old new = IsXdel arguments answer old new ⊎ IsXdelOfNone arguments answer old new
