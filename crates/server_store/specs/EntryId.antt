-- Ids of entries as numbers and as texts.
use Rattle.std.specs.Prelude.{ℕ, ◌+◌, ◌*◌, List, [], ◌∷◌, ◌++◌, decimal}
use Rattle.server_store.specs.declared.entry_id.EntryId.{EntryId}

-- how many ids there are
abbrev pub id_count : ℕ
id_count = 18446744073709551616 * 18446744073709551616

-- the number of an id, in the order of ids
abbrev pub id_number : EntryId → ℕ
id_number id = id.milliseconds * 18446744073709551616 + id.sequence

-- an id as text
abbrev pub id_text : EntryId → List ℕ
id_text id = decimal id.milliseconds ++ 45 ∷ [] ++ decimal id.sequence
