-- What a value reads as in each form of a read reply, while both are open.
use Rattle.std.specs.Prelude.{◌++◌, ◌∷◌, [], ℕ, List, Option, Some, None, option_map, option_and_then}
use Rattle.redis_resp.specs.Then.{◌>>=◌}
use Rattle.redis_resp.specs.Tree.{Tree}
use Rattle.redis_resp.specs.Number.{unsigned_reading}
use Rattle.redis_resp.specs.Reading.{both_read, four_in, option_reading, traverse}
use Rattle.redis_resp.specs.Table.{entry_reading, table_reading}
use Rattle.stream_entries.specs.Entry.{Entry}
use Rattle.stream_entries.specs.Rows.{joined, standard_entries, entries_reading}
use Rattle.stream_entries.specs.Read.{Streams, claim_entries}

-- the results in the standard form and in the claim form, None if it does not have that form
abbrev pub InForms : Type 0 → Type 0
InForms M = Option M × Option M

-- an item of a list of entries
abbrev pub item_in_forms : Tree → InForms (List Entry)
item_in_forms t = (standard_entries t, claim_entries t)

-- a list of entries, all of one form
abbrev pub entries_in_forms : Tree → InForms (List Entry)
entries_in_forms t = (entries_reading standard_entries t, entries_reading claim_entries t)

-- the lists that all of these read as, concatenated
abbrev pub all_joined : {A : Type 0} → (Tree → Option (List A)) → List Tree → Option (List A)
all_joined reading ts = option_map joined (traverse reading ts)

-- the items of a list of entries
abbrev pub items_in_forms : List Tree → InForms (List Entry)
items_in_forms ts = (all_joined standard_entries ts, all_joined claim_entries ts)

-- a row of streams
abbrev pub row_in_forms : Tree → InForms Streams
row_in_forms t = (table_reading (entries_reading standard_entries) t, table_reading (entries_reading claim_entries) t)

-- a row of one stream
abbrev pub pair_in_forms : Tree × Tree → InForms Streams
pair_in_forms p = (
  option_map (λ k. k ∷ []) (entry_reading (entries_reading standard_entries) p),
  option_map (λ k. k ∷ []) (entry_reading (entries_reading claim_entries) p),
)

-- the rows of a read
abbrev pub rows_in_forms : List Tree → InForms Streams
rows_in_forms ts = (
  all_joined (table_reading (entries_reading standard_entries)) ts,
  all_joined (table_reading (entries_reading claim_entries)) ts,
)

-- the results, if there is one form at least
abbrev pub some_form : {M : Type 0} → InForms M → Option (InForms M)
some_form (None, None) = None
some_form (None, Some c) = Some (None, Some c)
some_form (Some s, c) = Some (Some s, c)

-- a list after another, if both are there
abbrev pub behind : {A : Type 0} → Option (List A) → Option (List A) → Option (List A)
behind done more = done >>= λ xs. option_map (λ ys. xs ++ ys) more

-- the same in each form
abbrev pub behind_in_forms : {A : Type 0} → InForms (List A) → InForms (List A) → InForms (List A)
behind_in_forms done more = (behind done.0 more.0, behind done.1 more.1)

-- the two numbers of a delivery
abbrev pub numbers_of_four : Tree × Tree × Tree × Tree → Option (Option ℕ × Option ℕ)
numbers_of_four q = both_read (option_reading (unsigned_reading 64) q.2) (option_reading (unsigned_reading 64) q.3)

-- the two numbers of a value that may be a delivery, whatever its id and its fields
abbrev pub numbers_in : Tree → Option (Option ℕ × Option ℕ)
numbers_in t = option_and_then numbers_of_four (four_in t)
