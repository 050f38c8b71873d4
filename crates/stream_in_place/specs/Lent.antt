-- The slices that are lent to be filled with places.
use Rattle.std.specs.Prelude.{◌≤◌, ℕ, Option, Some, None}
use Rattle.std.specs.Borrow.{GName}

-- Slices of the caller, each by the name of its borrow, and the number of places in each.
pub record Lent : Type 0 where
  pub streams : GName
  pub entries : GName
  pub fields : GName
  pub stream_room : ℕ
  pub entry_room : ℕ
  pub field_room : ℕ

-- The slices have room for `n` streams in total. It never holds for tables that grow.
abbrev pub StreamsFit : Option Lent → ℕ → Type 0
StreamsFit None n = ⊥
StreamsFit (Some lent) n = n ≤ lent.stream_room

-- the same of entries
abbrev pub EntriesFit : Option Lent → ℕ → Type 0
EntriesFit None n = ⊥
EntriesFit (Some lent) n = n ≤ lent.entry_room

-- the same of fields
abbrev pub FieldsFit : Option Lent → ℕ → Type 0
FieldsFit None n = ⊥
FieldsFit (Some lent) n = n ≤ lent.field_room
