-- An entry as a line of text.
use Rattle.std.specs.Prelude.{◌≡◌, ◌≢◌, ℕ, List, ◌∷◌, ◌++◌, flat_map, Option, Some, None}
use Rattle.worker_journal.specs.Escape.{escaped}
use Rattle.worker_journal.specs.Lines.{HasNoEnd}

-- an id, and the names and values of an entry in order
abbrev pub Entry : Type 0
Entry = List ℕ × List (List ℕ × List ℕ)

-- the text of a field in a line: a tab, the name, a tab and the value
abbrev pub field_text : List ℕ × List ℕ → List ℕ
field_text p = 9 ∷ (escaped p.0 ++ (9 ∷ escaped p.1))

-- the line of an entry: its id, and then the text of each field
abbrev pub line_of : Entry → List ℕ
line_of e = escaped e.0 ++ flat_map field_text e.1

-- the law: the line of an entry has no line feed
abbrev pub LinesAreWhole : Type 0
LinesAreWhole = (e : Entry) → HasNoEnd (line_of e)

-- the law: two entries with equal lines are equal
abbrev pub LinesTellEntries : Type 0
LinesTellEntries = (a b : Entry) → line_of a ≡ line_of b → a ≡ b

-- `Some(e)`: the line is that of the entry `e`. `None`: the line is not that of an entry
abbrev pub IsEntryIn : List ℕ → Option Entry → Type 0
IsEntryIn line (Some e) = line_of e ≡ line
IsEntryIn line None = (e : Entry) → line_of e ≢ line
