-- The meaning of an entry that is read from a line.
use Rattle.std.specs.Prelude.{ℕ, List, map, Vec}
use Rattle.std.specs.declared.alloc.Global.{Global}
use Rattle.worker_journal.specs.declared.entry_line.LineEntry.{LineEntry}
use Rattle.worker_journal.specs.EntryLine.{Entry}

-- a name and a value as bytes
abbrev pub field_of : Vec ℕ Global × Vec ℕ Global → List ℕ × List ℕ
field_of p = (p.0.items, p.1.items)

-- the entry as bytes
abbrev pub entry_of : LineEntry → Entry
entry_of e = (e.id.items, map field_of e.fields.items)
