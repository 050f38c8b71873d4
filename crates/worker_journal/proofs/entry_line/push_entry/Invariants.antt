use Rattle.std.proofs.Common.{◌≡◌, ◌++◌, flat_map, map, take}
use Rattle.worker_journal.specs.EntryLine.{field_text}
use Rattle.worker_journal.specs.EntryLineMeaning.{field_of}
use Rattle.worker_journal.specs.Escape.{escaped}
use Rattle.worker_journal.proofs.entry_line.push_entry.Given as goal

-- the id and the fields so far
abbrev pub invariant-loop-name : goal.invariant-loop-name
invariant-loop-name l = l.out.items
    ≡ l.fn.out.items
    ++ (escaped l.entry.id.items ++ flat_map field_text (map field_of (take l.name-index l.entry.fields.items)))
