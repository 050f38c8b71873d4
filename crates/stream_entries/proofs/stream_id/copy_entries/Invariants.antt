use Rattle.std.proofs.Common.{◌≡◌, map, take}
use Rattle.stream_entries.specs.EntryMeaning.{entries_of, entry_meaning}
use Rattle.stream_entries.proofs.stream_id.copy_entries.Given as goal

abbrev pub invariant-loop-entry : goal.invariant-loop-entry
invariant-loop-entry l = entries_of l.copies ≡ map entry_meaning (take l.entry-index l.entries)
