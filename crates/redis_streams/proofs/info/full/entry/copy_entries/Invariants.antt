use Rattle.std.proofs.Common.{◌≡◌, take, map}
use Rattle.redis_streams.specs.InfoFullMeaning.{full_entry_meaning}
use Rattle.redis_streams.proofs.info.full.entry.copy_entries.Given as goal

abbrev pub invariant-loop-entry : goal.invariant-loop-entry
invariant-loop-entry l = map full_entry_meaning l.copies.items ≡ map full_entry_meaning (take l.entry-index l.entries)
