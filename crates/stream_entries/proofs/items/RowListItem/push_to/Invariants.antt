use Rattle.std.proofs.Common.{◌≡◌, ◌++◌, map}
use Rattle.redis_resp.specs.Table.{entries_meaning}
use Rattle.stream_entries.specs.Entry.{entry_of}
use Rattle.redis_resp.specs.FieldsMeaning.{fields_of}
use Rattle.stream_entries.specs.EntryMeaning.{entries_of}
use Rattle.stream_entries.proofs.items.RowListItem.push_to.Given as goal

abbrev pub invariant-loop-id : goal.invariant-loop-id
invariant-loop-id l =
    entries_of l.ids ++ map entry_of (entries_meaning fields_of l.id-iterator)
    ≡ entries_of l.initial.ids ++ map entry_of (entries_meaning fields_of l.initial.id-iterator)
