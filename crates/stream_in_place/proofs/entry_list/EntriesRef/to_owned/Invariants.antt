use Rattle.std.proofs.Common.{◌≡◌, ◌++◌, map}
use Rattle.stream_entries.specs.EntryMeaning.{entry_meaning}
use Rattle.stream_in_place.specs.Copied.{copied}
use Rattle.stream_in_place.specs.Sent.{AreTextFields}
use Rattle.stream_in_place.proofs.NamedLemmas.{AllIfLeft}
use Rattle.stream_in_place.proofs.entry_list.EntriesRef.to_owned.Given as goal

abbrev pub invariant-loop-entry : goal.invariant-loop-entry
invariant-loop-entry l = record {
  copies : map entry_meaning l.copies.items ++ map copied l.entry-iterator ≡ map copied l.fn.self;
  named : AllIfLeft (λ e. AreTextFields e.fields) l.entry-iterator l.fn.self;
}
