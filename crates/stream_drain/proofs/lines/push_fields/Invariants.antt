use Rattle.std.proofs.Common.{◌≡◌, ◌++◌, flat_map}
use Rattle.worker_journal.specs.EntryLine.{field_text}
use Rattle.stream_drain.proofs.lines.push_fields.Given as goal

-- the text so far, and behind it what is left, is all
abbrev pub invariant-loop-name : goal.invariant-loop-name
invariant-loop-name l =
    l.text.items ++ flat_map field_text l.name-iterator ≡ l.initial.text.items ++ flat_map field_text l.fn.fields
