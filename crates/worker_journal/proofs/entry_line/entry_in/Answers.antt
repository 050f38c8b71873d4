use Rattle.std.proofs.Common.{◌≡◌, ◌≢◌, rules, ◌∙◌, Some, None}
use Rattle.worker_journal.specs.EntryLine.{line_of}
use Rattle.worker_journal.specs.EntryLineMeaning.{entry_of}
use Rattle.worker_journal.specs.LineTexts.{entry_of_list, texts_of}
use Rattle.worker_journal.proofs.LineTextsLemmas.{none_read, other_read}
use Rattle.worker_journal.proofs.entry_line.entry_in.Goals as goal

pub returns-in_default : goal.returns-in_default
returns-in_default c =
    let none : entry_of_list (texts_of c.args.line.now) ≡ None = search rules in none_read c.args.line.now none

pub returns-else-eq : goal.returns-else-eq
returns-else-eq c =
    let entry = entry_of c.in-Some.entry in
    let read : entry_of_list (texts_of c.args.line.now) ≡ Some entry = search rules in
    let written : c.push_entry.new.out.items ≡ line_of entry = search rules in
    let different : c.push_entry.new.out.items ≢ c.args.line.now = search rules in
    other_read c.args.line.now entry read (λ same. different (written ∙ same))
