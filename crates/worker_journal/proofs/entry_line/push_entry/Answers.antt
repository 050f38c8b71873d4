use Rattle.std.proofs.Common.{◌≡◌, ◌++◌, rules, sym, ◌∙◌, ap, append_assoc, flat_map, map, take}
use Rattle.worker_journal.specs.EntryLine.{field_text}
use Rattle.worker_journal.specs.EntryLineMeaning.{field_of}
use Rattle.worker_journal.specs.Escape.{escaped}
use Rattle.worker_journal.proofs.LineTextsLemmas.{fields_more}
use Rattle.worker_journal.proofs.entry_line.push_entry.Goals as goal

pub loop-name-preserved : goal.loop-name-preserved
loop-name-preserved c =
    let fields = c.args.entry.now.fields.items in
    let before = flat_map field_text (map field_of (take c.loop-name.name-index fields)) in
    let id = escaped c.args.entry.now.id.items in
    let field = field_text (field_of c.loop-name-item.result) in
    let pushed : c.push_field.new.out.items ≡ c.loop-name.out.items ++ field = search rules in
    pushed ∙ ap (λ xs. xs ++ field) c.loop-name.invariant ∙ append_assoc c.args.out.now.items (id ++ before) field
    ∙ ap (λ xs. c.args.out.now.items ++ xs) (append_assoc id before field
    ∙ ap (λ xs. id ++ xs)
    (sym (fields_more fields c.loop-name.name-index c.loop-name-item.result (rw c.deref-name-items.ensures.value at c.loop-name-test.true) (rw c.deref-name-items.ensures.value at c.loop-name-item.is))))
