use Rattle.std.proofs.Common.{◌≡◌, ◌∙◌, sym, subst, map, rules, string_bytes}
use Rattle.redis_args.specs.declared.raw_bytes.RawBytes.{RawBytes}
use Rattle.worker.specs.DeadLetters.Dead.{PostedFields}
use Rattle.worker.specs.Letters.{desk_of}
use Rattle.worker.proofs.DeadLettersLemmas.DeadLemmas.{ok_too, posted_row}
use Rattle.worker.proofs.dead_letters.search.queue_letter.Goals as goal

pub returns-clause-ok : goal.returns-clause-ok
returns-clause-ok c =
    let dead = string_bytes c.args.desk.now.dead in
    let w = c.args.entry.now in
    let old = desk_of c.args.desk.now in
    let new = desk_of c.queue_letter_with_fields.new.desk in
    let same : c.as_str.result.now ≡ c.as_str-2.result.now = search rules in
    ok_too c.queue_letter_with_fields.result c.queue_letter_with_fields.ensures.ok (λ p.
    posted_row dead w c.args.rows.now c.in-Some.field-0.now old new (rw c.in-Some.is at c.take_only_row.ensures)
    (sym c.as_str.ensures.value ∙ same ∙ c.as_str-2.ensures.value)
    (subst (λ ts. PostedFields dead w (map (λ (text : RawBytes). text.0.items) ts) old new) c.deref.ensures.value p))
