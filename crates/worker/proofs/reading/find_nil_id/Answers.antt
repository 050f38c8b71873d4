use Rattle.std.proofs.Common.{rules, ◌≡◌, ◌∙◌, ◌≤◌, ap, arith, length, map, not, string_bytes, sym, Some}
use Rattle.std.proofs.lemmas.List.{take_all}
use Rattle.stream_in_place.specs.SentMeaning.{sent_of}
use Rattle.worker.specs.Answers.{first_nil}
use Rattle.worker.proofs.ReadLemmas.{rows_found, rows_more}
use Rattle.worker.proofs.reading.find_nil_id.Goals as goal

pub loop-entry-preserved : goal.loop-entry-preserved
loop-entry-preserved c =
    rows_more c.args.entries.now c.loop-entry.entry-index c.entry-item.result c.loop-entry-test.true c.entry-item.is
    c.loop-entry.invariant (c.is_none.ensures ∙ ap not c.if-is_none.false)

pub returns-then-is_none : goal.returns-then-is_none
returns-then-is_none c =
    let found = rows_found c.args.entries.now c.loop-entry.entry-index c.entry-item.result c.loop-entry-test.true
    c.entry-item.is c.loop-entry.invariant (c.is_none.ensures ∙ ap not c.if-is_none.true) in
    let same : string_bytes c.in_ok-clone.field-0 ≡ string_bytes c.entry-item.result.id = search rules in
    ap Some same ∙ sym found

pub returns : goal.returns
returns c =
    let past : length c.args.entries.now ≤ c.loop-entry.entry-index = omega arith in
    sym c.loop-entry.invariant
    ∙ ap (λ es. first_nil (map sent_of es)) (take_all c.loop-entry.entry-index c.args.entries.now past)
