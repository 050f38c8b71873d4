use Rattle.std.proofs.Common.{sym, ◌∙◌, ap, get_or, add-one}
use Rattle.worker_journal.specs.LineTexts.{one_more}
use Rattle.worker_journal.proofs.LineTextsLemmas.{more_at}
use Rattle.worker_journal.proofs.entry_line.split_line.Goals as goal

pub loop-byte-preserved : goal.loop-byte-preserved
loop-byte-preserved c =
    let byte = get_or c.args.line.now c.loop-byte.byte-index 0 in
    rw add-one (c.in_ok-escapes.ensures ∙ ap (λ t. one_more t byte) c.loop-byte.invariant
    ∙ sym (more_at c.args.line.now c.loop-byte.byte-index c.loop-byte-test.true))
