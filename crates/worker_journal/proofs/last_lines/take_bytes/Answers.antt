use Rattle.std.proofs.Common.{sym, ◌∙◌, ap, get_or, add-one}
use Rattle.worker_journal.specs.LastLines.{begun_now, byte_more}
use Rattle.worker_journal.proofs.LastLinesLemmas.{more_at}
use Rattle.worker_journal.proofs.last_lines.take_bytes.Goals as goal

pub loop-byte-preserved : goal.loop-byte-preserved
loop-byte-preserved c =
    let byte = get_or c.args.bytes.now c.loop-byte.byte-index 0 in
    rw add-one (c.in_ok-take_byte.ensures ∙ ap (λ t. byte_more t byte) c.loop-byte.invariant
    ∙ sym (more_at (begun_now c.args.lines.now c.args.line.now) c.args.bytes.now c.loop-byte.byte-index
    c.loop-byte-test.true))
