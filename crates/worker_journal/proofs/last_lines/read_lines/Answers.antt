use Rattle.std.proofs.Common.{◌+◌, refl, arith}
use Rattle.worker_journal.specs.LastLines.{begun_now}
use Rattle.worker_journal.proofs.LastLinesLemmas.{takes_all, takes_more}
use Rattle.worker_journal.proofs.last_lines.read_lines.Goals as goal

pub loop-at-preserved : goal.loop-at-preserved
loop-at-preserved g c =
    takes_more (g.D.LogFile.seen c.args.file.now) c.args.len c.args.from c.loop-at.at c.min-more.result
    (c.loop-at.at + c.min-more.result) (begun_now c.loop-at.lines c.loop-at.line)
    (begun_now c.take_bytes.new.lines c.take_bytes.new.line) c.in_ok-piece.piece.items refl
    (omega (arith, c.min-more.ensures, c.loop-at-test.true)) c.in_ok-piece.ensures.bytes
    (rw c.deref.ensures.value at c.in_ok-take_bytes.ensures) c.loop-at.invariant

pub returns : goal.returns
returns g c =
    takes_all (g.D.LogFile.seen c.args.file.now) c.args.len c.args.from c.loop-at.at
    (begun_now c.loop-at.lines c.loop-at.line) (omega (arith, c.loop-at-test.false)) c.loop-at.invariant
