use Rattle.std.proofs.Common.{◌-◌, arith}
use Rattle.worker_journal.proofs.EndLemmas.{end_in_piece, none_in_piece}
use Rattle.worker_journal.proofs.opening.measure_lines.Goals as goal

pub returns-then-end-gt0 : goal.returns-then-end-gt0
returns-then-end-gt0 g c =
    end_in_piece (g.D.LogFile.seen c.args.file.now) c.loop-at.at c.saturating_sub-from.result
    (c.loop-at.at - c.saturating_sub-from.result) c.find_last_end-end.result c.in_ok-piece.piece.items
    (omega (arith, c.saturating_sub-from.ensures)) c.if-end-gt0.true
    (rw c.deref.ensures.value at c.find_last_end-end.ensures.within) c.in_ok-piece.ensures.within c.loop-at.invariant
    c.in_ok-piece.ensures.bytes
    (rw c.deref.ensures.value at c.find_last_end-end.ensures.lines)
    (rw c.deref.ensures.value at c.find_last_end-end.ensures.torn)

pub loop-at-preserved : goal.loop-at-preserved
loop-at-preserved g c =
    none_in_piece (g.D.LogFile.seen c.args.file.now) c.loop-at.at c.saturating_sub-from.result
    (c.loop-at.at - c.saturating_sub-from.result) c.find_last_end-end.result c.in_ok-piece.piece.items
    (omega (arith, c.saturating_sub-from.ensures))
    (omega (arith, c.if-end-gt0.false)) c.loop-at.invariant c.in_ok-piece.ensures.bytes
    (rw c.deref.ensures.value at c.find_last_end-end.ensures.torn)
