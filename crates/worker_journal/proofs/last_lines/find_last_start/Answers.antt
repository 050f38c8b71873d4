use Rattle.std.proofs.Common.{◌-◌, refl, arith}
use Rattle.worker_journal.proofs.LastLinesLemmas.{found, none_more}
use Rattle.worker_journal.proofs.last_lines.find_last_start.Goals as goal

pub returns-in-Some : goal.returns-in-Some
returns-in-Some g c =
    found (g.D.LogFile.seen c.args.file.now) c.args.len c.loop-at.at c.saturating_sub-from.result
    (c.loop-at.at - c.saturating_sub-from.result) c.in-Some.start c.loop-at.left c.args.number c.in_ok-piece.piece.items
    (omega (arith, c.saturating_sub-from.ensures)) c.loop-at.invariant.within c.in_ok-piece.ensures.bytes
    c.in-Some.ensures.within.0 (rw c.deref.ensures.value at c.in-Some.ensures.within.1)
    (rw c.deref.ensures.value at c.in-Some.ensures.start.0) (rw c.deref.ensures.value at c.in-Some.ensures.start.1)
    c.loop-at.invariant.count

pub loop-at-preserved : goal.loop-at-preserved
loop-at-preserved g c = record {
  within = omega (arith, c.saturating_sub-from.ensures, c.loop-at.invariant.within);
  count = none_more (g.D.LogFile.seen c.args.file.now) c.args.len c.loop-at.at c.saturating_sub-from.result
      (c.loop-at.at - c.saturating_sub-from.result) c.loop-at.left c.find_start.new.left c.args.number
      c.in_ok-piece.piece.items (omega (arith, c.saturating_sub-from.ensures)) c.loop-at.invariant.within
      c.in_ok-piece.ensures.bytes (rw c.deref.ensures.value at (c.in_default.ensures.none refl)) c.loop-at.invariant.count;
}
