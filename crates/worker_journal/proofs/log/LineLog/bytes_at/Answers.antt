use Rattle.std.proofs.Common.{◌≡◌, ◌++◌, ◌-◌, arith, drop, take, rules}
use Rattle.worker_journal.proofs.PartLemmas.{both_parts}
use Rattle.worker_journal.proofs.log.LineLog.bytes_at.Goals as goal

pub returns : goal.returns
returns g c =
    let self = c.args.self.now in
    let committed = c.min-committed.result in
    let joined : c.extend_from_slice.new.self.items
    ≡ c.in_ok-read.read.items ++ take (c.args.len - committed) (drop (c.args.at - self.len) self.batch.items) = search rules in
    both_parts (g.D.LogFile.seen self.file) self.batch.items c.in_ok-read.read.items c.extend_from_slice.new.self.items
    self.len c.args.at c.args.len committed
    (omega (arith, c.min-committed.ensures)) (omega (arith, c.min-committed.ensures, c.saturating_sub.ensures))
    (omega (arith, c.min-committed.ensures, c.saturating_sub.ensures)) c.in_ok-read.ensures.bytes joined
