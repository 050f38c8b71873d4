use Rattle.std.proofs.Common.{◌≡◌, ◌++◌, rules}
use Rattle.worker_journal.proofs.TornLemmas.{append_tears}
use Rattle.worker_journal.proofs.torn.Content.append_bytes.Goals as goal

pub returns-clause-crash : goal.returns-clause-crash
returns-clause-crash c =
    let copy = c.in_ok-next.ensures in
    let waits : c.extend_from_slice.new.self.items ≡ c.args.self.now.waits.items ++ c.args.bytes.now = search rules in
    append_tears c.args.self.now (record c.in_ok-next.next { waits = c.extend_from_slice.new.self }) c.args.bytes.now
    copy.front copy.cut_off waits copy.extra
