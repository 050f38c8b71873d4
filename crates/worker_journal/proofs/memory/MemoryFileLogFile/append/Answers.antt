use Rattle.worker_journal.proofs.Kept.{elapses_to}
use Rattle.worker_journal.proofs.memory.MemoryFileLogFile.append.Goals as goal

pub returns-clause-time : goal.returns-clause-time
returns-clause-time c =
    let past = c.in_ok-replace.ensures.past in
    elapses_to c.args.self.now.past.items c.replace.new.past.items past.0 c.args.self.now.bytes.items
    c.replace.new.bytes.items past.1 past.2
