use Rattle.std.proofs.Common.{rules}
use Rattle.worker_journal.specs.Torn.{IsSynced, all_of}
use Rattle.worker_journal.proofs.TornLemmas.{synced_left, torn_to}
use Rattle.worker_journal.proofs.torn.TornFileLogFile.sync.Goals as goal

pub returns-clause-crash : goal.returns-clause-crash
returns-clause-crash c =
    let synced : IsSynced c.replace.new.now (all_of c.args.self.now.content) = search rules in
    synced_left c.args.self.now.content c.replace.new.now synced

pub returns-clause-time : goal.returns-clause-time
returns-clause-time c =
    let past = c.in_ok-replace.ensures.past in
    torn_to c.args.self.now.past.items c.replace.new.past.items past.0 c.args.self.now.content c.replace.new.now
    past.1 past.2
