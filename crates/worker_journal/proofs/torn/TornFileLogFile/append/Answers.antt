use Rattle.std.proofs.Common.{length, refl}
use Rattle.worker_journal.specs.Device.{IsTorn}
use Rattle.worker_journal.proofs.TornLemmas.{follows_to, torn_stays, torn_to}
use Rattle.worker_journal.proofs.torn.TornFileLogFile.append.Goals as goal

pub returns-in_err-next-clause-crash : goal.returns-in_err-next-clause-crash
returns-in_err-next-clause-crash c =
    torn_stays c.args.self.now.content c.args.self.now.content (length c.args.bytes.now) refl

pub returns-in_err-replace-clause-crash : goal.returns-in_err-replace-clause-crash
returns-in_err-replace-clause-crash c =
    torn_stays c.args.self.now.content c.replace.new.now (length c.args.bytes.now) c.in_err-replace.ensures.err

pub returns-clause-crash : goal.returns-clause-crash
returns-clause-crash c =
    follows_to (IsTorn (length c.args.bytes.now)) c.args.self.now.content c.in_ok-next.next c.replace.new.now
    c.in_ok-replace.ensures.ok c.in_ok-next.ensures.crash

pub returns-clause-time : goal.returns-clause-time
returns-clause-time c =
    let past = c.in_ok-replace.ensures.past in
    torn_to c.args.self.now.past.items c.replace.new.past.items past.0 c.args.self.now.content c.replace.new.now
    past.1 past.2
