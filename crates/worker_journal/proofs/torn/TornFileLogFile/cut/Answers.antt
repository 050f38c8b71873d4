use Rattle.std.proofs.Common.{refl}
use Rattle.worker_journal.specs.Device.{IsCut}
use Rattle.worker_journal.proofs.TornLemmas.{cut_stays, follows_to, starts_within, torn_to}
use Rattle.worker_journal.proofs.torn.TornFileLogFile.cut.Goals as goal

pub returns-in_err-next-clause-crash : goal.returns-in_err-next-clause-crash
returns-in_err-next-clause-crash c =
    cut_stays c.args.self.now.content c.args.self.now.content c.args.len refl

pub returns-in_err-replace-clause-crash : goal.returns-in_err-replace-clause-crash
returns-in_err-replace-clause-crash c =
    cut_stays c.args.self.now.content c.replace.new.now c.args.len c.in_err-replace.ensures.err

pub returns-clause-crash : goal.returns-clause-crash
returns-clause-crash c =
    follows_to (IsCut c.args.len) c.args.self.now.content c.in_ok-next.next c.replace.new.now
    c.in_ok-replace.ensures.ok c.in_ok-next.ensures.crash

pub returns-clause-time : goal.returns-clause-time
returns-clause-time c =
    let past = c.in_ok-replace.ensures.past in
    torn_to c.args.self.now.past.items c.replace.new.past.items past.0 c.args.self.now.content c.replace.new.now
    past.1 past.2

pub returns-clause-mended : goal.returns-clause-mended
returns-clause-mended c front is each =
    c.is_sound_at-is_sound.ensures.mended (starts_within c.args.self.now.content front c.args.len is each)
