use Rattle.worker_journal.proofs.HoldLemmas.{repaired_holds}
use Rattle.worker_journal.proofs.log.LineLog.open.Goals as goal

pub returns-clause-holds : goal.returns-clause-holds
returns-clause-holds g c sound =
    repaired_holds g.D.LogFile.seen g.D.LogFile.may_leave g.D.LogFile.is_sound (g.D.LogFile.seen c.args.file)
    c.repaired_len.new.file c.in_ok-len.len c.in_ok-len.ensures.end c.in_ok-len.ensures.cut
    (c.in_ok-len.ensures.on_disk sound) (c.in_ok-len.ensures.sound sound)
