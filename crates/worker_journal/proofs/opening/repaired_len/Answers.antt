use Rattle.worker_journal.proofs.RepairLemmas.{at_start, after_cut, after_sync, front_at_start, front_after_cut, front_after_sync}
use Rattle.worker_journal.proofs.opening.repaired_len.Goals as goal

pub returns-in_err-end-clause-any_moment : goal.returns-in_err-end-clause-any_moment
returns-in_err-end-clause-any_moment g c disk =
    at_start g.D.LogFile.seen g.D.LogFile.may_leave g.D.LogFile.moment g.D.LogFile.left_since g.met.D.LogFile.only_now
    c.args.file.now disk

pub returns-in_err-cut-clause-any_moment : goal.returns-in_err-cut-clause-any_moment
returns-in_err-cut-clause-any_moment g c disk =
    after_cut g.D.LogFile.seen g.D.LogFile.may_leave g.D.LogFile.moment g.D.LogFile.left_since g.met.D.LogFile.only_now
    c.args.file.now disk
    c.in_ok-end.end c.in_ok-end.ensures c.cut.new.self c.cut.ensures.crash c.cut.ensures.time

pub returns-clause-any_moment : goal.returns-clause-any_moment
returns-clause-any_moment g c disk =
    after_sync g.D.LogFile.seen g.D.LogFile.may_leave g.D.LogFile.moment g.D.LogFile.left_since g.met.D.LogFile.only_now
    c.args.file.now disk
    c.in_ok-end.end c.in_ok-end.ensures c.cut.new.self c.cut.ensures.crash c.cut.ensures.time c.sync.new.self
    c.sync.ensures.crash c.sync.ensures.time

pub returns-in_err-end-clause-keeps : goal.returns-in_err-end-clause-keeps
returns-in_err-end-clause-keeps g c front behind lines known each =
    front_at_start g.D.LogFile.seen g.D.LogFile.may_leave g.D.LogFile.moment g.D.LogFile.left_since
    g.met.D.LogFile.only_now c.args.file.now front each

pub returns-in_err-cut-clause-keeps : goal.returns-in_err-cut-clause-keeps
returns-in_err-cut-clause-keeps g c front behind lines known each =
    front_after_cut g.D.LogFile.seen g.D.LogFile.may_leave g.D.LogFile.moment g.D.LogFile.left_since
    g.met.D.LogFile.only_now c.args.file.now front each behind lines known
    c.in_ok-end.end c.in_ok-end.ensures c.cut.new.self c.cut.ensures.crash c.cut.ensures.time

pub returns-clause-keeps : goal.returns-clause-keeps
returns-clause-keeps g c front behind lines known each =
    front_after_sync g.D.LogFile.seen g.D.LogFile.may_leave g.D.LogFile.moment g.D.LogFile.left_since
    g.met.D.LogFile.only_now c.args.file.now front each behind lines known
    c.in_ok-end.end c.in_ok-end.ensures c.cut.new.self c.cut.ensures.crash c.cut.ensures.time c.sync.new.self
    c.sync.ensures.crash c.sync.ensures.time

pub returns-in_err-sync-clause-any_moment : goal.returns-in_err-sync-clause-any_moment
returns-in_err-sync-clause-any_moment g c disk =
    after_sync g.D.LogFile.seen g.D.LogFile.may_leave g.D.LogFile.moment g.D.LogFile.left_since g.met.D.LogFile.only_now
    c.args.file.now disk
    c.in_ok-end.end c.in_ok-end.ensures c.cut.new.self c.cut.ensures.crash c.cut.ensures.time c.sync.new.self
    c.sync.ensures.crash c.sync.ensures.time

pub returns-in_err-sync-clause-keeps : goal.returns-in_err-sync-clause-keeps
returns-in_err-sync-clause-keeps g c front behind lines known each =
    front_after_sync g.D.LogFile.seen g.D.LogFile.may_leave g.D.LogFile.moment g.D.LogFile.left_since
    g.met.D.LogFile.only_now c.args.file.now front each behind lines known
    c.in_ok-end.end c.in_ok-end.ensures c.cut.new.self c.cut.ensures.crash c.cut.ensures.time c.sync.new.self
    c.sync.ensures.crash c.sync.ensures.time
