use Rattle.worker_journal.proofs.HoldLemmas.{cut_holds, cut_keeps, cut_leaves}
use Rattle.worker_journal.proofs.log.LineLog.cut_back.Goals as goal

pub returns-in_err-cut-clause-held : goal.returns-in_err-cut-clause-held
returns-in_err-cut-clause-held g c lines =
    cut_holds g.D.LogFile.seen g.D.LogFile.may_leave g.D.LogFile.is_sound lines c.args.self.now.file c.cut.new.self
    c.args.self.now.len c.args.self.now.is_broken c.if-self.true c.cut.ensures.crash c.cut.ensures.known

pub returns-in_err-cut-clause-left : goal.returns-in_err-cut-clause-left
returns-in_err-cut-clause-left g c front each within =
    cut_leaves front (g.D.LogFile.may_leave c.args.self.now.file) (g.D.LogFile.may_leave c.cut.new.self)
    c.args.self.now.len (within c.if-self.true) c.cut.ensures.crash each

pub returns-in_err-cut-clause-keeps : goal.returns-in_err-cut-clause-keeps
returns-in_err-cut-clause-keeps g c front each within =
    cut_keeps g.D.LogFile.may_leave g.D.LogFile.moment g.D.LogFile.left_since g.met.D.LogFile.only_now
    c.args.self.now.file c.cut.new.self c.args.self.now.len c.cut.ensures.crash c.cut.ensures.time front each
    (within c.if-self.true)

pub returns-in_ok-cut-clause-held : goal.returns-in_ok-cut-clause-held
returns-in_ok-cut-clause-held g c lines =
    cut_holds g.D.LogFile.seen g.D.LogFile.may_leave g.D.LogFile.is_sound lines c.args.self.now.file c.cut.new.self
    c.args.self.now.len c.args.self.now.is_broken c.if-self.true c.cut.ensures.crash c.cut.ensures.known

pub returns-in_ok-cut-clause-left : goal.returns-in_ok-cut-clause-left
returns-in_ok-cut-clause-left g c front each within =
    cut_leaves front (g.D.LogFile.may_leave c.args.self.now.file) (g.D.LogFile.may_leave c.cut.new.self)
    c.args.self.now.len (within c.if-self.true) c.cut.ensures.crash each

pub returns-in_ok-cut-clause-keeps : goal.returns-in_ok-cut-clause-keeps
returns-in_ok-cut-clause-keeps g c front each within =
    cut_keeps g.D.LogFile.may_leave g.D.LogFile.moment g.D.LogFile.left_since g.met.D.LogFile.only_now
    c.args.self.now.file c.cut.new.self c.args.self.now.len c.cut.ensures.crash c.cut.ensures.time front each
    (within c.if-self.true)
