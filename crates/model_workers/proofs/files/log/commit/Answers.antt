use Rattle.std.proofs.lemmas.Result.{on_err_weaker, on_ok_weaker}
use Rattle.model_workers.proofs.FilesLemmas.BoundLemmas.{commits_so, leaves_so}
use Rattle.model_workers.proofs.files.log.commit.Goals as goal

pub returns-clause-committed : goal.returns-clause-committed
returns-clause-committed g c =
    on_ok_weaker c.commit.result
    (commits_so g.D.LogFile.seen g.D.LogFile.may_leave g.D.LogFile.is_sound c.args.log.now.batch.items
    c.args.log.now.file c.args.log.now.len c.args.log.now.is_broken c.commit.new.self.file c.commit.new.self.len
    c.commit.new.self.is_broken)
    c.commit.ensures.holds

pub returns-clause-any_moment : goal.returns-clause-any_moment
returns-clause-any_moment g c =
    leaves_so g.D.LogFile.seen g.D.LogFile.may_leave g.D.LogFile.is_sound g.D.LogFile.moment g.D.LogFile.left_since
    c.args.log.now.file c.args.log.now.len c.args.log.now.is_broken c.commit.new.self.file c.commit.ensures.keeps

pub returns-clause-failed : goal.returns-clause-failed
returns-clause-failed g c = on_err_weaker c.commit.result (λ held f name h. held (f.file name) h) c.commit.ensures.held
