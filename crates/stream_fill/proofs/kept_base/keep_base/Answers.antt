use Rattle.std.proofs.Common.{◌∙◌, refl, subst, IfSome, List, [], ℕ}
use Rattle.worker_journal.specs.Device.{Only}
use Rattle.stream_fill.proofs.KeepLemmas.{line_durable}
use Rattle.stream_fill.proofs.kept_base.keep_base.Goals as goal

pub returns-clause-durable : goal.returns-clause-durable
returns-clause-durable g c =
    let sound = c.in_ok-cut.ensures.mended [] refl (λ left is. (left, refl)) in
    let only = c.in_ok-sync.ensures.durable (c.in_ok-append.ensures.sound sound) in
    subst (λ (l : List ℕ). IfSome (g.D.LogFile.seen c.args.file.now) (λ _. Only l (g.D.LogFile.may_leave c.sync.new.self)))
    (c.deref.ensures.value ∙ c.in_ok-line.ensures)
    (line_durable (g.D.LogFile.seen c.args.file.now) (g.D.LogFile.seen c.cut.new.self)
    (g.D.LogFile.seen c.append.new.self) c.deref.result.now (g.D.LogFile.may_leave c.sync.new.self)
    c.in_ok-cut.ensures.cut c.in_ok-append.ensures.appended only)
