use Rattle.model_workers.proofs.FilesLemmas.BoundLemmas.{if_ok_of_three, opens_so}
use Rattle.model_workers.proofs.files.log.open.Goals as goal

pub returns : goal.returns
returns g c =
    if_ok_of_three c.open.result _ _ _ _
    (λ log. opens_so g.D.LogFile.seen g.D.LogFile.may_leave g.D.LogFile.is_sound c.args.file log.file log.len
    log.is_broken)
    c.open.ensures.file c.open.ensures.holds c.open.ensures.works
