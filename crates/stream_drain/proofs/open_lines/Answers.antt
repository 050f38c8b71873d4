use Rattle.std.proofs.Common.{◌≡◌, [], IfOk, IfSome, Option, List, ℕ, subst}
use Rattle.worker_journal.specs.Holds.{committed_in}
use Rattle.stream_drain.specs.Known.{known_by}
use Rattle.stream_drain.specs.Program.{BeginsFile}
use Rattle.stream_drain.specs.Resumed.{KnowsItsFile}
use Rattle.stream_drain.proofs.ProgramLemmas.{opened_knows, opened_so}
use Rattle.stream_drain.proofs.open_lines.Goals as goal

pub returns-clause-begins : goal.returns-clause-begins
returns-clause-begins g c =
    subst (λ (file : Option (List ℕ)). IfOk c.context.result (λ lines. BeginsFile file
    (committed_in (g.D.LogFile.seen lines.log.file) lines.log.len))) c.in-Ok.ensures.bytes
    (opened_so (λ lines. g.D.LogFile.seen lines.log.file) (λ lines. lines.log.len) (g.D.LogFile.seen c.in-Ok.file)
    c.open-2.result c.context.result _ c.context.ensures c.open-2.ensures.repaired)

pub returns-clause-knows : goal.returns-clause-knows
returns-clause-knows g c =
    subst (λ (file : Option (List ℕ)). IfOk c.context.result (λ lines. IfSome file (λ _.
    IfSome (committed_in (g.D.LogFile.seen lines.log.file) lines.log.len)
    (λ bytes. KnowsItsFile lines.json bytes (known_by lines.known))))) c.in-Ok.ensures.bytes
    (opened_knows (λ lines. g.D.LogFile.seen lines.log.file) (λ lines. lines.log.len) (λ lines. lines.json)
    (λ lines. known_by lines.known)
    (λ lines. (lines.json ≡ c.args.json) × (lines.log.batch.items ≡ []) × (lines.seen ≡ 0) × (lines.done ≡ 0)
    × (lines.committed ≡ 0)) (g.D.LogFile.seen c.in-Ok.file) c.args.json c.open-2.result c.context.result _
    (λ lines new. new.0) c.context.ensures c.open-2.ensures.new c.open-2.ensures.knows)
