use Rattle.stream_drain.specs.Known.{known_by}
use Rattle.stream_drain.proofs.LinesLemmas.{opened}
use Rattle.stream_drain.proofs.lines.Lines.open.Goals as goal

pub returns-clause-knows : goal.returns-clause-knows
returns-clause-knows g c =
    opened g.D.LogFile.seen g.D.LogFile.may_leave g.D.LogFile.is_sound (g.D.LogFile.seen c.args.file) c.in_ok-open.field-0.file
    c.in_ok-open.field-0.len c.in_ok-open.field-0.is_broken c.args.json (known_by c.in_ok-known.known)
    c.in_ok-open.ensures.file c.in_ok-open.ensures.works (c.in_ok-open.ensures.holds c.requires) c.in_ok-known.ensures.knows
