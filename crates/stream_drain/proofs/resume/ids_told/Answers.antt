use Rattle.std.proofs.Common.{rules}
use Rattle.stream_drain.proofs.ResumeLemmas.{told_one_more}
use Rattle.stream_drain.proofs.resume.ids_told.Goals as goal

pub loop-line-preserved : goal.loop-line-preserved
loop-line-preserved c =
    told_one_more c.args.json c.args.lines.now c.loop-line.line-index c.line-item.result c.loop-line.ids.items
    c.push.new.self.items c.in-Some.id (search rules) (search rules) (search rules) c.loop-line.invariant (search rules)
