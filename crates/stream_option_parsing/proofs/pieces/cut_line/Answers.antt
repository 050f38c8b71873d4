use Rattle.std.proofs.Common.{[]}
use Rattle.stream_option_parsing.proofs.LineLemmas.{last_line}
use Rattle.stream_option_parsing.proofs.pieces.cut_line.Goals as goal

pub returns-in_default-None-clause-lines : goal.returns-in_default-None-clause-lines
returns-in_default-None-clause-lines c =
    last_line c.args.bytes.now c.cut_at.result.0.now c.cut_at.result.1 c.requires
    (c.cut_at.ensures.cut []) c.cut_at.ensures.whole c.in_default-None.is-1
