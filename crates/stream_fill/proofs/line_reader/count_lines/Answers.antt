use Rattle.stream_fill.proofs.ReaderLemmas.{rest_dropped, rest_within}
use Rattle.stream_fill.proofs.line_reader.count_lines.Goals as goal

pub overflow_sub-result : goal.overflow_sub-result
overflow_sub-result c =
    rest_within c.args.bytes.now c.loop-count.rest.now c.loop-count.count c.loop-count.invariant.lines

pub returns-clause-lines : goal.returns-clause-lines
returns-clause-lines c =
    rest_dropped c.args.bytes.now c.loop-count.rest.now c.loop-count.count c.loop-count.invariant.lines
