use Rattle.std.proofs.Common.{sym, ◌∙◌, true, false}
use Rattle.stream_option_parsing.proofs.Splits.{among_drop}
use Rattle.stream_option_parsing.proofs.values.is_among.Goals as goal

pub returns-then-eq : goal.returns-then-eq
returns-then-eq c =
    sym
    (among_drop c.args.words.now c.loop-word.word-index _ _ c.args.arg.now true c.loop-word-test.true
    c.as_bytes.ensures.value
    (sym c.eq.ensures ∙ c.if-eq.true)) ∙ c.loop-word.invariant

pub loop-word-preserved : goal.loop-word-preserved
loop-word-preserved c =
    sym
    (among_drop c.args.words.now c.loop-word.word-index _ _ c.args.arg.now false c.loop-word-test.true
    c.as_bytes.ensures.value
    (sym c.eq.ensures ∙ c.if-eq.false)) ∙ c.loop-word.invariant
