use Rattle.std.proofs.Common.{sym, ◌∙◌}
use Rattle.std.proofs.lemmas.List.{length-map}
use Rattle.std.proofs.lemmas.Result.{err_from_is_err_and}
use Rattle.stream_options.proofs.Sentences.{alike}
use Rattle.stream_options.proofs.UniqueDecoding.{trim_reads}
use Rattle.stream_option_parsing.specs.Parts.{trim_of}
use Rattle.stream_option_parsing.specs.Split.{arguments}
use Rattle.stream_option_parsing.proofs.Splits.{one_split, split_not_free, split_fails, rest_le}
use Rattle.stream_option_parsing.proofs.trim.read_trim_parts.Goals as goal

pub returns-in_err-parts-clause-none : goal.returns-in_err-parts-clause-none
returns-in_err-parts-clause-none c =
    let p = err_from_is_err_and c.from_residual.result c.from_residual.ensures.1 in
    rw (p.1, p.2) (split_fails _ _ _ _ _ (alike trim_reads) _ _ c.in_err-parts.ensures)

pub overflow_sub-result : goal.overflow_sub-result
overflow_sub-result c = let s = rest_le _ _ _ _ _ (alike trim_reads) (arguments c.args.args.now) (trim_of c.in_ok-parts.parts)
    (arguments c.in_ok-parts.rest.now) c.in_ok-parts.ensures in simp length-map at s

pub returns-then-begins_with-clause-none : goal.returns-then-begins_with-clause-none
returns-then-begins_with-clause-none c =
    λ _. split_not_free _ _ _ _ _ (alike trim_reads) _ _ _ c.in_ok-parts.ensures
    (sym c.begins_with.ensures ∙ c.if-begins_with.true)

pub returns-clause-split : goal.returns-clause-split
returns-clause-split c =
    let s = one_split _ _ _ _ _ (alike trim_reads) (arguments c.args.args.now) (trim_of c.in_ok-parts.parts)
    (arguments c.in_ok-parts.rest.now) c.in_ok-parts.ensures
    (sym c.begins_with.ensures ∙ c.if-begins_with.false) in
    simp length-map at s
