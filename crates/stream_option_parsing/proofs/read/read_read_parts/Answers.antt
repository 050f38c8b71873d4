use Rattle.std.proofs.Common.{rules, ◌≡◌, Some, None, sym, ◌∙◌}
use Rattle.std.proofs.lemmas.List.{length-map}
use Rattle.stream_options.specs.ReadBack.{read_at}
use Rattle.stream_options.proofs.UniqueDecoding.{read_alike}
use Rattle.stream_option_parsing.specs.Parts.{read_of}
use Rattle.stream_option_parsing.specs.Split.{arguments}
use Rattle.stream_option_parsing.proofs.Splits.{one_split, split_none, split_not_free, rest_le}
use Rattle.stream_option_parsing.proofs.read.read_read_parts.Goals as goal

pub returns-then-begins_with-clause-none : goal.returns-then-begins_with-clause-none
returns-then-begins_with-clause-none c =
    let e : read_at (arguments c.args.args.now) ≡ Some (read_of c.in-Some.parts, arguments c.in-Some.rest.now) =
    search rules in
    split_not_free _ _ _ _ _ read_alike _ _ _ e (sym c.begins_with.ensures ∙ c.if-begins_with.true)

pub returns-clause-split : goal.returns-clause-split
returns-clause-split c =
    let e : read_at (arguments c.args.args.now) ≡ Some (read_of c.in-Some.parts, arguments c.in-Some.rest.now) =
    search rules in
    let s = one_split _ _ _ _ _ read_alike (arguments c.args.args.now) (read_of c.in-Some.parts)
    (arguments c.in-Some.rest.now) e (sym c.begins_with.ensures ∙ c.if-begins_with.false) in
    simp length-map at s

pub returns-in_default-clause-none : goal.returns-in_default-clause-none
returns-in_default-clause-none c =
    let e : read_at (arguments c.args.args.now) ≡ None = search rules in
    split_none _ _ _ _ _ read_alike _ e

pub overflow_sub-result : goal.overflow_sub-result
overflow_sub-result c =
    let e : read_at (arguments c.args.args.now) ≡ Some (read_of c.in-Some.parts, arguments c.in-Some.rest.now) =
    search rules in
    let s = rest_le _ _ _ _ _ read_alike (arguments c.args.args.now) (read_of c.in-Some.parts)
    (arguments c.in-Some.rest.now) e in
    simp length-map at s
