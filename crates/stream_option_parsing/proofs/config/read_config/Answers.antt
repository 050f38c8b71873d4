use Rattle.std.proofs.Common.{rules, ◌≡◌, Some, None, sym, ◌∙◌}
use Rattle.std.proofs.lemmas.List.{length-map}
use Rattle.stream_options.specs.ReadBack.{config_at}
use Rattle.stream_options.proofs.Sentences.{alike}
use Rattle.stream_options.proofs.UniqueDecoding.{config_reads}
use Rattle.stream_option_parsing.specs.Split.{arguments}
use Rattle.stream_option_parsing.proofs.Splits.{one_split, split_none, split_not_free}
use Rattle.stream_option_parsing.proofs.config.read_config.Goals as goal

pub returns-then-begins_with-clause-none : goal.returns-then-begins_with-clause-none
returns-then-begins_with-clause-none c =
    let e : config_at (arguments c.args.args.now) ≡ Some (c.in-Some.options, arguments c.in-Some.rest.now) =
    search rules in
    split_not_free _ _ _ _ _ (alike config_reads) _ _ _ e (sym c.begins_with.ensures ∙ c.if-begins_with.true)

pub returns-clause-split : goal.returns-clause-split
returns-clause-split c =
    let e : config_at (arguments c.args.args.now) ≡ Some (c.in-Some.options, arguments c.in-Some.rest.now) =
    search rules in
    let s = one_split _ _ _ _ _ (alike config_reads) (arguments c.args.args.now) c.in-Some.options
    (arguments c.in-Some.rest.now) e (sym c.begins_with.ensures ∙ c.if-begins_with.false) in
    simp length-map at s

pub returns-in_default-clause-none : goal.returns-in_default-clause-none
returns-in_default-clause-none c =
    let e : config_at (arguments c.args.args.now) ≡ None = search rules in
    split_none _ _ _ _ _ (alike config_reads) _ e
