use Rattle.std.proofs.Common.{◌≡◌, ◌∙◌, Some, None, ap, rules, sym}
use Rattle.stream_entries.specs.InForms.{numbers_in}
use Rattle.stream_entries.proofs.NumbersLemmas.{nil_is_no_id, number_is_no_fields}
use Rattle.stream_entries.proofs.entries.with_either.Goals as goal

pub rule_out_standard-requires : goal.rule_out_standard-requires
rule_out_standard-requires g c =
    let told : numbers_in (g.S.Source.seen c.args.v) ≡ c.find_numbers.result =
    ap numbers_in (sym c.as_value.ensures) ∙ sym c.find_numbers.ensures in
    let numbers : numbers_in (g.S.Source.seen c.args.v) ≡ Some (None, c.in-Some-None-default.field-0-1) =
    first_of (cc (c.in-Some-None-default.is, c.in-Some-None-default.field-0-0-is), search rules) in
    nil_is_no_id (g.S.Source.seen c.args.v) c.in-Some-None-default.field-0-1 numbers

pub rule_out_standard-requires-in-Some-default-Some : goal.rule_out_standard-requires-in-Some-default-Some
rule_out_standard-requires-in-Some-default-Some g c =
    let told : numbers_in (g.S.Source.seen c.args.v) ≡ c.find_numbers.result =
    ap numbers_in (sym c.as_value.ensures) ∙ sym c.find_numbers.ensures in
    let numbers : numbers_in (g.S.Source.seen c.args.v)
    ≡ Some (c.in-Some-default-Some.field-0-0, Some c.in-Some-default-Some.field-0-1-0) =
    first_of (cc (c.in-Some-default-Some.is, c.in-Some-default-Some.field-0-1-is), search rules) in
    number_is_no_fields
    (g.S.Source.seen c.args.v) c.in-Some-default-Some.field-0-0 c.in-Some-default-Some.field-0-1-0 numbers
