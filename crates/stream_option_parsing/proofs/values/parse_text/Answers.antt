use Rattle.std.proofs.Common.{rules, ◌≡◌, string_bytes}
use Rattle.stream_option_parsing.proofs.Texts.{is_text, is_no_text, not_of_text}
use Rattle.stream_option_parsing.proofs.values.parse_text.Goals as goal

pub returns-in_ok-from_str-in-Ok-clause-text : goal.returns-in_ok-from_str-in-Ok-clause-text
returns-in_ok-from_str-in-Ok-clause-text c =
    let e : string_bytes c.in_ok-from_str-in-Ok.field-0 ≡ c.args.bytes.now = search rules in
    rw e (is_text c.args.bytes.now c.in-Ok.ensures.cases.1)

pub returns-in_err-from_str-in-Ok-clause-none : goal.returns-in_err-from_str-in-Ok-clause-none
returns-in_err-from_str-in-Ok-clause-none c =
    not_of_text c.args.bytes.now _ c.in-Ok.ensures.cases.1

pub returns-in-Err-clause-text : goal.returns-in-Err-clause-text
returns-in-Err-clause-text c = is_no_text c.args.bytes.now c.in-Err.ensures.cases.0
