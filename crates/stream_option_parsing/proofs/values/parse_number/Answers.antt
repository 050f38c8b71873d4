use Rattle.std.proofs.Common.{rules, true, false, ◌≡◌, decimal, sym, ◌∙◌}
use Rattle.std.proofs.lemmas.Slice.Eq.{slice_eq-Decides}
use Rattle.std.proofs.lemmas.Bool.Decides.{Decides-eqb}
use Rattle.stream_option_parsing.proofs.Numbers.{not_text, not_parsed, parsed, parsed_otherwise}
use Rattle.stream_option_parsing.proofs.values.parse_number.Goals as goal

pub returns-in_default : goal.returns-in_default
returns-in_default c = not_text c.args.bytes.now c.in_default.ensures.cases.0

pub returns-in_default-parse : goal.returns-in_default-parse
returns-in_default-parse c =
    not_parsed c.args.bytes.now c.in-Ok.text.now c.in_default-parse.field-0 c.in-Ok.ensures.cases.0
    c.in_default-parse.ensures.value.0

pub returns-then-eq : goal.returns-then-eq
returns-then-eq c =
    let same : c.as_bytes.result.now ≡ c.args.bytes.now =
    (slice_eq-Decides Decides-eqb _ _ _ c.eq.ensures).0 c.if-eq.true in
    let text : decimal c.in-Ok-parse.n ≡ c.as_bytes.result.now = search rules in
    parsed c.args.bytes.now c.in-Ok-parse.n (search rules) (text ∙ same)

pub returns-else-eq : goal.returns-else-eq
returns-else-eq c =
    let text : decimal c.in-Ok-parse.n ≡ c.as_bytes.result.now = search rules in
    parsed_otherwise c.args.bytes.now c.in-Ok.text.now c.in-Ok-parse.n c.parse.result c.in-Ok.ensures.cases.0
    c.parse.ensures.value.0 c.in-Ok-parse.is
    (λ e. let t : true ≡ false = sym ((slice_eq-Decides Decides-eqb _ _ _ c.eq.ensures).1 (sym text ∙ e))
    ∙ c.if-eq.false in absurd cc)
