use Rattle.std.proofs.Common.{◌≡◌, rules, refl, ◌∙◌}
use Rattle.redis_resp.proofs.NumberLemmas.{signed_told, signed_no_text}
use Rattle.test_notation.proofs.notation.scan.parse_number.Goals as goal

pub returns-in_default : goal.returns-in_default
returns-in_default c = rw (signed_no_text c.args.word.now c.in_default.ensures.cases.0) refl

pub returns : goal.returns
returns c =
    let same : c.in-Ok.text.now ≡ c.args.word.now = search rules in
    let told = signed_told c.in-Ok.text.now c.parse.result c.parse.ensures.value.0 in
    c.ok.ensures.value ∙ rw (← same) told
