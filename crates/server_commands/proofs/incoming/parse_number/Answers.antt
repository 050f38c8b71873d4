use Rattle.std.proofs.Common.{◌≡◌, rules, refl, ◌∙◌}
use Rattle.redis_resp.proofs.NumberLemmas.{signed_told, signed_no_text}
use Rattle.redis_wire.specs.Scalar.{number_of}
use Rattle.server_commands.proofs.incoming.parse_number.Goals as goal

pub returns-in_default : goal.returns-in_default
unfolding number_of
returns-in_default c = rw (signed_no_text c.args.text.now c.in_default.ensures.cases.0) refl

pub returns : goal.returns
unfolding number_of
returns c =
    let same : c.in-Ok.text.now ≡ c.args.text.now = search rules in
    let told = signed_told c.in-Ok.text.now c.parse.result c.parse.ensures.value.0 in
    c.ok.ensures.value ∙ rw (← same) told
