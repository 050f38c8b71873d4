use Rattle.std.proofs.Common.{◌≡◌, refl, rules, string_bytes}
use Rattle.std.proofs.lemmas.Str.{IsUtf8-string_bytes}
use Rattle.redis_resp.proofs.TextLemmas.{text_in_bulk, no_text_in_bulk}
use Rattle.redis_resp.proofs.value.text.into_text.Goals as goal

pub returns-in-Ok-clause-ok : goal.returns-in-Ok-clause-ok
returns-in-Ok-clause-ok c =
    let same : string_bytes c.in-Ok.text ≡ c.args.bytes.items = search rules in
    text_in_bulk c.args.bytes.items _ same (IsUtf8-string_bytes c.in-Ok.text)

pub returns-clause-err : goal.returns-clause-err
returns-clause-err c =
    (no_text_in_bulk c.args.bytes.items (λ utf8. let ok = c.in-Err.ensures.succeeds utf8 in cc), refl)
