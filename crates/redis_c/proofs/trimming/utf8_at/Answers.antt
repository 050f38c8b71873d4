use Rattle.std.proofs.Common.{◌∙◌, ap, sym, option_map, Some, List, ℕ}
use Rattle.redis_c.specs.declared.argument.Argument.{Argument}
use Rattle.redis_c.proofs.SettingsLemmas.{utf8_there, no_utf8_there}
use Rattle.redis_c.proofs.trimming.utf8_at.Goals as goal

pub returns-in_default-from_utf8 : goal.returns-in_default-from_utf8
returns-in_default-from_utf8 c =
    no_utf8_there c.args.bytes.now c.args.place c.in-Some.text.0.now
    (sym c.text_at.ensures ∙ ap (option_map (λ (text : Argument). text.0.now)) c.in-Some.is)
    c.in_default-from_utf8.ensures.cases.0

pub returns-in-Ok-from_str : goal.returns-in-Ok-from_str
returns-in-Ok-from_str c =
    utf8_there c.args.bytes.now c.args.place c.in-Some.text.0.now
    (sym c.text_at.ensures ∙ ap (option_map (λ (text : Argument). text.0.now)) c.in-Some.is)
    c.in-Ok.ensures.cases.1
    ∙ ap (λ (text : List ℕ). Some text) (sym c.in-Ok.ensures.cases.0 ∙ sym c.in-Ok-from_str.ensures.ok)
