use Rattle.std.proofs.Common.{rules, ◌≡◌, decimal, arith, refl, ◌∙◌}
use Rattle.std.proofs.lemmas.Fmt.{IsAscii-decimal, parse-decimal}
use Rattle.std.proofs.lemmas.Str.{IsUtf8-from_ascii}
use Rattle.server_commands.proofs.IdWordLemmas.{first_digit}
use Rattle.server_commands.proofs.commands.id_words.parse_digits.Goals as goal

pub returns-in-43 : goal.returns-in-43
returns-in-43 c = λ n small is. absurd (omega (arith, first_digit n c.args.text.now small is, c.in-43.len_at_least))

pub returns-in_default-from_utf8 : goal.returns-in_default-from_utf8
returns-in_default-from_utf8 c = λ n small is.
    absurd (c.in_default-from_utf8.ensures.cases.0 (rw is (IsUtf8-from_ascii (decimal n) (IsAscii-decimal n small))))

pub returns : goal.returns
returns c = λ n small is.
    let same : c.in-Ok.text.now ≡ c.args.text.now = search rules in
    let told = parse-decimal 64 n c.in-Ok.text.now c.parse.result small small (same ∙ is) c.parse.ensures.value.0 in
    c.ok.ensures.value ∙ rw told refl
