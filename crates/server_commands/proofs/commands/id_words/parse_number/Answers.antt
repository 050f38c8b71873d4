use Rattle.std.proofs.Common.{arith, ◌∙◌}
use Rattle.server_commands.proofs.IdWordLemmas.{first_digit}
use Rattle.server_commands.proofs.commands.id_words.parse_number.Goals as goal

pub returns-then-matches : goal.returns-then-matches
returns-then-matches c = λ n small is.
    let same = c.strip_blanks.ensures (first_digit n c.args.text.now small is) in
    absurd (omega (arith, first_digit n c.strip_blanks.result.now small (same ∙ is)))

pub returns-in_err-parse_digits-in-45 : goal.returns-in_err-parse_digits-in-45
returns-in_err-parse_digits-in-45 c = λ n small is.
    let same = c.strip_blanks.ensures (first_digit n c.args.text.now small is) in
    absurd (omega (arith, first_digit n c.strip_blanks.result.now small (same ∙ is)))

pub returns-in_ok-parse_digits-in-45 : goal.returns-in_ok-parse_digits-in-45
returns-in_ok-parse_digits-in-45 c = λ n small is.
    let same = c.strip_blanks.ensures (first_digit n c.args.text.now small is) in
    absurd (omega (arith, first_digit n c.strip_blanks.result.now small (same ∙ is)))

pub returns-in-43 : goal.returns-in-43
returns-in-43 c = λ n small is.
    let same = c.strip_blanks.ensures (first_digit n c.args.text.now small is) in
    absurd (omega (arith, first_digit n c.strip_blanks.result.now small (same ∙ is)))

pub returns-in_default : goal.returns-in_default
returns-in_default c = λ n small is.
    let same = c.strip_blanks.ensures (first_digit n c.args.text.now small is) in
    c.parse_digits-in_default.ensures n small (same ∙ is)
