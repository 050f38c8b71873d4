use Rattle.std.proofs.Common.{◌≡◌, ◌≤◌, arith, rules}
use Rattle.std.specs.declared.num.ParseIntError.{ParseIntError}
use Rattle.clap.specs.Words.{found_of, one_text}
use Rattle.command_lines.specs.Words.{last_said, said, texts_of}
use Rattle.command_lines.proofs.SaidLemmas.{number_said}
use Rattle.command_lines.proofs.said.says_number.Goals as goal

pub returns : goal.returns
returns c = λ yes n is.
    let number = c.args.number.now in
    let same : c.last_of-text.result.now ≡ last_said number.usual.now (said c.args.option.now (texts_of c.args.line.now)) = search (rules) in
    number_said ParseIntError (one_text (found_of c.args.matches.now) number.name.now) c.last_of-text.result.now _ number.least
    number.most c.in-Ok-Some.said c.in-Ok-Some.found n c.in-Ok-Some.ensures.value.0 same (search rules)
    (omega arith) (omega arith) is c.in-Ok-Some.ensures'.none (λ t e. (c.in-Ok-Some.ensures'.value t e).0)
