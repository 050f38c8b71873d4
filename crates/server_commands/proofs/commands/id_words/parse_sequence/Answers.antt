use Rattle.std.proofs.Common.{decimal, arith, refl}
use Rattle.server_commands.proofs.IdWordLemmas.{first_digit}
use Rattle.server_commands.proofs.commands.id_words.parse_sequence.Goals as goal

pub returns-in-42-clause-given : goal.returns-in-42-clause-given
returns-in-42-clause-given c = λ n small is.
    let first = first_digit n (decimal n) small refl in
    absurd (grind (arith, first, is))
