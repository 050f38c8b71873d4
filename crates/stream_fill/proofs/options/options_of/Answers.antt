use Rattle.std.proofs.Common.{IsTrue, List, rules, subst}
use Rattle.command_lines.specs.Words.{Text}
use Rattle.stream_fill.specs.Options.{Says}
use Rattle.stream_fill.proofs.options.options_of.Goals as goal

pub returns-clause-said : goal.returns-clause-said
returns-clause-said c =
    let says : IsTrue c.in_ok-says.field-0 = search rules in
    subst (λ (line : List (Text × Text)). Says line c.in_ok-options.options) c.in_ok-line.ensures (c.in_ok-says.ensures says)
