use Rattle.std.proofs.Common.{◌≡◌, ◌++◌, drop, map}
use Rattle.command_lines.specs.Words.{pair_of, said}
use Rattle.command_lines.proofs.words.Line.values_of.Given as goal

-- what is found, and what the values that are left have of the option, are its values
abbrev pub invariant-loop-of : goal.invariant-loop-of
invariant-loop-of l = map (λ v. v.now) l.values.items ++ said l.option (map pair_of (drop l.of-index l.self.values.items))
    ≡ said l.option (map pair_of l.self.values.items)
