use Rattle.std.proofs.Common.{◌≡◌, ◌++◌, [], length, map, string_bytes}
use Rattle.command_lines.specs.Words.{pair_of, values_in}
use Rattle.command_lines.proofs.words.Line.read.Given as goal

-- what is read, and the values in the words that are left, are the values in all words
abbrev pub invariant-loop-rest : goal.invariant-loop-rest
invariant-loop-rest g l = map pair_of l.values.items
    ++ values_in g.A.Arity.number l.awaited.option.now l.awaited.number (map string_bytes l.rest)
    ≡ values_in g.A.Arity.number [] 0 (map string_bytes l.words)

abbrev pub decreases-loop-rest : goal.decreases-loop-rest
decreases-loop-rest g l = length l.rest
