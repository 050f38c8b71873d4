use Rattle.std.proofs.Common.{◌≡◌, drop, map}
use Rattle.command_lines.specs.Words.{is_given, pair_of}
use Rattle.command_lines.proofs.words.Line.has.Given as goal

-- the values that are left have the option exactly if all of them do
abbrev pub invariant-loop-of : goal.invariant-loop-of
invariant-loop-of l = is_given l.option (map pair_of (drop l.of-index l.self.values.items))
    ≡ is_given l.option (map pair_of l.self.values.items)
