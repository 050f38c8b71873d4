use Rattle.std.proofs.Common.{◌≡◌, ◌++◌}
use Rattle.stream_option_parsing.specs.Lines.{parts_left}
use Rattle.stream_option_parsing.specs.Split.{arguments}
use Rattle.stream_option_parsing.proofs.LineLemmas.{bytes_left}
use Rattle.stream_option_parsing.proofs.pieces.cut_args.Given as goal

-- the arguments so far and those that are left are all of them
abbrev pub invariant-parts : goal.invariant-parts
invariant-parts l = arguments l.args.items ++ parts_left l.left ≡ parts_left l.initial.left

abbrev pub decreases-parts : goal.decreases-parts
decreases-parts l = bytes_left l.left
