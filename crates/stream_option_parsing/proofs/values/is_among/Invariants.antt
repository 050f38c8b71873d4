use Rattle.std.proofs.Common.{◌≡◌, map, drop}
use Rattle.stream_options.specs.Words.{among}
use Rattle.stream_option_parsing.proofs.values.is_among.Given as goal

-- it is among the words if it is among those that are left
abbrev pub invariant-loop-word : goal.invariant-loop-word
invariant-loop-word l = among (map (λ w. w.now) (drop l.word-index l.words)) l.arg
    ≡ among (map (λ w. w.now) l.words) l.arg
