use Rattle.std.proofs.Common.{◌≡◌, map, length}
use Rattle.server_commands.specs.Quoted.{words_from, prefixed, split_words}
use Rattle.server_commands.proofs.quoted.split_words.Given as goal

abbrev pub invariant-loop-rest : goal.invariant-loop-rest
invariant-loop-rest l = prefixed (map (λ w. w.items) l.words.items) (words_from l.rest l.place l.word.items)
    ≡ split_words l.line

abbrev pub decreases-loop-rest : goal.decreases-loop-rest
decreases-loop-rest l = length l.rest
