use Rattle.std.proofs.Common.{◌≡◌, ◌≤◌, map, length}
use Rattle.server_commands.specs.Incoming.{words_at}
use Rattle.server_commands.proofs.CommandLemmas.{in_front}
use Rattle.server_commands.proofs.incoming.parse_words.Given as goal

abbrev pub invariant-loop-left : goal.invariant-loop-left
invariant-loop-left l = record {
  so_far : in_front (map (λ w. w.items) l.words.items) (words_at l.left l.rest) ≡ words_at l.count l.bytes;
  within : length l.rest ≤ length l.bytes;
}

abbrev pub decreases-loop-left : goal.decreases-loop-left
decreases-loop-left l = l.left
