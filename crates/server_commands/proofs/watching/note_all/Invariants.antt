use Rattle.std.proofs.Common.{◌≡◌, length}
use Rattle.server_commands.proofs.watching.note_all.Given as goal

-- there is one for each key so far
abbrev pub invariant-loop-key : goal.invariant-loop-key
invariant-loop-key l = record { count : length l.list.items ≡ l.key-index }
