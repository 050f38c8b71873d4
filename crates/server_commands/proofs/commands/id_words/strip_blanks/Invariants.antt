use Rattle.std.proofs.Common.{◌≡◌, ◌≤◌, slice_index_or}
use Rattle.server_commands.proofs.commands.id_words.strip_blanks.Given as goal

-- no blank is before a digit
abbrev pub invariant-loop : goal.invariant-loop
invariant-loop l = 48 ≤ slice_index_or l.text 0 0 → l.rest ≡ l.text
