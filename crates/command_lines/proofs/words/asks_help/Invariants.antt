use Rattle.std.proofs.Common.{◌≡◌, drop, map, string_bytes}
use Rattle.command_lines.specs.Words.{asks_help}
use Rattle.command_lines.proofs.words.asks_help.Given as goal

-- the words that are left ask for it exactly if all of them do
abbrev pub invariant-loop-word : goal.invariant-loop-word
invariant-loop-word l = asks_help (map string_bytes (drop l.word-index l.words)) ≡ asks_help (map string_bytes l.words)
