use Rattle.std.proofs.Common.{◌≡◌, length, take}
use Rattle.server_commands.specs.IdWords.{AreRead}
use Rattle.server_commands.proofs.commands.id_words.ids.Given as goal

-- one id of each argument
abbrev pub invariant-loop-argument : goal.invariant-loop-argument
invariant-loop-argument l = record {
  len : length l.ids.items ≡ l.argument-index;
  read : AreRead (take l.argument-index l.arguments) l.ids.items;
}
