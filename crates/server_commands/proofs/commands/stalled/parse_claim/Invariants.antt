use Rattle.std.proofs.Common.{◌≡◌, false, length}
use Rattle.server_commands.proofs.commands.stalled.parse_claim.Given as goal

-- the moment stays, and no option is read if there is none
abbrev pub invariant-loop : goal.invariant-loop
invariant-loop l = record {
  now : l.claim.now ≡ l.now;
  plain : length l.words ≡ 0 → l.claim.only_ids ≡ false;
}
