use Rattle.std.proofs.Common.{◌≡◌, map, take}
use Rattle.server_commands.specs.Claiming.{sent_id}
use Rattle.server_commands.specs.Sent.{sent}
use Rattle.server_commands.proofs.commands.stalled.make_id_answers.Given as goal

-- the ids so far are replies
abbrev pub invariant-loop-id : goal.invariant-loop-id
invariant-loop-id l = map sent l.answers.items ≡ map sent_id (take l.id-index l.ids)
