use Rattle.std.proofs.Common.{◌≡◌, map, take}
use Rattle.redis_resp.specs.Tree.{bulk}
use Rattle.server_commands.specs.Sent.{plain, sent}
use Rattle.server_commands.proofs.commands.answers.fields_answer.Given as goal

-- the fields so far are replies
abbrev pub invariant-loop-field : goal.invariant-loop-field
invariant-loop-field l = map sent l.answers.items ≡ map (λ f. plain (bulk f.items)) (take l.field-index l.fields)
