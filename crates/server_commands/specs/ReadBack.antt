-- Which replies are read back of the bytes that they are sent as.
use Rattle.std.specs.Prelude.{◌≤◌, ◌<◌, ◌^◌, ◌-◌, ℕ, List, [], ◌∷◌, length, Result, Ok, Err}
use Rattle.std.specs.Global.{Vec}
use Rattle.redis_wire.specs.declared.limits.Limits.{Limits}
use Rattle.redis_wire.specs.declared.written.Protocol.{Protocol}
use Rattle.redis_wire.specs.Count.{value_count}
use Rattle.redis_wire.specs.Grammar.{IsReply}
use Rattle.redis_wire.specs.ReadBack.{IsWritable}
use Rattle.server_commands.specs.declared.answer.Answer.{Answer}
use Rattle.server_commands.specs.declared.answer.Reply.{Reply}
use Rattle.server_commands.specs.declared.answer.Reply.TheVariants.{Done, Refused, Executed}
use Rattle.server_commands.specs.Sent.{sent, tree_of, reply_said, reply_bytes}

-- a reply, or why a command was refused, is within the limits and has at most n levels
abbrev pub OutcomeFits : Protocol → Limits → ℕ → Result Answer (Vec ℕ) → Type 0
OutcomeFits p limits d (Ok a) = IsWritable p limits d (tree_of p (sent a))
OutcomeFits p limits d (Err text) = (0 < d) × (length text.items ≤ limits.line)

-- each of them is
abbrev pub OutcomesFit : Protocol → Limits → ℕ → List (Result Answer (Vec ℕ)) → Type 0
OutcomesFit p limits d [] = Unit {0}
OutcomesFit p limits d (o ∷ os) = OutcomeFits p limits d o × OutcomesFit p limits d os

-- a reply is within the limits
abbrev pub ReplyFits : Protocol → Limits → Reply → Type 0
ReplyFits p limits (Done a) = OutcomeFits p limits limits.depth (Ok a)
ReplyFits p limits (Refused text) = OutcomeFits p limits limits.depth (Err text)
ReplyFits p limits (Executed v) = (0 < limits.depth) × (length v.items ≤ limits.length)
    × OutcomesFit p limits (limits.depth - 1) v.items

-- if lines of 20 bytes are allowed, the bytes of a reply within the limits are one RESP reply, the right one, and
-- nothing else
abbrev pub RepliesAreRead : Type 0
RepliesAreRead = (p : Protocol) (limits : Limits) (r : Reply) → limits.length < 2 ^ 32 → 20 ≤ limits.line
    → ReplyFits p limits r → value_count (reply_said p r) ≤ limits.values
    → IsReply limits (reply_bytes p r) (reply_said p r)
