-- The command for the last id of a stream, and the meaning of its reply.
use Rattle.std.specs.Prelude.{◌≡◌, ℕ, List, Some}
use Rattle.redis_connection.specs.Link.{Link, Sends, SendsFront, IsEnded, IsFaulty}
use Rattle.redis_connection.specs.Passing.{ReceivesAnswer, AwaitsAnswer}
use Rattle.redis_wire.specs.Reply as wire
use Rattle.model_server.specs.Group.Group.{Numbers}
use Rattle.worker_producer.specs.Replies.{last_of}
use Rattle.worker_producer.specs.Sentences.{ask_bytes}
use Rattle.worker_producer.specs.Unheard.{IsUnasked}
use Rattle.worker_producer.specs.declared.error.RunError.{RunError}
use Rattle.worker_producer.specs.declared.error.RunError.TheVariants as causes

-- `XINFO STREAM key` was sent, and the reply has this last id
pub record LastIs (key : List ℕ) (old new : Link) (last : Numbers) : Type 0 where
  pub between : Link
  pub reply : wire.Answer
  pub sends : Sends old between (ask_bytes key)
  pub receives : ReceivesAnswer between new reply
  pub says : last_of reply ≡ Some last

-- why the last id is not known: the command was not sent; or it was, and no reply was received, or one without a last
-- id
abbrev pub IsUntold : List ℕ → Link → Link → RunError → Type 0
IsUntold key old new (causes.Request e) = new ≡ old
IsUntold key old new (causes.Send e) = SendsFront old new (ask_bytes key)
IsUntold key old new (causes.Receive e) =
    (l : Link) × Sends old l (ask_bytes key) × AwaitsAnswer l new × IsEnded new e × IsFaulty new.held e
IsUntold key old new (causes.Answer e) =
    (l : Link) × (a : wire.Answer) × Sends old l (ask_bytes key) × ReceivesAnswer l new a × IsUnasked a e
