-- A command, and the reading of its reply.
use Rattle.std.specs.Prelude.{◌≡◌, ◌⊎◌, ℕ, List, Option, Some, None}
use Rattle.redis_resp.specs.Refusal.{Refuses}
use Rattle.redis_resp.specs.Tree.{Tree}
use Rattle.redis_resp.specs.declared.value.error.ParsingError.{ParsingError}
use Rattle.redis_wire.specs.Packed.{command_bytes}
use Rattle.redis_wire.specs.Reply.{Answer, value, first_error}
use Rattle.redis_connection.specs.Link.{Link, Sends, SendsFront}
use Rattle.redis_connection.specs.Passing.{ReceivesAnswer, AwaitsAnswer}
use Rattle.redis_connection.specs.declared.error.AskError.{AskError}
use Rattle.redis_connection.specs.declared.error.AskError.TheVariants as errors

-- the whole command was sent, and then this reply was received, after push messages that were skipped
pub record Exchanges (old new : Link) (args : List (List ℕ)) (a : Answer) : Type 0 where
  pub between : Link
  pub sends : Sends old between (command_bytes args)
  pub receives : ReceivesAnswer between new a

-- a prefix of the command was sent; or all of it, and no reply was received
abbrev pub Fails : Link → Link → List ℕ → Type 0
Fails old new bytes = SendsFront old new bytes ⊎ ((between : Link) × Sends old between bytes × AwaitsAnswer between new)

-- no value, and no error is in it
abbrev pub IsNoAnswer : Answer → Type 0
IsNoAnswer (value t) = ⊥
IsNoAnswer a = first_error a ≡ None

module _ {M : Type 0} (old new : Link) (args : List (List ℕ)) (reading : Tree → Option M) where
  -- the reply received is read as this
  abbrev pub Asks : M → Type 0
  Asks m = (t : Tree) × Exchanges old new args (value t) × (reading t ≡ Some m)

  -- no reply was received; or it has an error of the server in it, of which this is the first; or it is a value
  -- that is refused; or it is no reply to a command
  abbrev pub HasNoAnswer : (Tree → ParsingError → Type 0) → AskError → Type 0
  HasNoAnswer may_refuse (errors.Connection e) = Fails old new (command_bytes args)
  HasNoAnswer may_refuse (errors.Server e) =
      (a : Answer) × Exchanges old new args a × (first_error a ≡ Some e.text.items)
  HasNoAnswer may_refuse (errors.Parsing e) =
      (t : Tree) × Exchanges old new args (value t) × Refuses reading may_refuse t e
  HasNoAnswer may_refuse errors.NotAnAnswer = (a : Answer) × Exchanges old new args a × IsNoAnswer a
