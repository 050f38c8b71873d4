-- Lemmas on the reply to a command.
use Rattle.std.proofs.Common.{◌≡◌, ℕ, List, Option, Some, None, Err, refl, sym, ◌∙◌, ap}
use Rattle.redis_resp.specs.Tree.{Tree}
use Rattle.redis_resp.specs.declared.value.error.ParsingError.{ParsingError}
use Rattle.redis_wire.specs.Packed.{command_bytes}
use Rattle.redis_wire.specs.Record.{IsErrorOf, IsRecord}
use Rattle.redis_wire.specs.Reply.{Answer, value, refused, group, pushed, first_error}
use Rattle.redis_wire.specs.declared.reply.ReplyError.{ReplyError}
use Rattle.redis_wire.specs.declared.reply.ReplyError.TheVariants.{Server, Parsing, NotAnAnswer}
use Rattle.redis_connection.specs.Ask.{Exchanges, HasNoAnswer, IsNoAnswer}
use Rattle.redis_connection.specs.Cause.{refusal_of}
use Rattle.redis_connection.specs.Link.{Link, Sends}
use Rattle.redis_connection.specs.Passing.{ReceivesAnswer}

module _ {M R : Type 0} (reading : Tree → Option M) (may_refuse : Tree → ParsingError → Type 0) (meaning : R → M)
    (old new : Link) (args : List (List ℕ)) where
  -- a reply that is no value
  error_in : (o : Option (List ℕ)) (a : Answer) (e : ReplyError) → Exchanges old new args a → first_error a ≡ o
      → (first_error a ≡ None → IsNoAnswer a) → IsErrorOf {R = R} o (Err e)
      → HasNoAnswer old new args reading may_refuse (refusal_of e)
  error_in (Some text) a (Server e) x first other is = (a, x, first ∙ ap (λ (b : List ℕ). Some b) (sym is))
  error_in (Some text) a (Parsing e) x first other is = absurd is
  error_in (Some text) a NotAnAnswer x first other is = absurd is
  error_in None a (Server e) x first other is = absurd is
  error_in None a (Parsing e) x first other is = absurd is
  error_in None a NotAnAnswer x first other is = (a, x, other first)

  answered : (a : Answer) (e : ReplyError) → Exchanges old new args a → IsRecord reading may_refuse meaning a (Err e)
      → HasNoAnswer old new args reading may_refuse (refusal_of e)
  answered (value t) (Server e) x is = absurd is
  answered (value t) (Parsing e) x is = (t, x, is)
  answered (value t) NotAnAnswer x is = absurd is
  answered (refused text) e x is = error_in (first_error (refused text)) (refused text) e x refl (λ none. none) is
  answered (group k xs) e x is = error_in (first_error (group k xs)) (group k xs) e x refl (λ none. none) is
  answered (pushed k xs) e x is = error_in (first_error (pushed k xs)) (pushed k xs) e x refl (λ none. none) is

  pub no_answer : (mid : Link) (a : Answer) (e : ReplyError) → Sends old mid (command_bytes args) → ReceivesAnswer mid new a
      → IsRecord reading may_refuse meaning a (Err e) → HasNoAnswer old new args reading may_refuse (refusal_of e)
  no_answer mid a e s r is = answered a e (record { between = mid; sends = s; receives = r }) is
