-- The results of reading a reply as a record.
use Rattle.std.specs.Prelude.{◌≡◌, List, ℕ, Option, Some, None, Result, Ok, Err}
use Rattle.redis_resp.specs.Tree.{Tree}
use Rattle.redis_resp.specs.Refusal.{Refuses}
use Rattle.redis_resp.specs.declared.value.error.ParsingError.{ParsingError}
use Rattle.redis_wire.specs.declared.reply.ReplyError.{ReplyError}
use Rattle.redis_wire.specs.declared.reply.ReplyError.TheVariants.{Server, Parsing, NotAnAnswer}
use Rattle.redis_wire.specs.Reply.{Answer, value, first_error}

-- the result is the error of the server with these bytes; if there is none, it is `NotAnAnswer`
abbrev pub IsErrorOf : {R : Type 0} → Option (List ℕ) → Result R ReplyError → Type 0
IsErrorOf (Some text) (Err (Server e)) = e.text.items ≡ text
IsErrorOf None (Err NotAnAnswer) = Unit {0}
IsErrorOf _ _ = ⊥

module _ {M R : Type 0} (reading : Tree → Option M)
    (may_refuse : Tree → ParsingError → Type 0) (meaning : R → M) where
  -- the record of a value, or why it is refused
  abbrev pub IsRecordOf : Tree → Result R ReplyError → Type 0
  IsRecordOf t (Ok r) = reading t ≡ Some (meaning r)
  IsRecordOf t (Err (Parsing e)) = Refuses reading may_refuse t e
  IsRecordOf t _ = ⊥

  -- the result for a reply that is a value, and otherwise the first error in it
  abbrev pub IsRecord : Answer → Result R ReplyError → Type 0
  IsRecord (value t) r = IsRecordOf t r
  IsRecord a r = IsErrorOf (first_error a) r
