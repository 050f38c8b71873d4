-- The text in the row of a reply.
use Rattle.std.specs.Prelude.{◌≡◌, ℕ, List, Option, codes}
use Rattle.redis_resp.specs.declared.value.error.ParsingError.{ParsingError}
use Rattle.redis_resp.specs.Tree.{Tree}
use Rattle.test_notation.specs.Answer.{IsAnswer}
use denote.Ref.{Bor}

-- the result of both readings of a value, or that the notation is no value; which value it means is not specified
pub data IsReplyText {T M : Type 0} (meaning : T → M) (reading : Tree → Option M)
    (may_refuse : Tree → ParsingError → Type 0) (form : T → List ℕ) (notation : Bor (List ℕ))
    (text : List ℕ) : Type 0 where
  answered : (t : Tree) → IsAnswer meaning reading may_refuse form t text
      → IsReplyText meaning reading may_refuse form notation text
  unspelled : text ≡ codes "no value" → IsReplyText meaning reading may_refuse form notation text
