-- Push messages of a server: they are no reply to a command, and are skipped.
use Rattle.std.specs.Prelude.{◌≡◌, ◌+◌, ◌-◌, ◌^◌, ℕ, zero, suc, List, [], ◌∷◌, min}
use Rattle.redis_wire.specs.Reply.{Answer, pushed}
use Rattle.redis_connection.specs.Link.{Link, Receives, Stands, Waits}

-- a push message of the server
abbrev pub IsMessage : Answer → Type 0
IsMessage (pushed kind payload) = Unit {0}
IsMessage a = ⊥

-- these bytes begin with `>`
abbrev pub BeginsAsMessage : List ℕ → Type 0
BeginsAsMessage [] = ⊥
BeginsAsMessage (b ∷ bytes) = b ≡ 62

-- one more, up to the maximum of 64 bits
abbrev pub one_more : ℕ → ℕ
one_more n = min (n + 1) (2 ^ 64 - 1)

-- a push message was received and counted
pub record PassesOne (old new : Link) : Type 0 where
  pub message : Answer
  pub is_message : IsMessage message
  pub between : Link
  pub receives : Receives old between message
  pub counted : new ≡ record between { passed = one_more between.passed }

-- this number of push messages were, one after the other
abbrev pub Passes : ℕ → Link → Link → Type 0
Passes zero old new = new ≡ old
Passes (suc n) old new = (between : Link) × Passes n old between × PassesOne between new

-- push messages were skipped, and then a reply was received
pub record ReceivesAnswer (old new : Link) (a : Answer) : Type 0 where
  pub count : ℕ
  pub between : Link
  pub passes : Passes count old between
  pub receives : Receives between new a
  pub is_answer : IsMessage a → ⊥

-- push messages were skipped, and no reply was received
pub record AwaitsAnswer (old new : Link) : Type 0 where
  pub count : ℕ
  pub between : Link
  pub passes : Passes count old between
  pub waits : Waits between new

-- push messages were skipped, and a reply is in the first `len` bytes held
pub record AnswerStands (old new : Link) (len : ℕ) (a : Answer) : Type 0 where
  pub count : ℕ
  pub between : Link
  pub passes : Passes count old between
  pub stands : Stands between new len a
  pub is_answer : IsMessage a → ⊥

-- the same for some reply
abbrev pub IsAnswerInPlace : Link → Link → ℕ → Type 0
IsAnswerInPlace old new len = (a : Answer) × AnswerStands old new len a
