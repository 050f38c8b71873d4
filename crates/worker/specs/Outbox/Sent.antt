-- Commands that are sent in one write, each with a reply.
use Rattle.std.specs.Prelude.{◌≡◌, ◌⊎◌, ℕ, zero, suc, Bool, true, false, ◌||◌, List, [], map, codes, drop, length, take}
use Rattle.std.specs.Prelude.{Option, Some, None, ◌<◌}
use Rattle.std.specs.List.{flat_map}
use Rattle.redis_connection.specs.Link.{Link, IsEnded, IsFaulty, IsRetried, Sends, SendsFront}
use Rattle.redis_connection.specs.Passing.{AwaitsAnswer, ReceivesAnswer}
use Rattle.redis_wire.specs.Reply.{Answer, AnswerList, value, refused, group, pushed}
use Rattle.redis_wire.specs.declared.kind.GroupKind.{GroupKind}
use Rattle.worker.specs.declared.outbox.error.OutboxError.{OutboxError}
use Rattle.worker.specs.declared.outbox.error.OutboxError.TheVariants as causes
use Rattle.worker.specs.declared.outbox.outbox.Outbox.{Outbox}

-- the bytes of the commands without a reply, in order
abbrev pub unsent_of : Outbox → List (List ℕ)
unsent_of o = map (λ c. c.items) o.commands.items

-- the bytes of the commands in order, as they are sent
abbrev pub all_bytes : List (List ℕ) → List ℕ
all_bytes commands = flat_map (λ c. c) commands

-- whether the server executed the command: its reply is not an error
abbrev pub takes : Answer → Bool
takes (value t) = true
takes (refused text) = false
takes (group kind members) = false
takes (pushed kind payload) = false

-- this number of replies were received in order, and none is an error
abbrev pub Replied : ℕ → Link → Link → Type 0
Replied zero old new = new ≡ old
Replied (suc n) old new = (m : Link) × (a : Answer) × Replied n old m × ReceivesAnswer m new a × (takes a ≡ true)

-- no reply was received, or the next reply is an error
abbrev pub IsNotTaken : Link → Link → Type 0
IsNotTaken old new = AwaitsAnswer old new ⊎ ((a : Answer) × ReceivesAnswer old new a × (takes a ≡ false))

-- `commands` were sent in one write. A reply to each was received, and none is an error. If there is no
-- command, nothing was sent
pub record SendsAll (commands : List (List ℕ)) (old new : Link) : Type 0 where
  pub between : Link
  pub sends : Sends old between (all_bytes commands)
  pub replied : Replied (length commands) between new

-- `commands` were all sent, and the first `count` got replies. The next got none, or its reply is an error.
-- `left` are the commands without a reply
pub record IsRepliedTo (commands left : List (List ℕ)) (old new : Link) : Type 0 where
  pub between : Link
  pub count : ℕ
  pub fewer : count < length commands
  pub sends : Sends old between (all_bytes commands)
  pub last : Link
  pub replied : Replied count between last
  pub not_taken : IsNotTaken last new
  pub left_is : left ≡ drop count commands

-- not all commands got a reply. If only a prefix of their bytes was sent, or nothing, all commands are left. If
-- all bytes were sent, the first commands may have replies
abbrev pub SendsSome : List (List ℕ) → List (List ℕ) → Link → Link → Type 0
SendsSome commands left old new =
    ((left ≡ commands) × ((new ≡ old) ⊎ SendsFront old new (all_bytes commands))) ⊎ IsRepliedTo commands left old new

-- why a command got no reply, by the error. `Connection`: no reply was received. `Refused`: the server returned
-- this error. `NotAnAnswer`: the reply is an aggregate with an error in it
abbrev pub IsNotTakenBy : OutboxError → Link → Link → Type 0
IsNotTakenBy (causes.Connection e) old new = AwaitsAnswer old new × IsEnded new e × IsFaulty new.held e × IsRetried e
IsNotTakenBy (causes.Refused e) old new = ReceivesAnswer old new (refused e.text.items)
IsNotTakenBy causes.NotAnAnswer old new = (k : GroupKind) × (xs : AnswerList) × ReceivesAnswer old new (group k xs)
IsNotTakenBy causes.Memory old new = ⊥

-- all commands were sent, and `e` says why the first command of `left` got no reply
abbrev pub IsRepliedToBy : OutboxError → List (List ℕ) → List (List ℕ) → Link → Link → Type 0
IsRepliedToBy e commands left old new = (r : IsRepliedTo commands left old new) × IsNotTakenBy e r.last new

-- `e` says why the commands `left` got no reply. If memory ran out, nothing was sent
abbrev pub SendsSomeBy : OutboxError → List (List ℕ) → List (List ℕ) → Link → Link → Type 0
SendsSomeBy causes.Memory commands left old new = (left ≡ commands) × (new ≡ old)
SendsSomeBy (causes.Connection e) commands left old new =
    ((left ≡ commands) × SendsFront old new (all_bytes commands))
    ⊎ IsRepliedToBy (causes.Connection e) commands left old new
SendsSomeBy (causes.Refused e) commands left old new = IsRepliedToBy (causes.Refused e) commands left old new
SendsSomeBy causes.NotAnAnswer commands left old new = IsRepliedToBy causes.NotAnAnswer commands left old new
