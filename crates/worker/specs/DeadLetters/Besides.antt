-- The commands of a search between two rounds of a worker. They only read, or they give entries up.
use Rattle.std.specs.Prelude.{◌≡◌, ◌⊎◌, ℕ, List, [], ◌∷◌, codes, string_bytes}
use Rattle.redis_connection.specs.Ask.{Exchanges}
use Rattle.redis_connection.specs.Link.{Link}
use Rattle.redis_connection.specs.declared.error.AskError.{AskError}
use Rattle.redis_connection.specs.declared.error.AskError.TheVariants as errors
use Rattle.redis_wire.specs.Reply.{Answer}
use Rattle.worker.specs.DeadLetters.Dead.{BreaksOff, Claimer, GivesUp, GivesUpSome}
use Rattle.worker.specs.declared.dead_letters.search.Waiting.{Waiting}
use Rattle.worker.specs.Letters.{Names}

-- the command changes nothing: it is XPENDING, XINFO or WAIT
abbrev pub OnlyLooks : List (List ℕ) → Type 0
OnlyLooks [] = ⊥
OnlyLooks (word ∷ words) = (word ≡ codes "XPENDING") ⊎ ((word ≡ codes "XINFO") ⊎ (word ≡ codes "WAIT"))

-- a command that changes nothing was sent, and a reply was received
pub record Looks (old new : Link) : Type 0 where
  pub words : List (List ℕ)
  pub only : OnlyLooks words
  pub answer : Answer
  pub exchanges : Exchanges old new words answer

-- nothing was sent, or a command that changes nothing was sent in part or whole. A reply to it may have been
-- received
pub record BreaksLooking (old new : Link) : Type 0 where
  pub words : List (List ℕ)
  pub only : OnlyLooks words
  pub breaks : BreaksOff words old new

-- XPENDING returned that the entry `id` is not pending for the consumer; or the entry was given up, and its
-- letter has the reason `reason`
abbrev pub GivesUpNow : Claimer → Names → List ℕ → List ℕ → Link → Link → Type 0
GivesUpNow c names id reason old new = Looks old new ⊎ ((m : Link) × (w : Waiting) × Looks old m
    × (string_bytes w.id ≡ id) × (w.reason.items ≡ reason) × GivesUp c names (w ∷ []) m new)

-- a command that changes nothing failed: the reply is an error or of another kind, or no reply was received
abbrev pub LooksNot : Link → Link → AskError → Type 0
LooksNot old new (errors.Connection e) = BreaksLooking old new
LooksNot old new (errors.Server e) = Looks old new
LooksNot old new (errors.Parsing e) = Looks old new
LooksNot old new errors.NotAnAnswer = Looks old new

-- giving up some entries failed. The first ones may have been given up
pub record BreaksGivingUp (old new : Link) : Type 0 where
  pub claimer : Claimer
  pub names : Names
  pub entries : List Waiting
  pub breaks : GivesUpSome claimer names entries old new

-- the commands of a search were sent: those that change nothing, and those that give entries up
pub data Besides : Link → Link → Type 0 where
  nothing : (l : Link) → Besides l l
  looks : (l m n : Link) → Besides l m → Looks m n → Besides l n
  gives_up : (l m n : Link) (c : Claimer) (names : Names) (entries : List Waiting) → Besides l m
      → GivesUp c names entries m n → Besides l n

-- some commands of a search succeeded, and the next one failed
pub record BreaksBesides (old new : Link) : Type 0 where
  pub between : Link
  pub besides : Besides old between
  pub breaks : BreaksLooking between new ⊎ BreaksGivingUp between new
