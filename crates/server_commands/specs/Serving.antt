-- What the bytes of a client do, and the replies to them.
use Rattle.std.specs.Prelude.{◌≡◌, ◌⊎◌, ℕ, Bool, true, false, List, [], ◌∷◌, ◌++◌, Option, Some, None, Ok, Err}
use Rattle.std.specs.List.{flat_map}
use Rattle.redis_wire.specs.declared.written.Protocol.{Protocol}
use Rattle.server_store.specs.Stream.{Seen}
use Rattle.server_commands.specs.declared.answer.Reply.{Reply}
use Rattle.server_commands.specs.declared.incoming.ProtocolError.{ProtocolError}
use Rattle.server_commands.specs.Incoming.{short, bad, command_at, protocol_error_bytes}
use Rattle.server_commands.specs.Sent.{reply_bytes}
use Rattle.server_commands.specs.Session.{SeenSession}
use Rattle.server_commands.specs.Steps.{IsStep, State}

-- the reply to a command, and the protocol that it is written in; or nothing
abbrev pub Turn : Type 0
Turn = Option (Protocol × Reply)

-- A command is done by `Server::step`, and its reply is written in the protocol of the connection; or it has no words,
-- and nothing is done.
abbrev pub IsAnswered : List (List ℕ) → Turn → State → State → Type 0
IsAnswered [] None old new = new ≡ old
IsAnswered [] (Some r) old new = ⊥
IsAnswered (word ∷ words) None old new = ⊥
IsAnswered (word ∷ words) (Some r) old new = IsStep (word ∷ words) r.1 old new × (r.0 ≡ new.session.protocol)

-- the bytes of that
abbrev pub turn_bytes : Turn → List ℕ
turn_bytes None = []
turn_bytes (Some r) = reply_bytes r.0 r.1

-- the commands at the start of bytes are done and get these replies, one after the other, and these bytes are left
abbrev pub AreAnswered : List Turn → List ℕ → List ℕ → State → State → Type 0
AreAnswered [] bytes rest old new = (bytes ≡ rest) × (new ≡ old)
AreAnswered (turn ∷ turns) bytes rest old new = (words : List (List ℕ)) × (behind : List ℕ) × (between : State)
    × (command_at bytes ≡ Ok (words, behind)) × IsAnswered words turn old between
    × AreAnswered turns behind rest between new

-- commands at the start of bytes were executed, which left these bytes, and the replies were appended
pub record Does (bytes rest before after : List ℕ) (old new : State) : Type 0 where
  pub turns : List Turn
  pub answered : AreAnswered turns bytes rest old new
  pub wrote : after ≡ before ++ flat_map turn_bytes turns

-- the commands before it got a reply, and then the protocol error that the bytes have
pub record Refuses (bytes before after : List ℕ) (old new : State) : Type 0 where
  pub rest : List ℕ
  pub between : List ℕ
  pub error : ProtocolError
  pub does : Does bytes rest before between old new
  pub fault : command_at rest ≡ Err (bad error)
  pub wrote : after ≡ between ++ protocol_error_bytes error

-- each complete command was done and got a reply, and none is left; or there was a protocol error
abbrev pub Serves : List ℕ → List ℕ → List ℕ → Option (List ℕ) → State → State → Type 0
Serves bytes before after (Some rest) old new = Does bytes rest before after old new × (command_at rest ≡ Err short)
Serves bytes before after None old new = Refuses bytes before after old new

-- nothing is done; or the command of these words is, and its reply is not appended
abbrev pub MayStep : List (List ℕ) → State → State → Type 0
MayStep words old new = (new ≡ old) ⊎ ((reply : Reply) × IsStep words reply old new)

-- nothing more is done; or the command at the start of the bytes may be
abbrev pub EndsAt : List ℕ → State → State → Type 0
EndsAt bytes old new = (new ≡ old)
    ⊎ ((words : List (List ℕ)) × (behind : List ℕ) × (command_at bytes ≡ Ok (words, behind)) × MayStep words old new)

-- some commands were done and got a reply, and memory was refused for the next one or its reply
abbrev pub GivesUp : List ℕ → List ℕ → List ℕ → State → State → Type 0
GivesUp bytes before after old new = (rest : List ℕ) × (between : State) × Does bytes rest before after old between
    × EndsAt rest between new

-- a client: the bytes of an incomplete command, whether its connection has ended, and its session
pub record Standing : Type 0 where
  pub unread : List ℕ
  pub has_ended : Bool
  pub session : SeenSession

-- the streams of a server, and the session of a client
abbrev pub state_of : List Seen → Standing → State
state_of streams client = record { streams = streams; session = client.session }

-- the bytes that are left, unless the connection has ended
abbrev pub left_of : Bool → List ℕ → Option (List ℕ)
left_of true unread = None
left_of false unread = Some unread

-- what is left of bytes is unread; or the connection has ended, after a protocol error
abbrev pub Leaves : Standing → List ℕ → List ℕ → List ℕ → State → State → Type 0
Leaves client bytes before after old new = Serves bytes before after (left_of client.has_ended client.unread) old new

-- After the bytes that were sent, what is left is unread; or the connection has ended. Nothing is done after the end.
abbrev pub Answers : Standing → Standing → List Seen → List Seen → List ℕ → List ℕ → List ℕ → Type 0
Answers old new was is bytes before after = by old.has_ended
  where
    by : Bool → Type 0
    by true = (new ≡ old) × (is ≡ was) × (after ≡ before)
    by false = Leaves new (old.unread ++ bytes) before after (state_of was old) (state_of is new)
