-- What the program reads, what its server does with that, and what it writes.
use Rattle.std.specs.Prelude.{◌≡◌, ◌≢◌, ◌⊎◌, ℕ, List, [], ◌∷◌, Option, false, take, true}
use Rattle.std.specs.Io.KnownBytes.{Appends, Consumes, IsAtEnd}
use Rattle.redis_wire.specs.declared.written.Protocol.TheVariants.{Resp2}
use Rattle.server_commands.specs.Serving.{Answers}
use Rattle.server_commands.specs.Session.{new_session}
use Rattle.server_commands.specs.declared.client.Client.{Client}
use Rattle.server_commands.specs.declared.server.Server.{Server}

-- the input and the output, the server, and what it knows of its client
pub record Stage (R W : Type 0) : Type 0 where
  pub input : R
  pub output : W
  pub server : Server
  pub client : Client

-- before the first byte: a server without streams, and a client that speaks RESP2
abbrev pub beginning : {R W : Type 0} → R → W → Stage R W
beginning input output = record {
  input = input;
  output = output;
  server = [];
  client = record { unread = []; has_ended = false; session = new_session Resp2 };
}

-- the replies to these bytes, after which the server and the client are these
abbrev pub Gets : {R W : Type 0} → Stage R W → List ℕ → List ℕ → Server → Client → Type 0
Gets old bytes replies server client = Answers old.client client old.server server bytes [] replies

-- a front of the replies to these bytes; nothing, if the server was not done with them
abbrev pub IsFront : {R W : Type 0} → Stage R W → List ℕ → List ℕ → Type 0
IsFront old bytes sent = (sent ≡ []) ⊎ ((n : ℕ) × (replies : List ℕ) × (server : Server) × (client : Client)
    × Gets old bytes replies server client × (sent ≡ take n replies))

-- the connection has ended; or it has not, and the input is at its end
abbrev pub IsOver : {R W : Type 0} → (R → Option (List ℕ)) → Stage R W → R → Type 0
IsOver remaining last input = ((last.client.has_ended ≡ true) × (input ≡ last.input))
    ⊎ ((last.client.has_ended ≡ false) × Consumes (remaining last.input) (remaining input) []
    × IsAtEnd (remaining input))

module _ {R W : Type 0} (remaining : R → Option (List ℕ)) (contents : W → Option (List ℕ)) where
  -- The bytes that were read have, in one piece, just the replies that were written.
  pub record Whole (old new : Stage R W) : Type 0 where
    pub bytes : List ℕ
    pub read : Consumes (remaining old.input) (remaining new.input) bytes
    pub replies : List ℕ
    pub gets : Gets old bytes replies new.server new.client
    pub wrote : Appends (contents old.output) (contents new.output) replies

  -- these bytes were read, and a front of the replies to them was written
  pub record Breaks (old : Stage R W) (input : R) (output : W) : Type 0 where
    pub piece : List ℕ
    pub read : Consumes (remaining old.input) (remaining input) piece
    pub sent : List ℕ
    pub front : IsFront old piece sent
    pub wrote : Appends (contents old.output) (contents output) sent

module _ {R W : Type 0} (remaining : R → Option (List ℕ)) (contents : W → Option (List ℕ)) (is_flushed : W → Type 0) where
  -- a piece was read over a connection that had not ended, and the replies to it were written and flushed
  pub record Replies (old new : Stage R W) (piece : List ℕ) : Type 0 where
    pub is_open : old.client.has_ended ≡ false
    pub some : piece ≢ []
    pub read : Consumes (remaining old.input) (remaining new.input) piece
    pub replies : List ℕ
    pub gets : Gets old piece replies new.server new.client
    pub wrote : Appends (contents old.output) (contents new.output) replies
    pub flushed : is_flushed new.output

  -- so it was with each of these pieces, one after the other
  abbrev pub Serves : List (List ℕ) → Stage R W → Stage R W → Type 0
  Serves [] old new = new ≡ old
  Serves (piece ∷ pieces) old new = (between : Stage R W) × Replies old between piece × Serves pieces between new

  -- Pieces were read, and had their replies. However they are cut, these are the replies to all bytes in one.
  pub record Served (old new : Stage R W) : Type 0 where
    pub pieces : List (List ℕ)
    pub serves : Serves pieces old new
    pub whole : Whole remaining contents old new

  -- all that was read had its replies, up to the end
  pub record Ends (old : Stage R W) (input : R) (output : W) : Type 0 where
    pub last : Stage R W
    pub served : Served old last
    pub over : IsOver remaining last input
    pub output_is : output ≡ last.output

  -- all that was read before the last bytes had its replies, and of those to the last bytes a front was written
  pub record Stops (old : Stage R W) (input : R) (output : W) : Type 0 where
    pub last : Stage R W
    pub served : Served old last
    pub breaks : Breaks remaining contents last input output
