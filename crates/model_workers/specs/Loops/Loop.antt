-- The rounds of a worker over one connection, one after the other.
use Rattle.std.specs.Prelude.{◌≡◌, ◌⊎◌, List, [], ◌++◌}
use Rattle.redis_connection.specs.Link.{Link}
use Rattle.redis_connection.specs.Passing.{ReceivesAnswer}
use Rattle.redis_wire.specs.Reply as wire
use Rattle.model_server.specs.Group.Worker.{Id}
use Rattle.worker.specs.Gathered.{Doings, done_too, committed_too}
use Rattle.worker.specs.Life.{deleted_told, deleted_at}
use Rattle.worker.specs.Pipelined.{LeavesNext, next_command}
use Rattle.worker.specs.Session.{Standing, Turned, Fails, asking}
use Rattle.worker.specs.declared.error.RunError.{RunError}
use Rattle.worker.specs.declared.state.Asked.{Asked}
use Rattle.worker.specs.declared.state.Settings.{Settings}
use Rattle.worker.specs.declared.worker.Progress.TheVariants.{GoesOn, Stopped}
use Rattle.worker.specs.DeadLetters.Besides.{Besides, BreaksBesides, BreaksLooking, Looks}

-- a reply was skipped, or had arrived before. Then a command that changes nothing was sent, or failed
pub record Looked (old new : Link) : Type 0 where
  pub link : Link
  pub passed : (link ≡ old) ⊎ ((a : wire.Answer) × ReceivesAnswer old link a)
  pub looked : Looks link new ⊎ BreaksLooking link new

module _ (settings : Settings) where
  -- rounds after each of which the worker continues, and other commands between them. The list has the ids of
  -- the entries that the replies of these rounds reported as deleted
  pub data Loops : Link → Standing Doings → Link → Standing Doings → List Id → Type 0 where
    ends : (l : Link) (v : Standing Doings) → Loops l v l v []
    besides : (l m n : Link) (v y : Standing Doings) (told : List Id) → Besides l m → Loops m v n y told
        → Loops l v n y told
    turns : (l m n : Link) (v u y : Standing Doings) (asked : Asked) (told : List Id)
        (t : Turned done_too committed_too settings l m v u asked GoesOn) → Loops m u n y told
        → Loops l v n y (deleted_told settings v t.turn.answer ++ told)

  -- what was sent after a round that failed: nothing, the request that was sent with its acknowledgement, or a
  -- command that changes nothing
  abbrev pub IsLeft : Link → Link → Standing Doings → Type 0
  IsLeft old new v = (new ≡ old)
      ⊎ (((e f : RunError) × LeavesNext old new (next_command settings (asking committed_too settings v)) e f)
      ⊎ Looked old new)

  -- rounds as in `Loops`, and then an end. Another command broke off, the handler returned `stop`, or a round
  -- failed
  pub data Stops : Link → Standing Doings → Link → Standing Doings → List Id → Type 0 where
    breaks : (l m n : Link) (v y : Standing Doings) (told : List Id) → Loops l v m y told → BreaksBesides m n
        → Stops l v n y told
    stops : (l m n k : Link) (v u y : Standing Doings) (asked : Asked) (told : List Id) → Loops l v m u told
        → (t : Turned done_too committed_too settings m n u y asked Stopped) → Besides n k
        → Stops l v k y (told ++ deleted_told settings u t.turn.answer)
    fails : (l m k n : Link) (v u y : Standing Doings) (e : RunError) (told : List Id) → Loops l v m u told
        → (f : Fails done_too committed_too settings m k u y e) → IsLeft k n u
        → Stops l v n y (told ++ deleted_at settings m k u y e f)

  -- rounds as in `Loops`, or as in `Stops`
  abbrev pub Drains : Link → Standing Doings → Link → Standing Doings → List Id → Type 0
  Drains old v new y told = Loops old v new y told ⊎ Stops old v new y told
