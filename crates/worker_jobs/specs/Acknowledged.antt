-- Each acknowledged entry had the reply `done`, over all rounds of a worker.
use Rattle.std.specs.Prelude.{◌≡◌, ◌⊎◌, ℕ, List, [], ◌∷◌, ◌++◌, flat_map, Bool, Option, Some}
use Rattle.std.specs.List.{AllByRecursion}
use Rattle.redis_connection.specs.Link.{Link}
use Rattle.redis_wire.specs.Reply as wire
use Rattle.model_server.specs.Group.Law.{Among}
use Rattle.model_server.specs.Group.Worker.{Entry, Id, start}
use Rattle.stream_in_place.specs.Sent.{Pairs}
use Rattle.worker_jobs.specs.LineOf.{line_of}
use Rattle.worker_jobs.specs.Lines.{HasNoEnd}
use Rattle.worker_jobs.specs.Talk.{Pipes, Talk, committed, ended, goes_on, over, talk_of, talked, wrong}
use Rattle.worker_jobs.specs.VerdictOf.{verdict_of}
use Rattle.worker_jobs.specs.declared.reply.Reply.TheVariants.{Done}
use Rattle.worker.specs.Answers.{hears}
use Rattle.worker.specs.Life.{deleted_by}
use Rattle.worker.specs.Session.{Standing, Turned, asking}
use Rattle.worker.specs.declared.state.Asked.{Asked}
use Rattle.worker.specs.declared.state.Asked.TheVariants.{Nothing}
use Rattle.worker.specs.declared.state.GroupState.TheVariants.{Unknown}
use Rattle.worker.specs.declared.state.Settings.{Settings}
use Rattle.worker.specs.declared.worker.Progress.{Progress}

-- an entry whose line was sent, and the reply that was received
pub record Exchange : Type 0 where
  pub entry : Entry Pairs
  pub reply : List ℕ

-- the lines that were sent, each with its line end
abbrev pub lines_of : List ℕ → List Exchange → List ℕ
lines_of stream xs = flat_map (λ x. ended (line_of stream x.entry)) xs

-- the replies that were received, each with its line end
abbrev pub replies_of : List Exchange → List ℕ
replies_of xs = flat_map (λ x. ended x.reply) xs

-- the reply to the line of an entry with this id was `done`
abbrev pub WasDone : List Exchange → Id → Type 0
WasDone xs id = (x : Exchange) × Among x xs × (x.entry.0 ≡ id) × (verdict_of x.reply ≡ Some Done)

-- the talk is one that a handler can have: not `wrong`
abbrev pub IsTalk : Talk → Type 0
IsTalk (goes_on p) = Unit {0}
IsTalk over = Unit {0}
IsTalk wrong = ⊥

-- while the talk goes on, the handler has sent `sent` and will receive `coming`
abbrev pub Stands : Talk → List ℕ → List ℕ → List ℕ → Type 0
Stands (goes_on p) stream sent coming = p ≡ record { stream = stream; sent = Some sent; coming = Some coming }
Stands over stream sent coming = Unit {0}
Stands wrong stream sent coming = ⊥

-- the ids that a worker acknowledges next
abbrev pub acknowledges : Settings → Standing Talk → List Id
acknowledges settings w = (asking committed settings w).machine.to_acknowledge

-- the ids that the reply `a` reports as deleted
abbrev pub deleted_told : Settings → Standing Talk → wire.Answer → List Id
deleted_told settings w a = deleted_by (hears settings (asking committed settings w).asked a)

-- a new worker. Its handler has sent `sent` and will receive `coming`.
abbrev pub newborn_over : Settings → (stream sent coming : List ℕ) → Standing Talk
newborn_over settings stream sent coming = record {
  machine = start settings.every;
  group = Unknown;
  asked = Nothing;
  history = goes_on (record { stream = stream; sent = Some sent; coming = Some coming });
}

module _ (settings : Settings) (stream sent coming : List ℕ) where
  -- the worker is in this state after some rounds. The list contains the ids that the server reported as
  -- deleted so far. The worker is new at first, and each round leads to the next state.
  pub data Reaches : Standing Talk → List Id → Type 0 where
    begins : Reaches (newborn_over settings stream sent coming) []
    turns : (w x : Standing Talk) (deleted : List Id) (old new : Link) (q : Asked) (p : Progress) → Reaches w deleted
        → (t : Turned talked committed settings old new w x q p)
        → Reaches x (deleted ++ deleted_told settings w t.turn.answer)

  -- The lines of the exchanged entries were sent in order, and the replies were received in the same order.
  -- Each id that is acknowledged next had the reply `done`, or the server reported that its entry was deleted.
  pub record AreReplied (w : Standing Talk) (deleted : List Id) : Type 0 where
    pub exchanges : List Exchange
    pub rest : List ℕ
    pub came : coming ≡ replies_of exchanges ++ rest
    pub whole : AllByRecursion (λ x. HasNoEnd x.reply) exchanges
    pub stands : Stands w.history stream (sent ++ lines_of stream exchanges) rest
    pub done : (id : Id) → Among id (acknowledges settings w) → WasDone exchanges id ⊎ Among id deleted

-- the law: `AreReplied` holds for every talk that a handler can have, and every handler has such a talk
pub record AcknowledgedWasReplied : Type 0 where
  pub replied : (settings : Settings) (stream sent coming : List ℕ) (w : Standing Talk) (deleted : List Id)
      → Reaches settings stream sent coming w deleted → IsTalk w.history → AreReplied settings stream sent coming w deleted
  pub of_handlers : (is_over : Bool) (stream : List ℕ) (sent coming : Option (List ℕ))
      → IsTalk (talk_of is_over stream sent coming)
