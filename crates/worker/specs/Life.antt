-- The life of a worker, over any number of sessions, and the law of what it acknowledges.
use Rattle.std.specs.Prelude.{◌⊎◌, ℕ, List, [], ◌∷◌, ◌++◌, Option, Some, None}
use Rattle.redis_wire.specs.Reply as wire
use Rattle.redis_connection.specs.Link.{Link}
use Rattle.model_server.specs.Group.Law.{Among}
use Rattle.model_server.specs.Group.Worker.{Id, Delivered, Entry, start, entries_in}
use Rattle.stream_in_place.specs.Sent.{Pairs}
use Rattle.worker.specs.Answers.{Heard, told, no_group, group_made, hears}
use Rattle.worker.specs.declared.state.GroupState.TheVariants.{Unknown}
use Rattle.worker.specs.Gathered.{Doings, done_too, committed_too}
use Rattle.worker.specs.Session.{Standing, Turn, asking, after_turn, Ran, Fails, Broke}
use Rattle.worker.specs.declared.error.RunError.{RunError}
use Rattle.worker.specs.declared.error.RunError.TheVariants as causes
use Rattle.worker.specs.declared.state.Asked.TheVariants.{Nothing}
use Rattle.worker.specs.declared.state.Settings.{Settings}
use Rattle.worker.specs.declared.worker.Progress.{Progress}

-- the id if the entry has nil in place of its fields, since it was deleted from the stream. Otherwise no id
abbrev pub deleted_one : {F : Type 0} → Id → Option F → List Id
deleted_one id None = id ∷ []
deleted_one id (Some fields) = []

-- the ids of the deleted entries in a list
abbrev pub deleted_in : {F : Type 0} → List (Delivered F) → List Id
deleted_in [] = []
deleted_in (e ∷ es) = deleted_one e.0 e.1 ++ deleted_in es

-- the ids of the deleted entries that a worker heard of
abbrev pub deleted_by : Option Heard → List Id
deleted_by None = []
deleted_by (Some (told answer)) = deleted_in (entries_in answer)
deleted_by (Some no_group) = []
deleted_by (Some group_made) = []

-- an entry with the id `id` was done and committed
abbrev pub IsCommitted : Doings → Id → Type 0
IsCommitted d id = (fields : Pairs) × Among (id, fields) d.committed

-- the history of a handler that has committed `es` and has nothing left to commit
abbrev pub done_before : List (Entry Pairs) → Doings
done_before es = record { loose = []; committed = es }

-- the state of a worker that is started with `ids`, which it acknowledges first. The entries `before` were
-- committed before the start
abbrev pub resumed_with : Settings → List Id → List (Entry Pairs) → Standing Doings
resumed_with settings ids before = record {
  machine = record (start settings.every) { to_acknowledge = ids };
  group = Unknown;
  asked = Nothing;
  history = done_before before;
}

-- the state of a new worker, whose handler has done nothing yet
abbrev pub newborn : Settings → Standing Doings
newborn settings = resumed_with settings [] []

module _ (settings : Settings) where
  -- the ids of the deleted entries in the reply `a`
  abbrev pub deleted_told : Standing Doings → wire.Answer → List Id
  deleted_told w a = deleted_by (hears settings (asking committed_too settings w).asked a)

  -- the ids of the deleted entries in the reply of a round that failed, if it had a reply
  abbrev pub deleted_at : (old new : Link) (w x : Standing Doings) (e : RunError)
      → Fails done_too committed_too settings old new w x e → List Id
  deleted_at old new w x (causes.Request e) f = []
  deleted_at old new w x (causes.Send e) f = []
  deleted_at old new w x (causes.Receive named e) f = []
  deleted_at old new w x (causes.Answer e) f = deleted_told w f.1.0

  -- the ids of the deleted entries in the replies of these turns, in order
  abbrev pub deleted_turns : Standing Doings → List Turn → List Id
  deleted_turns w [] = []
  deleted_turns w (t ∷ turns) =
      deleted_told w t.answer ++ deleted_turns (after_turn done_too committed_too settings w t) turns

  -- the states that a worker may reach, each with the ids that servers reported as deleted. The first state is
  -- a new worker, or a worker started with ids that were committed before. In each round the worker takes a
  -- reply, or the round fails. After a failure it may go on over another connection
  pub data Lives : Standing Doings → List Id → Type 0 where
    begins : Lives (newborn settings) []
    resumes : (ids : List Id) (before : List (Entry Pairs))
        → ((id : Id) → Among id ids → IsCommitted (done_before before) id)
        → Lives (resumed_with settings ids before) []
    goes_on : (w : Standing Doings) (deleted : List Id) (t : Turn) → Lives w deleted
        → Lives (after_turn done_too committed_too settings w t) (deleted ++ deleted_told w t.answer)
    fails : (w x : Standing Doings) (deleted : List Id) (old new : Link) (e : RunError)
        (f : Fails done_too committed_too settings old new w x e) → Lives w deleted
        → Lives x (deleted ++ deleted_at old new w x e f)

-- the ids that the next command acknowledges, if it is an XACK
abbrev pub acknowledges : Settings → Standing Doings → List Id
acknowledges settings w = (asking committed_too settings w).machine.to_acknowledge

-- the law: a worker acknowledges an id only if its entry is committed, or was reported as deleted. The commit
-- may be from before the worker was started
abbrev pub OnlyCommittedIsAcknowledged : Type 0
OnlyCommittedIsAcknowledged = (settings : Settings) (w : Standing Doings) (deleted : List Id)
    → Lives settings w deleted → (id : Id) → Among id (acknowledges settings w)
    → IsCommitted (asking committed_too settings w).history id ⊎ Among id deleted

-- the law: after `run` the worker is in one of the states of `Lives`, whether the session ended or broke off.
-- The session reports exactly the deleted entries that its replies report
abbrev pub SessionsAreLived : Type 0
SessionsAreLived = (settings : Settings) (old new : Link) (w x : Standing Doings) (rounds : ℕ) (deleted : List Id)
    → Lives settings w deleted
    → ((p : Progress) (r : Ran done_too committed_too settings old new w x rounds p)
    → Lives settings x (deleted ++ deleted_turns settings w r.2.turns))
    × ((e : RunError) (b : Broke done_too committed_too settings old new w x rounds e)
    → Lives settings x ((deleted ++ deleted_turns settings w b.made.turns)
    ++ deleted_at settings b.link new b.before x e b.fails))
