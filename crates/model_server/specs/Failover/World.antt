-- A server that may fail over, a producer and a consumer that send WAIT, and the events that change them.
use Rattle.std.specs.Prelude.{ℕ, nat_lt, List, [], ◌∷◌, Bool, not, ◌&&◌, Option, Some, None, if◌then◌else◌}
use Rattle.model_server.specs.Group.Worker.{Id}
use Rattle.model_server.specs.Group.World.{item, empty_world}
use Rattle.model_server.specs.Group.World as group
use Rattle.model_server.specs.Once.Producer.{breaks}
use Rattle.model_server.specs.Once.Consumer.{reconnects}
use Rattle.model_server.specs.Once.World.{Setting, Arrive, Break, Ask, Take, Reconnect}
use Rattle.model_server.specs.Once.World as once
use Rattle.model_server.specs.Failover.Lookup.{looks_up}

-- the server, the producer and the consumer, and the states to which the server may return
pub record World (F : Type 0) : Type 0 where
  pub now : once.World F
  pub kept : List (group.World F)  -- each state of the server since the last confirmed WAIT, newest first

-- the start: no entry yet
abbrev pub first_world : {F : Type 0} → World F
first_world = record { now = once.first_world; kept = empty_world ∷ [] }

-- the possible events
pub data Event (F : Type 0) : Type 0 where
  -- an event of `model_server::once`, but the consumer looks up each entry of a reply in its file. No WAIT follows an
  -- `Arrive` or an `Ask` of this kind
  Plain : (event : once.Event F) → Event F
  -- the request of the producer arrives, and then a WAIT for `asked` replicas. `said` of them confirm
  Arrive_waits : (executes : Bool) (asked said : ℕ) → Event F
  -- the consumer requests entries, and in the same write sends a WAIT for `asked` replicas. `said` of them confirm
  Ask_waits : (n : ℕ) (pick : Id → Bool) (next : Id) (asked said : ℕ) → Event F
  -- the master fails, and a replica with the state at index `which` of `kept` becomes the new master
  Failover : (which : ℕ) → Event F

-- the state `w`, with the stream and the group of `earlier`. All others keep their state, and requests on the way to
-- the server may still arrive
abbrev pub goes_back : {F : Type 0} → group.World F → group.World F → group.World F
goes_back w earlier = record w {
  seen = earlier.seen;
  fresh = earlier.fresh;
  last = earlier.last;
  deleted = earlier.deleted;
  pending = earlier.pending;
  acknowledged_ids = earlier.acknowledged_ids;
}

-- the world after the server returns to the state `earlier`, if there is one: all connections break
abbrev pub fails_over : {F : Type 0} → World F → Option (group.World F) → World F
fails_over w None = w
fails_over w (Some earlier) = record w {
  now = record {
    stream = goes_back w.now.stream earlier;
    producer = breaks w.now.producer;
    consumer = reconnects w.now.consumer;
  };
}

-- the world `w` of a server that may return to its present state, or to one of `kept`
abbrev pub remembers : {F : Type 0} → List (group.World F) → once.World F → World F
remembers kept w = record { now = w; kept = w.stream ∷ kept }

-- whether a WAIT for `asked` replicas is confirmed: `asked` is not 0, and at least this number of replicas have all
-- writes before it. The reply is immediate. A failover before the replicas have the writes comes after a WAIT that is
-- not confirmed
abbrev pub is_confirmed : (asked said : ℕ) → Bool
is_confirmed asked said = nat_lt 0 asked && not (nat_lt said asked)

-- the world after the reply to WAIT. If it was confirmed, the server returns to no earlier state. If not, the requester
-- takes it as a broken connection, which is the event `break`
abbrev pub waited : {F : Type 0} → Setting F → (asked said : ℕ) → List (group.World F) → once.Event F → once.World F → World F
waited s asked said kept break w = remembers
    (if is_confirmed asked said then [] else kept)
    (if is_confirmed asked said then w else once.happens s w break)

-- the world of `model_server::once` after an event, with a consumer that looks up ids in its file
abbrev pub plainly : {F : Type 0} → Setting F → once.World F → once.Event F → once.World F
plainly s w (Take verdicts) = record w { consumer = looks_up verdicts w.consumer.answer w.consumer }
plainly s w event = once.happens s w event

-- the world after an event
abbrev pub happens : {F : Type 0} → Setting F → World F → Event F → World F
happens s w (Plain event) = remembers w.kept (plainly s w.now event)
happens s w (Arrive_waits executes asked said) =
    waited s asked said w.kept Break (once.happens s w.now (Arrive executes))
happens s w (Ask_waits n pick next asked said) =
    waited s asked said w.kept Reconnect (once.happens s w.now (Ask n pick next))
happens s w (Failover which) = fails_over w (item w.kept which)

-- the world after these events, in order
abbrev pub run : {F : Type 0} → Setting F → List (Event F) → World F → World F
run s [] w = w
run s (e ∷ es) w = run s es (happens s w e)
