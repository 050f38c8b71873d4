-- A producer, a stream with a group, a consumer with its file, and the events that change them.
use Rattle.std.specs.Prelude.{ℕ, List, [], ◌∷◌, Bool, Some, if◌then◌else◌}
use Rattle.std.specs.Option.{is_none}
use Rattle.model_server.specs.Group.Worker.{Id, Verdict, acknowledged}
use Rattle.model_server.specs.Group.Group.{Name}
use Rattle.model_server.specs.Group.World.{empty_world, item, but, ack_comes}
use Rattle.model_server.specs.Group.World as group
use Rattle.model_server.specs.Once.Feed.{numbered}
use Rattle.model_server.specs.Once.Producer.{Producer, new_producer, sends, arrived, filled_by, hears, breaks}
use Rattle.model_server.specs.Once.Consumer.{Consumer, new_consumer, is_idle, after_asking, answer_for, takes, commits, restarts}
use Rattle.model_server.specs.Once.Consumer.{reconnects}

-- the parameters of a schedule: no event changes them
pub record Setting (F : Type 0) : Type 0 where
  pub records : List F  -- the records that the producer adds
  pub base : ℕ  -- the first record has the id `(base + 1)-0`
  pub name : Name  -- the consumer's name

-- the server, the producer and the consumer
pub record World (F : Type 0) : Type 0 where
  pub stream : group.World F  -- the stream and its group
  pub producer : Producer F
  pub consumer : Consumer F

-- the start: no entry yet
abbrev pub first_world : {F : Type 0} → World F
first_world = record { stream = empty_world; producer = new_producer; consumer = new_consumer }

-- the possible events. A message that is lost never arrives
pub data Event (F : Type 0) : Type 0 where
  -- the producer sends its next request, in one write: a batch of at most `count` records, or a request for the last id
  Send : (count : ℕ) → Event F
  -- the producer's request arrives at the server, which executes it, or refuses it as a whole
  Arrive : (executes : Bool) → Event F
  -- the request at index `which` of `late` arrives: it was sent on a connection that broke
  Arrive_late : (which : ℕ) (executes : Bool) → Event F
  -- the reply arrives at the producer
  Hear : Event F
  -- the producer's connection breaks, or the producer crashes and is started again
  Break : Event F
  -- the consumer requests entries, with COUNT `n`. `pick` is the server's choice of pending entries, and `next` the
  -- start of the next claim
  Ask : (n : ℕ) (pick : Id → Bool) (next : Id) → Event F
  -- the reply arrives at the consumer, whose handler returns these verdicts for the entries
  Take : (verdicts : List Verdict) → Event F
  -- the consumer commits: one write and one sync of its lines
  Sync : Event F
  -- the consumer sends an XACK, which arrives at the server, and its reply is on the way
  Acknowledge_now : Event F
  -- the consumer sends an XACK that may arrive at the server at any time, or never. Its reply does not arrive
  Acknowledge_later : Event F
  -- the consumer's connection breaks
  Reconnect : Event F
  -- the consumer crashes and is started again, to claim after `every` reads. `kept` lines that were not synced are in
  -- the file. It reads back the lines of the last commit, and `more` lines before them
  Restart : (every kept more : ℕ) → Event F
  -- another event of the server: XADD or XDEL by others, late XACKs, other consumers, or requests on connections that
  -- broke
  Else : (event : group.Event F) → Event F

-- the world after the consumer requests entries: the reply is on the way
abbrev pub asked : {F : Type 0} → Name → ℕ → (Id → Bool) → Id → World F → World F
asked name n pick next w = record w {
  stream = after_asking name n pick next w.consumer.machine.phase w.stream;
  consumer = record w.consumer { answer = Some (answer_for name n pick next w.consumer.machine.phase w.stream) };
}

-- the world after the consumer's XACK arrives at the server: the reply is on the way
abbrev pub acknowledges : {F : Type 0} → Name → World F → World F
acknowledges name w = record w {
  stream = ack_comes w.stream (Some (name, w.consumer.machine.to_acknowledge));
  consumer = record w.consumer { answer = Some acknowledged };
}

-- the world after an event
abbrev pub happens : {F : Type 0} → Setting F → World F → Event F → World F
happens s w (Send count) = record w { producer = sends count (numbered s.base s.records) w.producer }
happens s w (Arrive executes) = record w {
  stream = filled_by executes w.stream w.producer.sent;
  producer = arrived executes w.stream w.producer.sent w.producer;
}
happens s w (Arrive_late which executes) = record w {
  stream = filled_by executes w.stream (item w.producer.late which);
  producer = record w.producer { late = but w.producer.late which };
}
happens s w Hear = record w { producer = hears s.base w.producer.answer w.producer }
happens s w Break = record w { producer = breaks w.producer }
happens s w (Ask n pick next) = if is_idle w.consumer then asked s.name n pick next w else w
happens s w (Take verdicts) = record w { consumer = takes verdicts w.consumer.answer w.consumer }
happens s w Sync = record w { consumer = commits w.consumer }
happens s w Acknowledge_now = if is_none w.consumer.answer then acknowledges s.name w else w
happens s w Acknowledge_later = record w {
  stream = record w.stream { acks = (s.name, w.consumer.machine.to_acknowledge) ∷ w.stream.acks };
}
happens s w Reconnect = record w { consumer = reconnects w.consumer }
happens s w (Restart every kept more) = record w { consumer = restarts every kept more w.consumer }
happens s w (Else event) = record w { stream = group.happens w.stream event }

-- the world after these events, in order
abbrev pub run : {F : Type 0} → Setting F → List (Event F) → World F → World F
run s [] w = w
run s (e ∷ es) w = run s es (happens s w e)
