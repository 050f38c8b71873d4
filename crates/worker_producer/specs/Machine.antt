-- A producer as the machine of the laws.
use Rattle.std.specs.Prelude.{◌≡◌, ℕ, zero, suc, ◌+◌, ◌<◌, ◌≤◌, ◌^◌, List, [], ◌∷◌, ◌++◌, take, drop, length}
use Rattle.std.specs.Prelude.{Option, string_bytes}
use Rattle.model_server.specs.Once.Feed as feed
use Rattle.model_server.specs.Once.Feed.{Numbered, numbered, asking, knows, waits}
use Rattle.worker_producer.specs.Records.{Fields, AreAll}
use Rattle.worker_producer.specs.Sentences.{ask_bytes, batch_bytes, head_of}
use Rattle.worker_producer.specs.declared.error.RequestError.{RequestError}
use Rattle.worker_producer.specs.declared.error.RequestError.TheVariants as causes
use Rattle.worker_producer.specs.declared.producer.Producer.{Producer}
use Rattle.worker_producer.specs.declared.settings.Settings.{Settings}
use Rattle.worker_producer.specs.declared.stage.Asked.{Asked}
use Rattle.worker_producer.specs.declared.stage.Asked.TheVariants as asked
use Rattle.worker_producer.specs.declared.stage.Stage.{Stage}
use Rattle.worker_producer.specs.declared.stage.Stage.TheVariants as stages

-- what the producer knows
abbrev pub stage_of : Stage → feed.Stage
stage_of stages.Asking = asking
stage_of (stages.Knows m) = knows m
stage_of (stages.Waits w) = waits w.known w.sent

-- the state of a producer: what it knows, and how many replies are still expected
pub record Standing : Type 0 where
  pub stage : feed.Stage
  pub coming : ℕ

-- the state that knows nothing and expects no reply
abbrev pub idle : Standing
idle = record { stage = asking; coming = 0 }

-- the state of a producer
abbrev pub standing_of : Producer → Standing
standing_of p = record { stage = stage_of p.stage; coming = p.coming }

-- the records that it sends next, if it knows how many are added
abbrev pub next_batch : Settings → List Fields → feed.Stage → List (Numbered Fields)
next_batch s all asking = []
next_batch s all (knows m) = take s.batch (drop m (numbered s.base all))
next_batch s all (waits m n) = []

-- the bytes that it sends
abbrev pub bytes_of : Settings → feed.Stage → List (Numbered Fields) → List ℕ
bytes_of s asking b = ask_bytes (string_bytes s.key)
bytes_of s (knows m) [] = []
bytes_of s (knows m) (r ∷ rs) = batch_bytes (head_of s) (r ∷ rs)
bytes_of s (waits m n) b = []

-- the command that it sends
abbrev pub asks_of : feed.Stage → List (Numbered Fields) → Asked
asks_of asking b = asked.LastId
asks_of (knows m) [] = asked.Nothing
asks_of (knows m) (r ∷ rs) = asked.Records
asks_of (waits m n) b = asked.Nothing

-- the state after it: XINFO STREAM has one reply, and a batch has one for each command
abbrev pub stands_at : feed.Stage → List (Numbered Fields) → Standing
stands_at asking b = record { stage = asking; coming = 1 }
stands_at (knows m) [] = record { stage = knows m; coming = 0 }
stands_at (knows m) (r ∷ rs) = record { stage = waits m (length (r ∷ rs)); coming = length (r ∷ rs) + 2 }
stands_at (waits m n) b = record { stage = waits m n; coming = 0 }

-- the ids of the records that it sends fit 64 bits
abbrev pub Fits : ℕ → feed.Stage → List (Numbered Fields) → Type 0
Fits base asking b = Unit {0}
Fits base (knows m) [] = Unit {0}
Fits base (knows m) (r ∷ rs) = base + m + length (r ∷ rs) < 2 ^ 64
Fits base (waits m n) b = Unit {0}

-- it sent these records, while no reply was expected
pub record Sent (s : Settings) (b : List (Numbered Fields)) (out more : List ℕ) (old : feed.Stage) (new : Standing)
    (a : Asked) : Type 0 where
  pub bytes : more ≡ out ++ bytes_of s old b
  pub asks : a ≡ asks_of old b
  pub stands : new ≡ stands_at old b
  pub fits : Fits s.base old b

-- the request while this number of replies are expected: nothing, if there are any
abbrev pub RequestedAt : ℕ → Settings → List Fields → List ℕ → List ℕ → Standing → Standing → Asked → Type 0
RequestedAt zero s all out more old new a = Sent s (next_batch s all old.stage) out more old.stage new a
RequestedAt (suc k) s all out more old new a = (more ≡ out) × (a ≡ asked.Nothing) × (new ≡ old)

-- the request, of all records
abbrev pub Requested : Settings → List Fields → List ℕ → List ℕ → Standing → Standing → Asked → Type 0
Requested s all out more old new a = RequestedAt old.coming s all out more old new a

-- the same of all records if they are known, and otherwise of some list
abbrev pub Asks : Settings → Option (List Fields) → List ℕ → List ℕ → Standing → Standing → Asked → Type 0
Asks s known out more old new a = (all : List Fields) × AreAll known all × Requested s all out more old new a

-- the same while no reply is expected
abbrev pub Sends : Settings → Option (List Fields) → List ℕ → List ℕ → feed.Stage → Standing → Asked → Type 0
Sends s known out more old new a = (all : List Fields) × AreAll known all × Sent s (next_batch s all old) out more old new a

-- why a batch whose last id has this number is not sent
abbrev pub Unsent : ℕ → RequestError → Type 0
Unsent last causes.NotRead = ⊥
Unsent last causes.NoIdLeft = 2 ^ 64 ≤ last
Unsent last causes.TooLong = Unit {0}
Unsent last causes.Memory = Unit {0}

-- why the request is an error
abbrev pub Unrequested : Settings → List Fields → Standing → RequestError → Type 0
Unrequested s all old causes.NotRead = (m : ℕ) × (old ≡ record { stage = knows m; coming = 0 })
Unrequested s all old causes.NoIdLeft =
    (m : ℕ) × (old ≡ record { stage = knows m; coming = 0 })
    × (2 ^ 64 ≤ s.base + m + length (next_batch s all old.stage))
Unrequested s all old causes.TooLong = old.coming ≡ 0
Unrequested s all old causes.Memory = old.coming ≡ 0

-- the same of all records if they are known, and otherwise of some list
abbrev pub AsksNone : Settings → Option (List Fields) → Standing → RequestError → Type 0
AsksNone s known old e = (all : List Fields) × AreAll known all × Unrequested s all old e
