-- What a reply changes in a producer.
use Rattle.std.specs.Prelude.{◌≡◌, ◌≢◌, ◌⊎◌, ℕ, zero, suc, ◌+◌, ◌<◌, ◌≤◌, Some, false}
use Rattle.redis_wire.specs.Reply as wire
use Rattle.model_server.specs.Group.Group.{Numbers}
use Rattle.model_server.specs.Once.Feed as feed
use Rattle.model_server.specs.Once.Feed.{asking, knows, waits, executed, refused, last_is, learns}
use Rattle.worker_producer.specs.Machine.{Standing, idle}
use Rattle.worker_producer.specs.Replies.{heard, last_of, is_executed}
use Rattle.worker_producer.specs.Unheard.{IsCause, IsNoError, IsUnasked, IsUnexecuted}
use Rattle.worker_producer.specs.declared.error.FeedError.{FeedError}
use Rattle.worker_producer.specs.declared.error.FeedError.TheVariants as causes

-- the last id is that of a record, or at or below the base
abbrev pub IsOwn : ℕ → ℕ → feed.Answer → Type 0
IsOwn base count executed = Unit {0}
IsOwn base count refused = Unit {0}
IsOwn base count (last_is last) = (last.0 ≤ base) ⊎ ((last.1 ≡ 0) × (last.0 ≤ base + count))

-- the last id is not, so another client added it
abbrev pub IsForeign : ℕ → ℕ → Numbers → Type 0
IsForeign base count last = (base < last.0) × ((last.1 ≢ 0) ⊎ (base + count < last.0))

-- the stage after the last reply
pub record Learns (base count : ℕ) (old new : feed.Stage) (a : wire.Answer) : Type 0 where
  pub hears : feed.Answer
  pub is : heard old a ≡ Some hears
  pub own : IsOwn base count hears
  pub knows : new ≡ learns base old hears

-- or why the producer knows nothing after it
abbrev pub Unlearnt : ℕ → ℕ → feed.Stage → wire.Answer → FeedError → Type 0
Unlearnt base count asking a causes.OtherWriter =
    (last : Numbers) × (last_of a ≡ Some last) × IsForeign base count last
Unlearnt base count asking a e = IsUnasked a e
Unlearnt base count (knows m) a e = e ≡ causes.NotAnAnswer
Unlearnt base count (waits m n) a e = (is_executed n a ≡ false) × IsUnexecuted n a e

-- a reply is taken if this number are expected
abbrev pub TookAt : ℕ → ℕ → ℕ → Standing → Standing → wire.Answer → Type 0
TookAt zero base count old new a = ⊥
TookAt (suc zero) base count old new a = Learns base count old.stage new.stage a × (new.coming ≡ 0)
TookAt (suc (suc k)) base count old new a = IsNoError a × (new ≡ record { stage = old.stage; coming = suc k })

-- a reply is taken
abbrev pub Took : ℕ → ℕ → Standing → Standing → wire.Answer → Type 0
Took base count old new a = TookAt old.coming base count old new a

-- a reply is an error if this number are expected, or is refused
abbrev pub UntakenAt : ℕ → ℕ → ℕ → Standing → Standing → wire.Answer → FeedError → Type 0
UntakenAt zero base count old new a e = (e ≡ causes.NotAsked) × (new ≡ old)
UntakenAt (suc zero) base count old new a e = Unlearnt base count old.stage a e × (new ≡ idle)
UntakenAt (suc (suc k)) base count old new a e =
    IsCause a e × (new ≡ record { stage = old.stage; coming = suc k })

-- the same for any reply
abbrev pub Untaken : ℕ → ℕ → Standing → Standing → wire.Answer → FeedError → Type 0
Untaken base count old new a e = UntakenAt old.coming base count old new a e
