-- The reply to EXEC if the server adds each record of a batch.
use Rattle.std.specs.Prelude.{◌≡◌, ℕ, zero, suc, ◌+◌, List, [], ◌∷◌, ◌++◌, true}
use Rattle.redis_connection.specs.Link.{Link}
use Rattle.redis_connection.specs.Passing.{AnswerStands}
use Rattle.redis_wire.specs.Packed.{bulk_bytes}
use Rattle.redis_wire.specs.Reply as wire
use Rattle.redis_wire.specs.Written.{count_bytes}
use Rattle.worker_producer.specs.Replies.{is_executed}
use Rattle.worker_producer.specs.Sentences.{own_id}
use Rattle.worker_producer.specs.declared.stage.Stage.{Stage}
use Rattle.worker_producer.specs.declared.stage.Stage.TheVariants as stages

-- the ids of this number of records, which come after a number
abbrev pub own_ids : ℕ → ℕ → List (List ℕ)
own_ids before zero = []
own_ids before (suc n) = own_ids before n ++ own_id (before + suc n) ∷ []

-- these ids as bytes
abbrev pub ids_bytes : ℕ → ℕ → List ℕ
ids_bytes before zero = []
ids_bytes before (suc n) = ids_bytes before n ++ bulk_bytes (own_id (before + suc n))

-- the reply with these ids, as bytes
abbrev pub executed_bytes : ℕ → ℕ → List ℕ
executed_bytes before n = count_bytes 42 n ++ ids_bytes before n

-- the first `len` bytes received are a reply by which this number of records are in the stream
abbrev pub HoldsExecuted : ℕ → Link → ℕ → Type 0
HoldsExecuted n link len = (a : wire.Answer) × (is_executed n a ≡ true) × AnswerStands link link len a

-- a batch of this number of records, after a number, is on its way
abbrev pub IsExpected : ℕ → Stage → ℕ → ℕ → Type 0
IsExpected base (stages.Waits batch) before sent = (before ≡ base + batch.known) × (sent ≡ batch.sent)
IsExpected base _ before sent = ⊥
