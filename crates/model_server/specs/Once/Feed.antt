-- A producer that adds numbered records to a stream, as a state machine: its requests, and its state after the replies.
use Rattle.std.specs.Prelude.{ℕ, ◌+◌, ◌-◌, List, [], ◌∷◌, map, take, drop, length, Option, Some, None}
use Rattle.model_server.specs.Group.Worker.{Entry}
use Rattle.model_server.specs.Group.Group.{Numbers, id_text}

-- a record with the numbers of its id
abbrev pub Numbered : Type 0 → Type 0
Numbered F = Numbers × F

-- the records in order, each with its id: `(base + 1)-0`, `(base + 2)-0` and so on
abbrev pub numbered : {F : Type 0} → ℕ → List F → List (Numbered F)
numbered base [] = []
numbered base (r ∷ rs) = ((base + 1, 0), r) ∷ numbered (base + 1) rs

-- a record as an entry of the stream
abbrev pub as_entry : {F : Type 0} → Numbered F → Entry F
as_entry r = (id_text r.0, r.1)

-- the records as entries of the stream, in order
abbrev pub entries : {F : Type 0} → ℕ → List F → List (Entry F)
entries base records = map as_entry (numbered base records)

-- what the producer knows about the stream
pub data Stage : Type 0 where
  -- nothing: it requests the last id
  asking : Stage
  -- the first `known` records are in the stream
  knows : (known : ℕ) → Stage
  -- the first `known` records are in the stream, and it waits for the reply to a batch of the next `sent` records
  waits : (known sent : ℕ) → Stage

-- a request of the producer
pub data Request (F : Type 0) : Type 0 where
  -- XINFO STREAM, for the last id
  ask_last : Request F
  -- MULTI, an XADD of each record with its id, and EXEC
  batch : (records : List (Numbered F)) → Request F

-- a reply of the server to the producer
pub data Answer : Type 0 where
  -- to a batch: each XADD added its record, or was refused because its id is not above the last one
  executed : Answer
  -- to either request: it was refused, and a batch as a whole
  refused : Answer
  -- to XINFO STREAM: the last id that was added, or `0-0` if there is no stream
  last_is : (last : Numbers) → Answer

-- the next records after the first `known`, at most `count` of them
abbrev pub next_batch : {F : Type 0} → ℕ → ℕ → List (Numbered F) → List (Numbered F)
next_batch count known all = take count (drop known all)

-- the request to add these records; none if there are no records
abbrev pub adding : {F : Type 0} → List (Numbered F) → Option (Request F)
adding [] = None
adding (r ∷ rs) = Some (batch (r ∷ rs))

-- the stage after the request to add these records: it waits, unless there are none
abbrev pub waiting : {F : Type 0} → ℕ → List (Numbered F) → Stage
waiting known [] = knows known
waiting known (r ∷ rs) = waits known (length (r ∷ rs))

-- the next request of the producer: none while it waits for a reply, and none if all records are in the stream
abbrev pub request : {F : Type 0} → ℕ → List (Numbered F) → Stage → Option (Request F)
request count all asking = Some ask_last
request count all (knows known) = adding (next_batch count known all)
request count all (waits known sent) = None

-- the stage after that request is sent
abbrev pub requested : {F : Type 0} → ℕ → List (Numbered F) → Stage → Stage
requested count all asking = asking
requested count all (knows known) = waiting known (next_batch count known all)
requested count all (waits known sent) = waits known sent

-- the stage after a reply. The last id determines how many records are in the stream. A batch that was executed adds
-- its `sent` records to them. After any other reply the producer requests the last id again
abbrev pub learns : ℕ → Stage → Answer → Stage
learns base asking (last_is last) = knows (last.0 - base)
learns base asking executed = asking
learns base asking refused = asking
learns base (waits known sent) executed = knows (known + sent)
learns base (waits known sent) refused = asking
learns base (waits known sent) (last_is last) = asking
learns base (knows known) answer = asking

-- the number of records that the producer knows to be in the stream
abbrev pub known_in : Stage → ℕ
known_in asking = 0
known_in (knows known) = known
known_in (waits known sent) = known
