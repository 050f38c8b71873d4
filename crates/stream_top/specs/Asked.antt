-- The commands that the program sends to a server.
use Rattle.std.specs.Prelude.{◌≡◌, ◌∷◌, ◌++◌, [], ℕ, zero, suc, List, None, Option, Some, codes, decimal, fold, if◌then◌else◌}
use Rattle.std.specs.Prelude.{map, true}
use Rattle.std.specs.List.{list_any}
use Rattle.std.specs.Str.{bytes_eq}
use Rattle.redis_connection.specs.Link.{Link, Sends}
use Rattle.redis_connection.specs.Passing.{ReceivesAnswer}
use Rattle.redis_wire.specs.Packed.{command_bytes}
use Rattle.redis_resp.specs.Number.{unsigned_reading}
use Rattle.redis_resp.specs.Reading.{two_reading}
use Rattle.redis_resp.specs.Tree.{Tree}
use Rattle.redis_resp.specs.Value.{tree}
use Rattle.redis_resp.specs.declared.value.Value.{Value}
use Rattle.redis_streams.specs.InfoFull.{FullStream, empty_full_stream, full_reading}
use Rattle.redis_wire.specs.Reply.{Answer, value}
use Rattle.stream_top.specs.Figures.{stream_figures, stream_meaning}
use Rattle.stream_top.specs.Measured.{is_no_such_key, milliseconds, name_of}
use Rattle.stream_top.specs.Options.{IsTaskOf, key_bytes, text_of}
use Rattle.stream_top.specs.Shape.{shape}
use Rattle.stream_top.specs.declared.figures.StreamFigures.{StreamFigures}
use Rattle.stream_top.specs.declared.options.Key.{Key}
use Rattle.stream_top.specs.declared.options.Task.{Task}
use Rattle.stream_top.specs.declared.options.Task.TheVariants as tasks
use Rattle.stream_top.specs.declared.options.Word.{Word}

-- `XINFO STREAM key FULL COUNT 100`
abbrev pub info_words : List ℕ → List (List ℕ)
info_words key =
    codes "XINFO" ∷ codes "STREAM" ∷ key ∷ codes "FULL" ∷ codes "COUNT" ∷ decimal 100 ∷ []

-- `XREAD BLOCK 1000 COUNT 1 STREAMS key id`
abbrev pub wait_words : List ℕ → List ℕ → List (List ℕ)
wait_words key id = codes "XREAD" ∷ codes "BLOCK" ∷ decimal 1000 ∷ codes "COUNT" ∷ decimal 1 ∷ codes "STREAMS" ∷ key
    ∷ id ∷ []

-- a reply was received
abbrev pub Hears : Link → Link → Type 0
Hears old new = (a : Answer) × ReceivesAnswer old new a

-- The commands `TIME` and `XINFO STREAM FULL` for the stream `key` were sent. Then the replies to both were
-- received.
pub record Measures (key : List ℕ) (old new : Link) : Type 0 where
  pub first : Link
  pub second : Link
  pub third : Link
  pub time : Sends old first (command_bytes (codes "TIME" ∷ []))
  pub info : Sends first second (command_bytes (info_words key))
  pub time_heard : Hears second third
  pub info_heard : Hears third new

-- the reply to `TIME` was received, and `now` is its time in milliseconds
pub record HearsTime (now : ℕ) (old new : Link) : Type 0 where
  pub sent : Tree
  pub seconds : ℕ
  pub micros : ℕ
  pub heard : ReceivesAnswer old new (value sent)
  pub reads : two_reading (unsigned_reading 64) (unsigned_reading 64) sent ≡ Some (seconds, micros)
  pub is_now : now ≡ milliseconds seconds micros

-- `reply` is this value, or the error for a key that does not exist
abbrev pub IsOfKey : Answer → Option Value → Type 0
IsOfKey reply None = is_no_such_key reply ≡ true
IsOfKey reply (Some v) = reply ≡ value (tree v)

-- a reply as in `IsOfKey` was received
pub record HearsOfKey (found : Option Value) (old new : Link) : Type 0 where
  pub reply : Answer
  pub heard : ReceivesAnswer old new reply
  pub is : IsOfKey reply found

-- `reply` is the error for a key that does not exist, or a value from which this stream is read. The texts of
-- the stream may differ from those of the value.
abbrev pub IsOfStream : Answer → Option FullStream → Type 0
IsOfStream reply None = is_no_such_key reply ≡ true
IsOfStream reply (Some stream) =
    (sent : Tree) × (read : Tree) × (reply ≡ value sent) × (shape read ≡ shape sent) × (full_reading read ≡ Some stream)

-- a reply as in `IsOfStream` was received
pub record HearsStream (found : Option FullStream) (old new : Link) : Type 0 where
  pub reply : Answer
  pub heard : ReceivesAnswer old new reply
  pub is : IsOfStream reply found

-- as `Measures`, where `now` is the server's time and `found` is the stream, if the key exists
pub record MeasuresAt (key : List ℕ) (now : ℕ) (found : Option FullStream) (old new : Link) : Type 0 where
  pub first : Link
  pub second : Link
  pub third : Link
  pub time : Sends old first (command_bytes (codes "TIME" ∷ []))
  pub info : Sends first second (command_bytes (info_words key))
  pub clock : HearsTime now second third
  pub stream : HearsStream found third new

-- the stream that was found, or an empty stream
abbrev pub found_or_empty : Option FullStream → FullStream
found_or_empty None = empty_full_stream
found_or_empty (Some stream) = stream

-- `figures` are those of the stream at `key`, at the time of the server's clock. If the key does not exist,
-- they are those of an empty stream.
pub record AreFigures (key : Key) (figures : StreamFigures) (old new : Link) : Type 0 where
  pub now : ℕ
  pub found : Option FullStream
  pub measures : MeasuresAt (key_bytes key) now found old new
  pub are : stream_meaning figures ≡ stream_figures (name_of key) now (found_or_empty found)

-- each key was measured, in order
abbrev pub MeasuresEach : List (List ℕ) → Link → Link → Type 0
MeasuresEach [] old new = new ≡ old
MeasuresEach (key ∷ keys) old new = (l : Link) × Measures key old l × MeasuresEach keys l new

-- the program waited for an entry after some id
pub record WaitsFor (key : List ℕ) (old new : Link) : Type 0 where
  pub id : List ℕ
  pub between : Link
  pub asked : Sends old between (command_bytes (wait_words key id))
  pub heard : Hears between new

-- the stream was measured `n` times, and the program waited after each time
abbrev pub MeasuresAndWaits : List ℕ → ℕ → Link → Link → Type 0
MeasuresAndWaits key zero old new = new ≡ old
MeasuresAndWaits key (suc n) old new =
    (l : Link) × (m : Link) × MeasuresAndWaits key n old l × Measures key l m × WaitsFor key m new

-- the stream was measured `n` times, and the program waited between two times
abbrev pub MeasuresOften : List ℕ → ℕ → Link → Link → Type 0
MeasuresOften key zero old new = new ≡ old
MeasuresOften key (suc n) old new = (l : Link) × MeasuresAndWaits key n old l × Measures key l new

-- the keys, followed by `key` if none of them has its name
abbrev pub with_key : List Key → Key → List Key
with_key keys key = if list_any (bytes_eq (name_of key)) (map name_of keys) then keys else keys ++ key ∷ []

-- the first key with each name, in order
abbrev pub first_keys : List Key → List Key
first_keys keys = fold with_key [] keys

-- The task ended. For `Tables` the key was measured `rounds` times. For `Text` each key was measured once.
abbrev pub Ends : Task → Link → Link → Type 0
Ends (tasks.Tables key rounds) old new = MeasuresOften (key_bytes key) rounds old new
Ends (tasks.Text keys form) old new = MeasuresEach (map key_bytes (first_keys keys.items)) old new

-- the arguments specify a task
pub record SaysSome (words : List Word) : Type 0 where
  pub task : Task
  pub said : IsTaskOf words (map text_of words) task

-- the arguments specify a task, and the task ended
pub record EndsAsSaid (words : List Word) (old new : Link) : Type 0 where
  pub task : Task
  pub said : IsTaskOf words (map text_of words) task
  pub ends : Ends task old new
