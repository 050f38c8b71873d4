-- The number of values that reading starts, from left to right, and the limit on it.
use Rattle.std.specs.Prelude.{ℕ, zero, suc, ◌+◌, List, Result, Ok, Err, nat_lt, if◌then◌else◌}
use Rattle.redis_wire.specs.declared.fault.Fault.TheVariants.{TooMany}
use Rattle.redis_wire.specs.declared.limits.Limits.{Limits}
use Rattle.redis_wire.specs.declared.scanning.Open.{Open}
use Rattle.redis_wire.specs.Reading.{Halt, bad, Read, rest_of}
use Rattle.redis_wire.specs.Reply.{Answer}
use Rattle.redis_wire.specs.Level.{value_at}
use Rattle.redis_wire.specs.Item.{item_at, begins_at}
use Rattle.redis_wire.specs.Push.{reply_at}

-- the values started after what was read, and none if reading stopped
abbrev pub begun_behind : Result (List ℕ) Halt → (List ℕ → ℕ) → ℕ
begun_behind (Ok rest) begun = begun rest
begun_behind (Err e) begun = 0

-- the number of values started in a sequence of this length, where each value is read by inner, and
-- the number of values started in it is given by begun
unfoldable pub many_begun : (List ℕ → Read Answer) → (List ℕ → ℕ) → ℕ → List ℕ → ℕ
many_begun inner begun zero bytes = 0
many_begun inner begun (suc n) bytes =
    begun bytes + begun_behind (rest_of (inner bytes)) (many_begun inner begun n)

-- the number of values started among the members of an item
abbrev pub inside_begun : (List ℕ → Read Answer) → (List ℕ → ℕ) → Read ℕ → ℕ
inside_begun inner begun (Ok x) = many_begun inner begun x.0 x.1
inside_begun inner begun (Err e) = 0

-- the number of values started for one value: itself, whatever its bytes are, and its members
unfoldable pub value_begun : Limits → ℕ → List ℕ → ℕ
value_begun limits zero bytes = 1
value_begun limits (suc d) bytes =
    suc (inside_begun (value_at limits d) (value_begun limits d) (item_at limits bytes))

-- the number of values started among the remaining members of an open group
abbrev pub open_begun : Limits → Open → List ℕ → ℕ
open_begun limits o = many_begun (value_at limits o.depth) (value_begun limits o.depth) o.left

-- the number of values started among those that a reply consists of
abbrev pub asked_begun : Limits → Read Open → ℕ
asked_begun limits (Ok x) = open_begun limits x.0 x.1
asked_begun limits (Err e) = 0

-- the number of values started in a reply
unfoldable pub reply_begun : Limits → List ℕ → ℕ
reply_begun limits bytes = asked_begun limits (begins_at limits bytes)

-- a reply with at most `limits.values` values: it is refused where the first value too many starts
unfoldable pub bounded_at : Limits → List ℕ → Read Answer
bounded_at limits bytes =
    if nat_lt limits.values (reply_begun limits bytes) then Err (bad TooMany) else reply_at limits bytes
