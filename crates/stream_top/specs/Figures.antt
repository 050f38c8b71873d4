-- The figures of a stream, computed from the reply to `XINFO STREAM FULL` and the server's time.
use Rattle.std.specs.Prelude.{ℕ, ◌-◌, ◌==◌, Bool, List, [], ◌∷◌, Option, None, map, fold, max, string_bytes}
use Rattle.std.specs.Prelude.{option_and_then, option_map, if◌then◌else◌, nat_lt, length}
use Rattle.std.specs.List.{before_first, position_or_len}
use Rattle.redis_resp.specs.Number.{unsigned_of, within}
use Rattle.redis_streams.specs.InfoFull.{FullConsumer, FullGroup, FullPending, FullStream}
use Rattle.stream_top.specs.declared.figures.ConsumerFigures.{ConsumerFigures}
use Rattle.stream_top.specs.declared.figures.GroupFigures.{GroupFigures}
use Rattle.stream_top.specs.declared.figures.StreamFigures.{StreamFigures}

-- a consumer: the number of its pending entries, and the milliseconds since it was last seen
pub record Consumer : Type 0 where
  pub name : List ℕ
  pub pending : ℕ
  pub idle : ℕ

-- a group: its position in the stream, its pending entries, and its consumers
pub record Group : Type 0 where
  pub name : List ℕ
  pub lag : Option ℕ
  pub pending : ℕ
  pub last_id : List ℕ
  pub last_time : Option ℕ
  pub oldest_pending : Option ℕ
  pub deliveries : ℕ
  pub consumers : List Consumer

-- a stream: the number of its entries, its last id, and its groups
pub record Stream : Type 0 where
  pub key : List ℕ
  pub length : ℕ
  pub last_id : List ℕ
  pub last_time : Option ℕ
  pub groups : List Group

-- whether the byte is a hyphen
abbrev pub is_hyphen : ℕ → Bool
is_hyphen c = c == 45

-- the milliseconds of an id, before its first hyphen
abbrev pub time_in : List ℕ → Option ℕ
time_in id = if nat_lt (position_or_len is_hyphen id) (length id)
    then option_and_then (within 64) (unsigned_of (before_first is_hyphen id))
    else None

-- the milliseconds from the time in the id of the first pending entry until `now`
abbrev pub age_in : ℕ → List FullPending → Option ℕ
age_in now [] = None
age_in now (p ∷ ps) = option_map (λ time. now - time) (time_in p.id)

-- the largest delivery count of the entries, or 0 if there are none
abbrev pub most_in : List FullPending → ℕ
most_in pending = fold (λ most p. max most p.times_delivered) 0 pending

-- the figures of the consumer `c` at the time `now`
abbrev pub consumer_figures : ℕ → FullConsumer → Consumer
consumer_figures now c = record { name = c.name; pending = c.pending_count; idle = now - c.seen_time }

-- the figures of the group `g` at the time `now`
abbrev pub group_figures : ℕ → FullGroup → Group
group_figures now g = record {
  name = g.name;
  lag = g.lag;
  pending = g.pending_count;
  last_id = g.last_delivered_id;
  last_time = time_in g.last_delivered_id;
  oldest_pending = age_in now g.pending;
  deliveries = most_in g.pending;
  consumers = map (consumer_figures now) g.consumers;
}

-- the figures of the stream `s` at the time `now`
abbrev pub stream_figures : List ℕ → ℕ → FullStream → Stream
stream_figures key now s = record {
  key = key;
  length = s.length;
  last_id = s.last_generated_id;
  last_time = time_in s.last_generated_id;
  groups = map (group_figures now) s.groups;
}

-- the figures in a `ConsumerFigures`
abbrev pub consumer_meaning : ConsumerFigures → Consumer
consumer_meaning c = record { name = string_bytes c.name; pending = c.pending; idle = c.idle }

-- the figures in a `GroupFigures`
abbrev pub group_meaning : GroupFigures → Group
group_meaning g = record {
  name = string_bytes g.name;
  lag = g.lag;
  pending = g.pending;
  last_id = string_bytes g.last_id;
  last_time = g.last_time;
  oldest_pending = g.oldest_pending;
  deliveries = g.deliveries;
  consumers = map consumer_meaning g.consumers.items;
}

-- the figures in a `StreamFigures`
abbrev pub stream_meaning : StreamFigures → Stream
stream_meaning s = record {
  key = string_bytes s.key;
  length = s.length;
  last_id = string_bytes s.last_id;
  last_time = s.last_time;
  groups = map group_meaning s.groups.items;
}
