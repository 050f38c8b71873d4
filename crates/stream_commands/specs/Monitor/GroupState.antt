-- What a tool shows about a group, by the reply to XINFO STREAM FULL and the time of the server's clock.
use Rattle.std.specs.Prelude.{ℕ, ◌-◌, ◌&&◌, Bool, List, [], ◌∷◌, Option, Some, None, map, filter, fold, max, nat_le}
use Rattle.std.specs.Prelude.{nat_lt, string_bytes}
use Rattle.redis_streams.specs.InfoFull.{FullConsumer, FullGroup, FullPending}
use Rattle.stream_commands.specs.declared.monitor.group_state.GroupState.{GroupState}

-- the number of entries that the group has not read, the number of pending entries, the longest idle time of these,
-- those delivered too often, and the consumers that have pending entries and are dead
pub record State : Type 0 where
  pub lag : Option ℕ
  pub pending : ℕ
  pub oldest_idle : Option ℕ
  pub too_often : List (List ℕ)
  pub dead : List (List ℕ)

-- the longest time since the last delivery of one of the entries
abbrev pub longest_in : ℕ → List FullPending → ℕ
longest_in now pending = fold (λ idle p. max idle (now - p.delivery_time)) 0 pending

-- the same, if an entry is pending
abbrev pub oldest_in : ℕ → List FullPending → Option ℕ
oldest_in now [] = None
oldest_in now (p ∷ ps) = Some (longest_in now (p ∷ ps))

-- the ids of the pending entries that were delivered more than n times
abbrev pub too_often_in : ℕ → List FullPending → List (List ℕ)
too_often_in times pending = map (λ p. p.id) (filter (λ p. nat_lt times p.times_delivered) pending)

-- entries are pending for the consumer, and it has not been seen for this long
abbrev pub is_dead : ℕ → ℕ → FullConsumer → Bool
is_dead now silent c = nat_lt 0 c.pending_count && nat_le silent (now - c.seen_time)

-- the names of the dead consumers
abbrev pub dead_in : ℕ → ℕ → List FullConsumer → List (List ℕ)
dead_in now silent consumers = map (λ c. c.name) (filter (is_dead now silent) consumers)

-- the state of a group at a time, with the limits on the deliveries and on the time of silence
abbrev pub state_of : ℕ → ℕ → ℕ → FullGroup → State
state_of now times silent g = record {
  lag = g.lag;
  pending = g.pending_count;
  oldest_idle = oldest_in now g.pending;
  too_often = too_often_in times g.pending;
  dead = dead_in now silent g.consumers;
}

-- what a record means
abbrev pub state_meaning : GroupState → State
state_meaning s = record {
  lag = s.lag;
  pending = s.pending;
  oldest_idle = s.oldest_idle;
  too_often = map string_bytes s.too_often.items;
  dead = map string_bytes s.dead.items;
}
