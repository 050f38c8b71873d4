-- Pauses that grow.
use Rattle.std.specs.Prelude.{◌≡◌, ℕ, ◌+◌, ◌-◌, ◌*◌, ◌/◌, ◌%◌, ◌^◌, min}
use Rattle.redis_client.specs.declared.backoff.Backoff.{Backoff}

-- the first one, doubled for each pause that was made, and never more than the most
abbrev pub limit_of : Backoff → ℕ
limit_of b = min (b.first * 2 ^ b.pauses) b.most

-- the numbers from half of the limit to all of it, chosen by a random number
abbrev pub pause_of : ℕ → ℕ → ℕ
pause_of limit random = limit - random % (limit / 2 + 1)

-- one more pause was made, counted in 32 bits
abbrev pub IsAfterPause : Backoff → Backoff → Type 0
IsAfterPause old new = new ≡ record old { pauses = min (old.pauses + 1) (2 ^ 32 - 1) }
