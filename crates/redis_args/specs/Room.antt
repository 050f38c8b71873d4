-- When a writer of a fixed size has room.
use Rattle.std.specs.Prelude.{◌≡◌, ℕ, ◌+◌, ◌<◌, ◌≤◌, ◌⊎◌, List, length, sum_by}
use Rattle.redis_args.specs.declared.writer.WriteError.{WriteError}
use Rattle.redis_args.specs.declared.writer.WriteError.TheVariants.{Full}

-- `count` arguments are written already, or this one would make more than `size` bytes in all
abbrev pub LacksRoom : ℕ → ℕ → List (List ℕ) → List ℕ → Type 0
LacksRoom count size held arg = (length held ≡ count) ⊎ (size < sum_by length held + length arg)

-- it refuses an argument that it lacks room for, and no other, with `Full`
abbrev pub MayRefuse : ℕ → ℕ → List (List ℕ) → List ℕ → WriteError → Type 0
MayRefuse count size held arg error = (error ≡ Full) × LacksRoom count size held arg

-- there is room for all of `args` after the arguments held
abbrev pub HasRoom : ℕ → ℕ → List (List ℕ) → List (List ℕ) → Type 0
HasRoom count size held args = (length held + length args ≤ count) × (sum_by length held + sum_by length args ≤ size)
