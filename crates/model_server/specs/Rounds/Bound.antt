-- A number of rounds that is enough for a worker to drain the stream.
use Rattle.std.specs.Prelude.{ℕ, zero, suc, ◌+◌, ◌-◌, ◌*◌, ◌/◌, List, [], ◌∷◌, length}
use Rattle.model_server.specs.Group.Worker.{Id, Machine, Phase, own, claiming, reading}
use Rattle.model_server.specs.Group.Group.{Name, listed, pending_ids}
use Rattle.model_server.specs.Group.Group as group
use Rattle.model_server.specs.Group.World.{World}
use Rattle.model_server.specs.Rounds.Page.{how_many}

-- as `usize::div_ceil`: the number of pages of `n` entries that `so_many` entries fill; the last page may be partial
abbrev pub pages : ℕ → ℕ → ℕ
pages n so_many = (so_many + (n - 1)) / n

-- the rounds for the ids that are done: one if there are any. It is two if some are to acknowledge and others to commit
abbrev pub held_for : (to_acknowledge to_commit : List Id) → ℕ
held_for [] [] = 0
held_for [] (id ∷ ids) = 1
held_for (id ∷ ids) [] = 1
held_for (id ∷ ids) (x ∷ xs) = 2

-- the rounds for these pages of own pending entries: two for each, and one whose reply is empty
abbrev pub own_for : ℕ → ℕ
own_for pages = 2 * pages + 1

-- the rounds for these pages of claimed entries: two for each, and one if there is none
abbrev pub claims_for : ℕ → ℕ
claims_for zero = 1
claims_for (suc pages) = 2 * pages + 2

-- the largest number of reads before the next claim: `every`, and at least 1
abbrev pub reads_before : ℕ → ℕ
reads_before every = 1 + (every - 1)

-- the rounds for these pages of new entries: two for each, and one for each claim between them
abbrev pub reads_for : (every pages : ℕ) → ℕ
reads_for every zero = 0
reads_for every (suc pages) = 2 * pages + 2 + pages / reads_before every

-- the rounds from this phase on. `mine`, `all` and `fresh` are numbers of pages: pending for the worker, pending for
-- any consumer, and undelivered. From `claiming` or `reading` it may have to claim from the start once more
abbrev pub from_phase : (every : ℕ) → Phase → (mine all fresh : ℕ) → ℕ
from_phase every (own id) mine all fresh = own_for mine + claims_for all + reads_for every fresh
from_phase every (claiming id) mine all fresh =
    claims_for all + reads_before every + claims_for all + reads_for every fresh
from_phase every (reading rounds) mine all fresh = reads_before every + claims_for all + reads_for every fresh

-- the rounds that are enough for this machine with COUNT `n`. `mine`, `all` and `fresh` are numbers of entries: pending
-- for the worker, pending for any consumer, and undelivered
abbrev pub rounds_for : ℕ → Machine → (mine all fresh : ℕ) → ℕ
rounds_for n m mine all fresh =
    held_for m.to_acknowledge m.to_commit + from_phase m.every m.phase (pages n mine) (pages n all) (pages n fresh)

module _ {F : Type 0} where
  -- the number of entries of the log that are pending for this consumer
  abbrev pub mine_in : Name → World F → ℕ
  mine_in name w = how_many (listed (group.own name w.pending)) w.seen

  -- the number of entries of the log that are pending for any consumer
  abbrev pub pending_in : World F → ℕ
  pending_in w = how_many (listed (pending_ids w.pending)) w.seen

  -- the rounds with COUNT `n` that are enough for the worker `name` to drain the stream of this world
  abbrev pub enough_rounds : ℕ → Name → World F → ℕ
  enough_rounds n name w = rounds_for n (w.workers name) (mine_in name w) (pending_in w) (length w.fresh)

  -- the rounds after which a worker that starts over had all its pending entries redelivered
  abbrev pub again_rounds : ℕ → Name → World F → ℕ
  again_rounds n name w =
      held_for (w.workers name).to_acknowledge (w.workers name).to_commit + 2 * pages n (mine_in name w)
