-- The effects of the calls of `worker_journal` on a worker's file, in the terms of the model.
use Rattle.std.specs.Prelude.{◌≡◌, ℕ, List, ◌++◌, Bool, Option, Some}
use Rattle.worker_journal.specs.Device.{LeavesOnly}
use Rattle.worker_journal.specs.Holds.{Holds}
use Rattle.worker_journal.specs.EntryLine.{Entry}
use Rattle.model_server.specs.Group.Worker.{Id}
use Rattle.model_server.specs.Group.Group.{Name}
use Rattle.model_workers.specs.Files.Files.{Form, Files, batch, commits, reopens}
use Rattle.model_workers.specs.Files.Law.{MayLeave}

module _ {D : Type 0} (seen : D → Option (List ℕ)) (may_leave : D → List ℕ → Type 0) (is_sound : D → Type 0) where
  -- a log on `file` has the file of the worker `name`. `len` is the number of committed bytes, and `is_broken`
  -- says whether a commit failed
  abbrev pub HoldsFile : D → ℕ → Bool → Files → Name → Type 0
  HoldsFile file len is_broken f name = Holds seen may_leave is_sound (f.file name) file len is_broken

  -- the model allows everything that a crash may leave of a log with the file of a worker
  abbrev pub HeldLeavesSo : Type 0
  HeldLeavesSo = (file : D) (len : ℕ) (is_broken : Bool) (f : Files) (name : Name)
      → HoldsFile file len is_broken f name → (bytes : List ℕ) → may_leave file bytes → MayLeave f name bytes

  -- a log that is opened on what a crash left has the file of the worker after `Reopens`
  abbrev pub OpensSo : D → D → ℕ → Bool → Type 0
  OpensSo old new len is_broken = (form : Form) (f : Files) (name : Name) (every : ℕ) (torn : List ℕ) (ids : List Id)
      → seen old ≡ Some (f.file name ++ torn) → HoldsFile new len is_broken (reopens form f name every torn ids) name

  -- if the log had the file of the worker and commits `gathered`, it has the file of the worker after `Commits`
  abbrev pub CommitsSo : List ℕ → D → ℕ → Bool → D → ℕ → Bool → Type 0
  CommitsSo gathered old old_len was_broken new len is_broken =
      (form : Form) (f : Files) (name : Name) (gives_up : Entry → Bool) → gathered ≡ batch form f name gives_up
      → HoldsFile old old_len was_broken f name → HoldsFile new len is_broken (commits form f name gives_up) name

  -- if the log had the file of a worker, it still has that file
  abbrev pub KeepsSo : D → ℕ → Bool → D → ℕ → Bool → Type 0
  KeepsSo old old_len was_broken new len is_broken = (f : Files) (name : Name)
      → HoldsFile old old_len was_broken f name → HoldsFile new len is_broken f name

  -- if the log had the file of a worker, a crash at any moment of the call leaves what the model allows
  abbrev pub LeavesSo : (D → ℕ) → (D → ℕ → List ℕ → Type 0) → D → ℕ → Bool → D → Type 0
  LeavesSo moment left_since old old_len was_broken new = (f : Files) (name : Name)
      → HoldsFile old old_len was_broken f name → LeavesOnly moment left_since old new (MayLeave f name)
