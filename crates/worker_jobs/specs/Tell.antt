-- A line determines its entry.
use Rattle.std.specs.Prelude.{◌≡◌, List, ℕ}
use Rattle.worker.specs.EntryJson.{AreOfBytes}
use Rattle.model_server.specs.Group.Worker.{Entry}
use Rattle.stream_in_place.specs.Sent.{Pairs}
use Rattle.worker_jobs.specs.LineOf.{line_of}
use Rattle.worker_jobs.specs.Lines.{HasNoEnd}

-- the law: two entries with the same line are equal, and their streams are equal, if their names and values are
-- bytes. A line has no line end within it.
pub record LinesTellEntries : Type 0 where
  pub entry : (s t : List ℕ) (a b : Entry Pairs) → AreOfBytes a.1 → AreOfBytes b.1 → line_of s a ≡ line_of t b
      → (s ≡ t) × (a ≡ b)
  pub one_line : (s : List ℕ) (a : Entry Pairs) → HasNoEnd (line_of s a)
