-- The lines that a handler has gathered, and those that are committed.
use Rattle.std.specs.Prelude.{◌≡◌, ℕ, List, [], ◌∷◌, ◌++◌, flat_map, Bool, Option, None, if◌then◌else◌}
use Rattle.worker_journal.specs.EntryLine.{Entry}
use Rattle.worker_journal.specs.Holds.{committed_in, with_more}
use Rattle.model_server.specs.Group.Worker.{Verdict, done, left_pending, stop}
use Rattle.stream_drain.specs.Known.{Known, is_known, known_after, known_too, lines_for}
use Rattle.stream_drain.specs.Line.{line_in}
use Rattle.worker.specs.Gathered.{Doings, done_too, committed_too}

-- the state of a handler's lines: whether they are JSON, the known ids, and the bytes
pub record Written : Type 0 where
  pub json : Bool
  pub known : Known
  pub loose : List ℕ  -- gathered and not committed
  pub committed : Option (List ℕ)  -- committed, where the file is known

-- the state of a handler with these known ids, these gathered lines, and the first `len` bytes of its file as
-- committed text
abbrev pub written_by : Bool → Known → List ℕ → Option (List ℕ) → ℕ → Written
written_by json known loose file len = record { json = json; known = known; loose = loose; committed = committed_in file len }

-- the lines of entries, each with its line end
abbrev pub lines_in : Bool → List Entry → List ℕ
lines_in json es = flat_map (λ e. line_in json e ++ 10 ∷ []) es

-- appends the line of the entry `e` to the gathered lines, and adds its id to the known ids
abbrev pub line_too : Written → Entry → Written
line_too w e = record w { known = known_too w.known e.0; loose = w.loose ++ (line_in w.json e ++ 10 ∷ []) }

-- gathers the line of the entry `e`, if the verdict is `done` and the id is not known
abbrev pub written_too : Written → Entry → Verdict → Written
written_too w e done = if is_known w.known e.0 then w else line_too w e
written_too w e left_pending = w
written_too w e stop = w

-- commits the gathered lines
abbrev pub committed_with : Written → Written
committed_with w = record w { loose = []; committed = with_more w.loose w.committed }

-- the start of a handler
pub record Beginning : Type 0 where
  pub json : Bool
  pub known : Known
  pub first : Option (List ℕ)  -- what is committed, where the file is known

-- the lines gathered and committed after the history `d`, from the start `b`
abbrev pub written_of : Beginning → Doings → Written
written_of b d = record {
  json = b.json;
  known = known_after (known_after b.known d.committed) d.loose;
  loose = lines_in b.json (lines_for (known_after b.known d.committed) d.loose);
  committed = with_more (lines_in b.json (lines_for b.known d.committed)) b.first;
}

-- the law: The gathered text consists of the lines of the entries done and not committed, in order. The
-- committed text is the first content, followed by the lines of the committed entries, in order. Each verdict
-- and each commit keeps this true. Without `--look-up` each entry gets a line.
pub record GathersItsLines : Type 0 where
  pub verdict : (b : Beginning) (d : Doings) (e : Entry) (v : Verdict)
      → written_of b (done_too d e v) ≡ written_too (written_of b d) e v
  pub commit : (b : Beginning) (d : Doings) → written_of b (committed_too d) ≡ committed_with (written_of b d)
  pub each : (es : List Entry) → lines_for None es ≡ es
