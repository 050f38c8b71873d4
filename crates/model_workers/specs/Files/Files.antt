-- A stream with its group, the file of each worker, the dead letters of given-up entries, and the possible
-- events.
use Rattle.std.specs.Prelude.{◌≡◌, ℕ, List, [], ◌∷◌, ◌++◌, ◌==◌, ◌&&◌, ◌||◌, Bool, true, false, not, filter, flat_map}
use Rattle.std.specs.Prelude.{if◌then◌else◌}
use Rattle.worker_journal.specs.EntryLine.{Entry}
use Rattle.worker_journal.specs.Lines.{HasNoEnd}
use Rattle.model_server.specs.Group.Worker.{Id}
use Rattle.model_server.specs.Group.Group.{Name}
use Rattle.model_server.specs.Group.World.{World, Commit, Crash, empty_world, with_one, committed_after, among_ids}
use Rattle.model_server.specs.Group.World as group

-- names and values, in order
abbrev pub Fields : Type 0
Fields = List (List ℕ × List ℕ)

-- how an entry is written as a line. A line has no line feed, and entries with equal lines are equal
pub record Form : Type 0 where
  pub line : Entry → List ℕ
  pub whole : (e : Entry) → HasNoEnd (line e)
  pub tells : (a b : Entry) → line a ≡ line b → a ≡ b

-- the lines of entries, each with its line feed
abbrev pub lines : Form → List Entry → List ℕ
lines form es = flat_map (λ e. form.line e ++ 10 ∷ []) es

-- whether the bytes have a line feed
abbrev pub has_end : List ℕ → Bool
has_end [] = false
has_end (b ∷ bs) = b == 10 || has_end bs

-- the bytes up to the last line feed. These remain after a file is opened and repaired
abbrev pub whole_lines : List ℕ → List ℕ
whole_lines [] = []
whole_lines (b ∷ bs) = if has_end (b ∷ bs) then b ∷ whole_lines bs else []

-- whether the second list starts with the first
abbrev pub begins : List ℕ → List ℕ → Bool
begins [] bytes = true
begins (x ∷ xs) [] = false
begins (x ∷ xs) (b ∷ bs) = x == b && begins xs bs

-- whether the bytes have this line. `at_once` says whether the first byte starts a line
abbrev pub has_line_from : Bool → List ℕ → List ℕ → Bool
has_line_from at_once line [] = false
has_line_from at_once line (b ∷ bs) =
    (at_once && begins (line ++ 10 ∷ []) (b ∷ bs)) || has_line_from (b == 10) line bs

-- whether the bytes have the line of the entry
abbrev pub is_in : Form → List ℕ → Entry → Bool
is_in form bytes e = has_line_from true (form.line e) bytes

pub record Files : Type 0 where
  pub stream : World Fields  -- the stream, its group and its workers
  pub file : Name → List ℕ  -- the bytes of each worker's file that no crash removes
  pub letters : List Entry  -- the entries whose dead letter was added, and the reply to that arrived

-- no entry was added yet, and each worker has opened its file, which had these bytes before
abbrev pub first_files : (Name → List ℕ) → Files
first_files before = record { stream = empty_world; file = λ name. whole_lines (before name); letters = [] }

-- the possible events. A commit that fails is no event: no byte of it is committed
pub data Event : Type 0 where
  -- an event of `model_server::group`
  Goes : (event : group.Event Fields) → Event
  -- a worker commits what its handler did. Entries for which `gives_up` is true were given up: their dead
  -- letters were added, and the replies arrived. For each other entry a line is written and synced
  Commits : (consumer : Name) (gives_up : Entry → Bool) → Event
  -- a worker crashes and is started again. Its file has the committed bytes and the bytes `torn` after them,
  -- and is cut after its last line feed. An entry that the handler did is committed if it is a line of the
  -- file. The worker begins to acknowledge each of `ids` that has a committed line in the file
  Reopens : (consumer : Name) (every : ℕ) (torn : List ℕ) (ids : List Id) → Event

-- the lines that a commit writes
abbrev pub batch : Form → Files → Name → (Entry → Bool) → List ℕ
batch form f consumer gives_up = lines form (filter (λ e. not (gives_up e)) (f.stream.loose consumer))

-- the lines of a worker are committed. Its given-up entries have dead letters
abbrev pub commits : Form → Files → Name → (Entry → Bool) → Files
commits form f consumer gives_up = record {
  stream = group.happens f.stream (Commit consumer);
  file = with_one f.file consumer (f.file consumer ++ batch form f consumer gives_up);
  letters = f.letters ++ filter gives_up (f.stream.loose consumer);
}

-- the file of a worker after a crash that left the bytes `torn` after the committed ones
abbrev pub repaired : Files → Name → List ℕ → List ℕ
repaired f consumer torn = whole_lines (f.file consumer ++ torn)

-- the committed entries that are lines of the repaired file
abbrev pub read_back : Form → Files → Name → List ℕ → List Entry
read_back form f consumer torn =
    let is_there : Entry → Bool = is_in form (repaired f consumer torn) in
    filter is_there (committed_after f.stream consumer is_there)

-- the crash of `model_server::group` for this crash
abbrev pub crash_of : Form → Files → Name → ℕ → List ℕ → List Id → group.Event Fields
crash_of form f consumer every torn ids =
    Crash consumer every (is_in form (repaired f consumer torn)) (among_ids (read_back form f consumer torn) ids)

-- the worker's file keeps its complete lines. The worker begins to acknowledge each of `ids` that has a
-- committed line in that file
abbrev pub reopens : Form → Files → Name → ℕ → List ℕ → List Id → Files
reopens form f consumer every torn ids = record {
  stream = group.happens f.stream (crash_of form f consumer every torn ids);
  file = with_one f.file consumer (repaired f consumer torn);
  letters = f.letters;
}

-- an event of `model_server::group`. A commit gives up no entry, and a crash leaves only the committed bytes
abbrev pub goes : Form → Files → group.Event Fields → Files
goes form f (Commit consumer) = commits form f consumer (λ e. false)
goes form f (Crash consumer every keeps ids) = reopens form f consumer every [] ids
goes form f event = record f { stream = group.happens f.stream event }

-- the files after an event
abbrev pub happens : Form → Files → Event → Files
happens form f (Goes event) = goes form f event
happens form f (Commits consumer gives_up) = commits form f consumer gives_up
happens form f (Reopens consumer every torn ids) = reopens form f consumer every torn ids

-- the files after all these events
abbrev pub run : Form → List Event → Files → Files
run form [] f = f
run form (e ∷ es) f = run form es (happens form f e)
