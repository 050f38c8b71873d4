-- Each entry is in a file, whatever happens.
use Rattle.std.specs.Prelude.{◌≡◌, ◌⊎◌, ℕ, List, [], ◌∷◌, ◌++◌, Bool, Option, Some}
use Rattle.worker_journal.specs.EntryLine.{Entry, line_of}
use Rattle.worker_journal.specs.Lines.{HasNoEnd, AreLines, StartsWith, IsRepaired}
use Rattle.model_server.specs.Group.Worker.{Id, begins_with}
use Rattle.model_server.specs.Group.Group.{Name, ids_of}
use Rattle.model_server.specs.Group.World.{log_of}
use Rattle.model_server.specs.Group.Law.{Among, IsPending}
use Rattle.model_workers.specs.Files.Files.{Form, Fields, Files, Event, Goes, Commits, Reopens, first_files, lines, batch}
use Rattle.model_workers.specs.Files.Files.{whole_lines, happens, run}

-- the world after `events`, if the files had the bytes `before` at first
abbrev pub after : Form → (Name → List ℕ) → List Event → Files
after form before events = run form events (first_files before)

-- each entry that was ever added to the stream
abbrev pub log : Files → List Entry
log f = log_of f.stream

-- `line` is a line of `bytes`, with its line feed
abbrev pub IsLineIn : List ℕ → List ℕ → Type 0
IsLineIn line bytes =
    (front : List ℕ) × (rest : List ℕ) × AreLines front × HasNoEnd line × (bytes ≡ front ++ (line ++ 10 ∷ rest))

-- a crash may leave `bytes` of the file of this worker: the committed bytes, and any bytes after them
abbrev pub MayLeave : Files → Name → List ℕ → Type 0
MayLeave f name bytes = StartsWith (f.file name) bytes

-- some worker's file has the line of the entry, whatever a crash leaves of the file
abbrev pub IsInAFile : Form → Files → Entry → Type 0
IsInAFile form f e = (name : Name) × ((bytes : List ℕ) → MayLeave f name bytes → IsLineIn (form.line e) bytes)

-- the dead letter of the entry was added, and the reply to its XADD arrived
abbrev pub HasLetter : Files → Entry → Type 0
HasLetter f e = Among e f.letters

-- the entry with this id was deleted from the stream
abbrev pub IsDeleted : Files → Id → Type 0
IsDeleted f id = Among id f.stream.deleted

-- the entry is undelivered, pending, in a file, or deleted, or it has a dead letter
abbrev pub IsKept : Form → Files → Entry → Type 0
IsKept form f e = Among e f.stream.fresh
    ⊎ (IsPending f.stream e.0 ⊎ (IsInAFile form f e ⊎ (HasLetter f e ⊎ IsDeleted f e.0)))

-- the law: each entry that was ever added is kept, whatever happened before and happens after
abbrev pub EachEntryIsKept : Type 0
EachEntryIsKept = (form : Form) (before : Name → List ℕ) (events more : List Event) (e : Entry)
    → Among e (log (after form before events)) → IsKept form (run form more (after form before events)) e

-- an entry with this id is in a file or has a dead letter, or it was deleted
abbrev pub IsSettled : Form → Files → Id → Type 0
IsSettled form f id =
    ((fields : Fields) × (IsInAFile form f (id, fields) ⊎ HasLetter f (id, fields))) ⊎ IsDeleted f id

-- the law: `IsSettled` holds for each acknowledged id
abbrev pub AcknowledgedIsInAFile : Type 0
AcknowledgedIsInAFile = (form : Form) (before : Name → List ℕ) (events : List Event) (id : Id)
    → Among id (after form before events).stream.acknowledged_ids → IsSettled form (after form before events) id

-- the law: the bytes committed to a file remain in it, and more bytes are only appended
abbrev pub FilesGrow : Type 0
FilesGrow = (form : Form) (before : Name → List ℕ) (events more : List Event) (name : Name)
    → StartsWith ((after form before events).file name) ((run form more (after form before events)).file name)

-- the law: a dead letter remains
abbrev pub LettersStay : Type 0
LettersStay = (form : Form) (before : Name → List ℕ) (events more : List Event) (e : Entry)
    → HasLetter (after form before events) e → HasLetter (run form more (after form before events)) e

-- the law: each dead letter is that of an entry that was added, with the fields of that entry
abbrev pub LettersAreOfTheLog : Type 0
LettersAreOfTheLog = (form : Form) (before : Name → List ℕ) (events : List Event) (e : Entry)
    → HasLetter (after form before events) e → Among e (log (after form before events))

-- the crash leaves the committed bytes, and after them only a prefix of what a commit would write
abbrev pub LeavesFront : Form → Files → Event → Type 0
LeavesFront form f (Goes event) = Unit {0}
LeavesFront form f (Commits consumer gives_up) = Unit {0}
LeavesFront form f (Reopens consumer every torn ids) =
    (gives_up : Entry → Bool) × StartsWith torn (batch form f consumer gives_up)

-- each crash of these events leaves only a prefix, as in `LeavesFront`
abbrev pub AllLeaveFronts : Form → Files → List Event → Type 0
AllLeaveFronts form f [] = Unit {0}
AllLeaveFronts form f (e ∷ es) = LeavesFront form f e × AllLeaveFronts form (happens form f e) es

-- the law: if each crash leaves only a prefix, a file has the complete lines that it had before. After these it
-- has lines of entries that were added, with their own fields
abbrev pub FilesAreOfTheLog : Type 0
FilesAreOfTheLog = (form : Form) (before : Name → List ℕ) (events : List Event)
    → AllLeaveFronts form (first_files before) events → (name : Name)
    → (es : List Entry) × ((e : Entry) → Among e es → Among e (log (after form before events)))
    × ((after form before events).file name ≡ whole_lines (before name) ++ lines form es)

-- the law: if each crash leaves only a prefix, each entry with a line in a new file was added, with its own
-- fields
abbrev pub LinesAreOfTheLog : Type 0
LinesAreOfTheLog = (form : Form) (before : Name → List ℕ) (events : List Event)
    → AllLeaveFronts form (first_files before) events → (name : Name) → before name ≡ []
    → (e : Entry) → IsLineIn (form.line e) ((after form before events).file name)
    → Among e (log (after form before events))

-- the world after these events, and after a crash and a start of this worker
abbrev pub restarted : Form → (Name → List ℕ) → List Event → Name → ℕ → List ℕ → List Id → Files
restarted form before events name every torn ids =
    happens form (after form before events) (Reopens name every torn ids)

-- the law: a worker that is started again begins to acknowledge only ids of `ids`. Each is the id of a line of
-- its file, and of an entry that was added, with its own fields
abbrev pub BeginsWithItsLines : Type 0
BeginsWithItsLines = (form : Form) (before : Name → List ℕ) (events : List Event) (name : Name) (every : ℕ)
    (torn : List ℕ) (ids : List Id) (id : Id)
    → Among id ((restarted form before events name every torn ids).stream.workers name).to_acknowledge
    → Among id ids × ((fields : Fields)
    × IsLineIn (form.line (id, fields)) ((restarted form before events name every torn ids).file name)
    × Among (id, fields) (log (after form before events)))

-- the law: if each crash leaves only a prefix, and the file of the worker was new, the worker acknowledges all
-- ids that it reads back. They must be ids of lines of its file, and are acknowledged in order
abbrev pub BeginsWithAllItReads : Type 0
BeginsWithAllItReads = (form : Form) (before : Name → List ℕ) (events : List Event) (name : Name) (every : ℕ)
    (torn : List ℕ) (es : List Entry)
    → AllLeaveFronts form (first_files before) events
    → LeavesFront form (after form before events) (Reopens name every torn (ids_of es)) → before name ≡ []
    → ((e : Entry) → Among e es
    → IsLineIn (form.line e) ((restarted form before events name every torn (ids_of es)).file name))
    → (restarted form before events name every torn (ids_of es)).stream.workers name ≡ begins_with every (ids_of es)

-- the law: a file that `worker_journal` repairs keeps its complete lines
abbrev pub RepairsToWholeLines : Type 0
RepairsToWholeLines = (bytes : List ℕ) (new : Option (List ℕ)) → IsRepaired (Some bytes) new
    → new ≡ Some (whole_lines bytes)

-- the law: the lines of `worker_journal` are a `Form`
abbrev pub TextIsAForm : Type 0
TextIsAForm = (form : Form) × (form.line ≡ line_of)
