-- The start of a worker that first acknowledges the entries of the last lines of its file.
use Rattle.std.specs.Prelude.{◌≡◌, ◌≤◌, ◌⊎◌, ◌&&◌, ◌||◌, ◌==◌, ℕ, nat_le, List, [], ◌∷◌, ◌++◌, length, map, Bool, Some, None}
use Rattle.worker_journal.specs.EntryLine.{Entry}
use Rattle.worker_journal.specs.LastLines.{last_of, lines_of}
use Rattle.worker_journal.specs.Lines.{AreLines}
use Rattle.model_server.specs.Group.Group.{listed}
use Rattle.model_server.specs.Group.Worker.{Id, start}
use Rattle.worker.specs.Session.{Standing, standing_of}
use Rattle.worker.specs.declared.state.Asked.TheVariants.{Nothing}
use Rattle.worker.specs.declared.state.GroupState.TheVariants.{Unknown}
use Rattle.worker.specs.declared.state.Settings.{Settings}
use Rattle.worker.specs.declared.worker.Worker.{Worker}
use Rattle.model_workers.specs.System.Rounds.{IsStarted}
use Rattle.stream_drain.specs.Line.{line_in}
use Rattle.stream_drain.specs.Filed.{AreThere, with_bytes}
use Rattle.stream_drain.specs.Lived.{LivesSo}
use Rattle.stream_drain.specs.Known.{Known}
use Rattle.stream_drain.specs.Written.{Written, lines_in}

-- the ids of the entries, in order
abbrev pub ids_in : List Entry → List Id
ids_in es = map (λ e. e.0) es

-- whether the byte is a digit or a hyphen
abbrev pub is_of_id : ℕ → Bool
is_of_id b = (nat_le 48 b && nat_le b 57) || (b == 45)

-- if `line` is the line of an entry, `id` is the id of this entry
abbrev pub Tells : Bool → List ℕ → Id → Type 0
Tells json line id = (e : Entry) → line_in json e ≡ line → e.0 ≡ id

-- the ids are those of the lines, in order
abbrev pub TellEach : Bool → List (List ℕ) → List Id → Type 0
TellEach json [] [] = Unit {0}
TellEach json [] (id ∷ ids) = ⊥
TellEach json (line ∷ lines) [] = ⊥
TellEach json (line ∷ lines) (id ∷ ids) = Tells json line id × TellEach json lines ids

-- `es` are the last `number` entries, or fewer if there is nothing before their lines
abbrev pub AreLast : ℕ → List ℕ → List Entry → Type 0
AreLast number first es = (length es ≡ number) ⊎ ((first ≡ []) × (length es ≤ number))

-- the known ids are exactly those of the lines of the file, if these are lines of entries
abbrev pub KnowsItsFile : Bool → List ℕ → Known → Type 0
KnowsItsFile json bytes None = Unit {0}
KnowsItsFile json bytes (Some known) = (es : List Entry) → lines_of bytes ≡ map (line_in json) es
    → (id : Id) → known id ≡ listed (ids_in es) id

-- a worker that first acknowledges `ids`. Its handler has gathered nothing, and its file has the content
-- `committed`.
abbrev pub resumed_so : Settings → Bool → Known → List Id → List ℕ → Standing Written
resumed_so settings json known ids committed = record {
  machine = record (start settings.every) { to_acknowledge = ids };
  group = Unknown;
  asked = Nothing;
  history = record { json = json; known = known; loose = []; committed = Some committed };
}

-- The start of a worker with its file. Without `--look-up`, the file must consist of complete lines, and the
-- last lines must be those of entries. Then the worker is in a state after these entries were committed. With
-- `--look-up`, the file must consist of lines of entries, and their ids must be known. Then the worker is in a
-- state after the last of these entries were committed.
abbrev pub BeginsSo : ℕ → Settings → Bool → Known → List ℕ → Standing Written → Type 0
BeginsSo number settings json None committed w = (first : List ℕ) (es : List Entry) → AreLines first
    → committed ≡ first ++ lines_in json es → AreLast number first es → LivesSo settings (with_bytes json None first) w []
BeginsSo number settings json (Some known) committed w = (es : List Entry) → committed ≡ lines_in json es
    → KnowsItsFile json committed (Some known) → LivesSo settings (with_bytes json (Some known) committed) w []

-- If the file consists of lines of entries, the worker first acknowledges the ids of the last lines, in order.
-- Its handler has gathered nothing.
abbrev pub BeginsWithLast : ℕ → Settings → Bool → Known → List ℕ → Standing Written → Type 0
BeginsWithLast number settings json known committed w = (es : List Entry) → committed ≡ lines_in json es
    → w ≡ resumed_so settings json known (ids_in (last_of number es)) committed

-- the law: a worker that first acknowledges the entries of the last lines of its file starts as in `LivesSo`
abbrev pub ResumedIsLived : Type 0
ResumedIsLived = (settings : Settings) (json : Bool) (first : List ℕ) (es : List Entry)
    → LivesSo settings (with_bytes json None first) (resumed_so settings json None (ids_in es) (first ++ lines_in json es)) []

-- the law: Let the file consist of lines of entries. Then the start of the worker is a start of
-- `model_workers::system`, with the ids of the last lines.
abbrev pub StartsOverItsFile : Type 0
StartsOverItsFile = (number : ℕ) (settings : Settings) (json : Bool) (known : Known) (es : List Entry) (worker : Worker)
    (history : Written) → BeginsWithLast number settings json known (lines_in json es) (standing_of worker history)
    → IsStarted settings (ids_in (last_of number es)) worker

-- the law: If the file consists of lines of entries, and the known ids are those of the file, each known id has a
-- line there.
abbrev pub KnownAreThere : Type 0
KnownAreThere = (json : Bool) (known : Known) (es : List Entry) → KnowsItsFile json (lines_in json es) known
    → AreThere json known (lines_in json es)
