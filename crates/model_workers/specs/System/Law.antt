-- Each entry is in a file or has a dead letter, whatever happens.
use Rattle.std.specs.Prelude.{◌≡◌, ◌⊎◌, ℕ, List, [], ◌∷◌, ◌++◌, Option, Some, None}
use Rattle.worker_journal.specs.EntryLine.{Entry}
use Rattle.worker_journal.specs.Lines.{StartsWith}
use Rattle.model_server.specs.Group.Worker.{Id, taken_over}
use Rattle.model_server.specs.Group.Group.{Name, pending_ids}
use Rattle.model_server.specs.Group.World.{item}
use Rattle.model_server.specs.Group.Law.{Among}
use Rattle.model_workers.specs.Files.Files.{Fields, Form}
use Rattle.model_workers.specs.Files.Law.{IsLineIn}
use Rattle.worker.specs.Answers.{Heard, told, no_group, group_made}
use Rattle.model_workers.specs.System.System.{System, Move, Hears, Posts, first_system, heard}
use Rattle.model_workers.specs.System.System.{moves, run}

-- if the worker heard a reply for its machine, that reply is the one with the number `which`, on its way to
-- this worker
abbrev pub IsReplyTo : System → Name → ℕ → Option Heard → Type 0
IsReplyTo s name which None = Unit {0}
IsReplyTo s name which (Some (told answer)) =
    item s.server.replies which ≡ Some (record { consumer = name; answer = answer })
IsReplyTo s name which (Some no_group) = Unit {0}
IsReplyTo s name which (Some group_made) = Unit {0}

-- the reply `which` is on its way to the worker and has exactly the entry `e`
abbrev pub HasClaimed : System → Name → ℕ → Entry → Type 0
HasClaimed s name which e = (next : Id)
    × (item s.server.replies which ≡ Some (record { consumer = name; answer = taken_over next ((e.0, Some e.1) ∷ []) }))

-- a worker and its queue of dead letters get only replies that are on their way to the worker
abbrev pub HearsTruly : System → Move → Type 0
HearsTruly s (Hears name settings which reply verdicts) =
    IsReplyTo s name which (heard settings (s.workers name) reply)
HearsTruly s (Posts name which e) = HasClaimed s name which e
HearsTruly s move = Unit {0}

-- `HearsTruly` holds for each of these moves, from the system `s` on
abbrev pub AllHearTruly : Form → System → List Move → Type 0
AllHearTruly form s [] = Unit {0}
AllHearTruly form s (m ∷ ms) = HearsTruly s m × AllHearTruly form (moves form s m) ms

-- each entry that was ever added
abbrev pub log : System → List Entry
log s = s.server.seen ++ s.server.fresh

-- some worker's file has the line of the entry, whatever a crash leaves of the file
abbrev pub IsInAFile : Form → System → Entry → Type 0
IsInAFile form s e =
    (name : Name) × ((bytes : List ℕ) → StartsWith (s.file name) bytes → IsLineIn (form.line e) bytes)

-- the dead letter of the entry was added, and the reply to its XADD arrived
abbrev pub HasLetter : System → Entry → Type 0
HasLetter s e = Among e s.letters

-- the entry is undelivered, pending, in a file, or deleted, or it has a dead letter
abbrev pub IsKept : Form → System → Entry → Type 0
IsKept form s e = Among e s.server.fresh
    ⊎ (Among e.0 (pending_ids s.server.pending) ⊎ (IsInAFile form s e ⊎ (HasLetter s e ⊎ Among e.0 s.server.deleted)))

-- the system after these moves
abbrev pub after : Form → (Name → List ℕ) → List Move → System
after form before ms = run form ms (first_system before)

-- the law: each entry that was ever added is kept, whatever happened before and happens after
abbrev pub EachEntryIsKept : Type 0
EachEntryIsKept = (form : Form) (before : Name → List ℕ) (ms more : List Move)
    → AllHearTruly form (first_system before) ms → AllHearTruly form (after form before ms) more → (e : Entry)
    → Among e (log (after form before ms)) → IsKept form (run form more (after form before ms)) e

-- an entry with this id is in a file or has a dead letter, or it was deleted
abbrev pub IsSettled : Form → System → Id → Type 0
IsSettled form s id =
    ((fields : Fields) × (IsInAFile form s (id, fields) ⊎ HasLetter s (id, fields))) ⊎ Among id s.server.deleted

-- the law: `IsSettled` holds for each acknowledged id
abbrev pub AcknowledgedIsSettled : Type 0
AcknowledgedIsSettled = (form : Form) (before : Name → List ℕ) (ms : List Move)
    → AllHearTruly form (first_system before) ms → (id : Id)
    → Among id (after form before ms).server.acknowledged_ids → IsSettled form (after form before ms) id

-- the law: a dead letter remains
abbrev pub LettersStay : Type 0
LettersStay = (form : Form) (s : System) (ms : List Move) (e : Entry) → HasLetter s e → HasLetter (run form ms s) e

-- the law: each dead letter is that of an entry that was added, with the fields of that entry
abbrev pub LettersAreOfTheLog : Type 0
LettersAreOfTheLog = (form : Form) (before : Name → List ℕ) (ms : List Move)
    → AllHearTruly form (first_system before) ms → (e : Entry) → HasLetter (after form before ms) e
    → Among e (log (after form before ms))
