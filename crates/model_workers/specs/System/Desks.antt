-- The operations of a queue of dead letters in the code, as moves.
use Rattle.std.specs.Prelude.{◌≡◌, ◌≢◌, ◌⊎◌, ℕ, List, [], ◌∷◌, ◌++◌, codes}
use Rattle.redis_wire.specs.Packed.{command_bytes}
use Rattle.worker_journal.specs.EntryLine.{Entry}
use Rattle.model_server.specs.Group.Worker.{Id}
use Rattle.model_server.specs.Group.Group.{Name}
use Rattle.model_workers.specs.Files.Files.{Form}
use Rattle.worker.specs.Letters.{Names, after_letter, letter_asks, letter_bytes, letter_for}
use Rattle.worker.specs.Letters as letters
use Rattle.worker.specs.declared.letters.LetterAsked.{LetterAsked}
use Rattle.worker.specs.declared.letters.LetterAsked.TheVariants as asked
use Rattle.worker.specs.declared.state.Settings.{Settings}
use Rattle.model_workers.specs.System.System.{System, Desk, Move, Posts, Adds_letter}
use Rattle.model_workers.specs.System.System.{Sends_ack, Settles, Restarts, new_desk, lettered_now, acknowledges_now}
use Rattle.model_workers.specs.System.System.{moves, run}

-- the queued letter `l` has the id of the entry `e`, and the bytes of its XADD, for some delivery count and
-- reason
abbrev pub IsLetter : List ℕ → Id × List ℕ → Entry → Type 0
IsLetter dead l e = (l.0 ≡ e.0)
    × ((deliveries : ℕ) × (reason : List ℕ) × (l.1 ≡ letter_for dead e deliveries reason))

-- the queued letters are those of these entries, in order
abbrev pub AreLetters : List ℕ → List (Id × List ℕ) → List Entry → Type 0
AreLetters dead [] [] = Unit {0}
AreLetters dead [] (e ∷ es) = ⊥
AreLetters dead (l ∷ ls) [] = ⊥
AreLetters dead (l ∷ ls) (e ∷ es) = IsLetter dead l e × AreLetters dead ls es

-- the queue `d` of the contracts is the queue `t` of the system
pub record IsDesk (dead : List ℕ) (d : letters.Desk) (t : Desk) : Type 0 where
  pub waiting : AreLetters dead d.waiting t.waiting
  pub added : d.added ≡ t.added

-- the next command of the queue, by its kind. An empty queue sends none. Otherwise the command is XADD of the
-- next dead letter, or XACK of the id that the system acknowledges
abbrev pub AsksFor : Names → letters.Desk → Desk → LetterAsked → Type 0
AsksFor names d t asked.Nothing = (t.waiting ≡ []) × (letter_bytes names d ≡ [])
AsksFor names d t asked.Add = (e : Entry) × (deliveries : ℕ) × (reason : List ℕ) × (lettered_now t ≡ e ∷ [])
    × (letter_bytes names d ≡ letter_for names.2 e deliveries reason)
AsksFor names d t asked.Acknowledge = (id : Id) × (acknowledges_now t ≡ id ∷ [])
    × (letter_bytes names d ≡ command_bytes (codes "XACK" ∷ names.0 ∷ names.1 ∷ acknowledges_now t))

-- the law: the next command of a queue is the one of the system
abbrev pub AsksAsItDoes : Type 0
AsksAsItDoes = (names : Names) (d : letters.Desk) (t : Desk) → IsDesk names.2 d t → AsksFor names d t (letter_asks d)

-- the moves of a queue that sent this command and got a valid reply
abbrev pub moves_after : Name → ℕ → LetterAsked → List Move
moves_after name which asked.Nothing = []
moves_after name which asked.Add = Adds_letter name ∷ []
moves_after name which asked.Acknowledge = Sends_ack name ∷ Settles name which ∷ []

-- the law: `moves_after` leads to the queue after a valid reply
abbrev pub LettersAreMoves : Type 0
LettersAreMoves = (form : Form) (s : System) (name : Name) (which : ℕ) (dead : List ℕ) (d : letters.Desk)
    → IsDesk dead d (s.desks name)
    → IsDesk dead (after_letter (letter_asks d) d) ((run form (moves_after name which (letter_asks d)) s).desks name)

-- the law: the move `Posts` appends the entry to the queue, as the code appends its letter
abbrev pub PostsAreMoves : Type 0
PostsAreMoves = (form : Form) (s : System) (name : Name) (which : ℕ) (dead : List ℕ) (d : letters.Desk) (e : Entry)
    (deliveries : ℕ) (reason : List ℕ) → IsDesk dead d (s.desks name)
    → IsDesk dead (record d { waiting = d.waiting ++ (e.0, letter_for dead e deliveries reason) ∷ [] })
    ((moves form s (Posts name which e)).desks name)

-- the law: a worker that is started has an empty queue
abbrev pub StartsWithANewDesk : Type 0
StartsWithANewDesk = (form : Form) (s : System) (name : Name) (settings : Settings) (torn : List ℕ) (ids : List Id)
    (before : List Entry) → (moves form s (Restarts name settings torn ids before)).desks name ≡ new_desk

-- the move is one of the queue of this worker
abbrev pub IsOfDesk : Name → Move → Type 0
IsOfDesk name (Posts other which e) = other ≡ name
IsOfDesk name (Adds_letter other) = other ≡ name
IsOfDesk name (Sends_ack other) = other ≡ name
IsOfDesk name (Settles other which) = other ≡ name
IsOfDesk name move = ⊥

-- each move is one of the queue of this worker
abbrev pub AreOfDesk : Name → List Move → Type 0
AreOfDesk name [] = Unit {0}
AreOfDesk name (m ∷ ms) = IsOfDesk name m × AreOfDesk name ms

-- the move is of the server, of a worker, or of another queue. It is not a start of this worker
abbrev pub IsElsewhere : Name → Move → Type 0
IsElsewhere name (Posts other which e) = other ≢ name
IsElsewhere name (Adds_letter other) = other ≢ name
IsElsewhere name (Sends_ack other) = other ≢ name
IsElsewhere name (Settles other which) = other ≢ name
IsElsewhere name (Restarts other settings torn ids before) = other ≢ name
IsElsewhere name move = Unit {0}

-- `own` are the moves of the queue, in order. The second list has them too, and between them any moves from
-- elsewhere
abbrev pub IsMixed : Name → List Move → List Move → Type 0
IsMixed name [] [] = Unit {0}
IsMixed name (o ∷ own) [] = ⊥
IsMixed name [] (m ∷ ms) = IsElsewhere name m × IsMixed name [] ms
IsMixed name (o ∷ own) (m ∷ ms) =
    ((m ≡ o) × IsMixed name own ms) ⊎ (IsElsewhere name m × IsMixed name (o ∷ own) ms)

-- the law: moves from elsewhere do not change what the queue's own moves lead to
abbrev pub OthersLeaveTheDesk : Type 0
OthersLeaveTheDesk = (form : Form) (name : Name) (own ms : List Move) (s : System) → AreOfDesk name own
    → IsMixed name own ms → (run form ms s).desks name ≡ (run form own s).desks name
