-- Entries that are given up, and their letters in a stream of dead letters.
use Rattle.std.specs.Prelude.{◌≡◌, ◌≢◌, ℕ, Bool, true, false, List, [], ◌∷◌, ◌++◌, drop, map, flat_map, codes, decimal}
use Rattle.std.specs.Prelude.{string_bytes}
use Rattle.redis_resp.specs.Tree.{Tree, bulk, int}
use Rattle.redis_wire.specs.Packed.{command_bytes}
use Rattle.redis_wire.specs.Reply as wire
use Rattle.model_server.specs.Group.Worker.{Id}
use Rattle.worker.specs.declared.letters.DeadLetters.{DeadLetters}
use Rattle.worker.specs.declared.letters.Letter.{Letter}
use Rattle.worker.specs.declared.letters.LetterAsked.{LetterAsked}
use Rattle.worker.specs.declared.letters.LetterAsked.TheVariants as asked
use Rattle.worker.specs.declared.letters.LetterError.{LetterError}
use Rattle.worker.specs.declared.letters.LetterError.TheVariants as causes

-- the entries that are given up, each with the bytes of its XADD, and whether the first one's letter was added
pub record Desk : Type 0 where
  pub waiting : List (Id × List ℕ)
  pub added : Bool

-- the id of an entry that is given up, and the bytes of its XADD
abbrev pub letter_of : Letter → Id × List ℕ
letter_of l = (string_bytes l.id, l.command.items)

-- the queued letters, and whether the first one was added
abbrev pub desk_of : DeadLetters → Desk
desk_of d = record { waiting = map letter_of d.letters.items; added = d.added }

-- the stream, the group, and the dead-letter stream
abbrev pub names_of : DeadLetters → List ℕ × List ℕ × List ℕ
names_of d = (string_bytes d.key, string_bytes d.group, string_bytes d.dead)

-- the field `reason`. There is none if the text is empty
abbrev pub reason_words : List ℕ → List (List ℕ)
reason_words [] = []
reason_words (b ∷ text) = codes "reason" ∷ (b ∷ text) ∷ []

-- `XADD dead * entry id deliveries n field value ..`, with `reason text` before `entry` if there is a reason
abbrev pub letter_sentence : List ℕ → List ℕ → Id → ℕ → List (List ℕ) → List (List ℕ)
letter_sentence dead reason id n fields =
    codes "XADD" ∷ dead ∷ codes "*"
    ∷ (reason_words reason ++ codes "entry" ∷ id ∷ codes "deliveries" ∷ decimal n ∷ fields)

-- a stream, its group, and the stream of dead letters
abbrev pub Names : Type 0
Names = List ℕ × List ℕ × List ℕ

-- names and values, in order
abbrev pub Fields : Type 0
Fields = List (List ℕ × List ℕ)

-- an id, and the fields of its entry
abbrev pub Entry : Type 0
Entry = Id × Fields

-- names and values by turns, as a command has them
abbrev pub words_of : Fields → List (List ℕ)
words_of fields = flat_map (λ f. f.0 ∷ f.1 ∷ []) fields

-- the bytes of the XADD of a letter: the entry `e` was delivered `deliveries` times and is given up for
-- `reason`
abbrev pub letter_for : List ℕ → Entry → ℕ → List ℕ → List ℕ
letter_for dead e deliveries reason = command_bytes (letter_sentence dead reason e.0 deliveries (words_of e.1))

-- the next command for the first entry: XADD of its letter, or XACK after the letter was added
abbrev pub of_first : List ℕ × List ℕ × List ℕ → Id × List ℕ → Bool → List ℕ
of_first names letter false = letter.1
of_first names letter true = command_bytes (codes "XACK" ∷ names.0 ∷ names.1 ∷ letter.0 ∷ [])

-- the bytes of the next command for the first entry, if there is one
abbrev pub bytes_of_first : List ℕ × List ℕ × List ℕ → List (Id × List ℕ) → Bool → List ℕ
bytes_of_first names [] added = []
bytes_of_first names (letter ∷ rest) added = of_first names letter added

-- the bytes of the next command for a letter
abbrev pub letter_bytes : List ℕ × List ℕ × List ℕ → Desk → List ℕ
letter_bytes names desk = bytes_of_first names desk.waiting desk.added

-- which command is next for the first entry: XADD, XACK, or no command if there is no entry
abbrev pub asks_of_first : List (Id × List ℕ) → Bool → LetterAsked
asks_of_first [] added = asked.Nothing
asks_of_first (letter ∷ rest) false = asked.Add
asks_of_first (letter ∷ rest) true = asked.Acknowledge

-- which command is next
abbrev pub letter_asks : Desk → LetterAsked
letter_asks desk = asks_of_first desk.waiting desk.added

-- whether the value is a bulk string, as an id is
abbrev pub is_text : Tree → Bool
is_text (bulk bytes) = true
is_text _ = false

-- whether the value is an integer, as a count is
abbrev pub is_count : Tree → Bool
is_count (int z) = true
is_count _ = false

-- whether the reply is of the kind that the command returns
abbrev pub serves : LetterAsked → wire.Answer → Bool
serves asked.Nothing a = false
serves asked.Add (wire.value t) = is_text t
serves asked.Add (wire.refused text) = false
serves asked.Add (wire.group kind members) = false
serves asked.Add (wire.pushed kind payload) = false
serves asked.Acknowledge (wire.value t) = is_count t
serves asked.Acknowledge (wire.refused text) = false
serves asked.Acknowledge (wire.group kind members) = false
serves asked.Acknowledge (wire.pushed kind payload) = false

-- the queue after a valid reply. After XADD the letter is added, and after XACK the entry is removed
abbrev pub after_letter : LetterAsked → Desk → Desk
after_letter asked.Nothing desk = desk
after_letter asked.Add desk = record desk { added = true }
after_letter asked.Acknowledge desk = record { waiting = drop 1 desk.waiting; added = false }

-- the reply is not a top-level error
abbrev pub IsNoError : wire.Answer → Type 0
IsNoError (wire.value t) = Unit {0}
IsNoError (wire.refused text) = ⊥
IsNoError (wire.group kind members) = Unit {0}
IsNoError (wire.pushed kind payload) = Unit {0}

-- why a reply was refused, by the error
abbrev pub Unserved : LetterAsked → wire.Answer → LetterError → Type 0
Unserved question a causes.NotAsked = question ≡ asked.Nothing
Unserved question a (causes.Server e) = (question ≢ asked.Nothing) × (a ≡ wire.refused e.text.items)
Unserved question a causes.NotAnAnswer = (question ≢ asked.Nothing) × IsNoError a
