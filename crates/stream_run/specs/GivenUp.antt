-- Entries with the reply `dead` are given up at once.
use Rattle.std.specs.Prelude.{◌≡◌, List, [], ◌∷◌, Bool, true, false, Option, Some, None, option_map, string_bytes}
use Rattle.redis_connection.specs.Link.{Link}
use Rattle.worker.specs.DeadLetters.Besides.{GivesUpNow}
use Rattle.worker.specs.DeadLetters.Dead.{Claimer, claimer_of, letter_names}
use Rattle.worker.specs.Letters.{Names}
use Rattle.worker.specs.declared.dead_letters.search.DeadLetterSearch.{DeadLetterSearch}
use Rattle.worker_jobs.specs.declared.jobs.Note.{Note}

-- the consumer whose entries the search gives up, and the names for its dead letters
abbrev pub names_of_search : DeadLetterSearch → Claimer × Names
names_of_search d = (claimer_of d 0, letter_names d)

-- the consumer and the names of the search, if there is one
abbrev pub dead_of : Option DeadLetterSearch → Option (Claimer × Names)
dead_of search = option_map names_of_search search

-- if `dead` is true, the entry of the note is given up with the note's text, and else no command is sent
abbrev pub GivesUpIf : Bool → Claimer × Names → Note → Link → Link → Type 0
GivesUpIf true p note old new = GivesUpNow p.0 p.1 (string_bytes note.id) note.text.items old new
GivesUpIf false p note old new = new ≡ old

-- gives up the entries of the notes with the reply `dead`, in order
abbrev pub GivesUpEach : Claimer × Names → List Note → Link → Link → Type 0
GivesUpEach p [] old new = new ≡ old
GivesUpEach p (note ∷ notes) old new = (m : Link) × GivesUpIf note.dead p note old m × GivesUpEach p notes m new

-- as `GivesUpEach` if there is a search for dead letters, and else no command is sent
abbrev pub GivesUpDead : Option (Claimer × Names) → List Note → Link → Link → Type 0
GivesUpDead (Some p) notes old new = GivesUpEach p notes old new
GivesUpDead None notes old new = new ≡ old
