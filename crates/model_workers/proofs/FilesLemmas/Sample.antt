-- Schedules of a worker with a file: once it committed, its line is there after each crash; before, it may be there
-- or not; and an entry that is given up has a dead letter in its place.
use Rattle.std.proofs.Common.{◌≡◌, refl, ℕ, true, false, List, [], ◌∷◌, ◌++◌, codes}
use Rattle.std.specs.Fmt.{digits}
use Rattle.worker_journal.specs.EntryLine.{Entry}
use Rattle.model_server.specs.Group.Worker.{done}
use Rattle.model_server.specs.Group.Group.{Name, id_text}
use Rattle.model_server.specs.Group.World.{Append, Read, Reread, Comes, Commit, Acknowledge, Ack_comes, Crash}
use Rattle.model_workers.specs.Files.Files.{Fields, Files, Event, Goes, Commits, Reopens, first_files}
use Rattle.model_workers.specs.Files.Law.{after, AllLeaveFronts}
use Rattle.model_workers.proofs.FilesLemmas.Whole.{text}

abbrev ann : Name
ann = codes "ann"

abbrev fields : Fields
fields = (codes "a", codes "b") ∷ []

abbrev entry : Entry
entry = (id_text (1, 0), fields)

-- `1-0`, a tab, `a`, a tab, `b`
abbrev line : List ℕ
line = codes "1-0" ++ 9 ∷ 97 ∷ 9 ∷ 98 ∷ 10 ∷ []

-- the file had one line, and after it an `x` that a crash left
abbrev before : Name → List ℕ
before name = 121 ∷ 10 ∷ 120 ∷ []

-- the entry is added and read, and the handler does it
abbrev handled : List Event → List Event
handled more = Goes (Append (1, 0) fields) ∷ Goes (Read ann 1) ∷ Goes (Comes 0 (done ∷ [])) ∷ more

abbrev file_after : List Event → List ℕ
file_after events = (after text before (handled events)).file ann

pub committed : file_after (Goes (Commit ann) ∷ []) ≡ 121 ∷ 10 ∷ line
unfolding digits
committed = refl

-- a crash leaves a line more without its end
pub committed_and_torn : file_after (Goes (Commit ann) ∷ Reopens ann 1 (122 ∷ []) [] ∷ []) ≡ 121 ∷ 10 ∷ line
unfolding digits
committed_and_torn = refl

-- or any other line, and one without its end
pub committed_and_more : file_after (Goes (Commit ann) ∷ Reopens ann 1 (122 ∷ 10 ∷ 122 ∷ []) [] ∷ [])
    ≡ 121 ∷ 10 ∷ (line ++ 122 ∷ 10 ∷ [])
unfolding digits
committed_and_more = refl

-- no commit came: the file is what it was
pub handled_only : file_after (Goes (Crash ann 1 (λ e. true) []) ∷ []) ≡ 121 ∷ 10 ∷ []
handled_only = refl

-- a crash in the commit leaves half of the line
pub cut_off : file_after (Reopens ann 1 (codes "1-0") [] ∷ []) ≡ 121 ∷ 10 ∷ []
cut_off = refl

-- or all of it: a worker that reads nothing back takes the entry again, which is still pending, and writes it twice
abbrev again : List Event
again =
    Reopens ann 1 line [] ∷ Goes (Reread ann (λ id. true)) ∷ Goes (Comes 0 (done ∷ [])) ∷ Goes (Commit ann) ∷
    Goes (Acknowledge ann) ∷ Goes (Ack_comes 0) ∷ []

pub written_twice : file_after again ≡ 121 ∷ 10 ∷ (line ++ line)
unfolding digits
written_twice = refl

pub acknowledged : (after text before (handled again)).stream.acknowledged_ids ≡ entry.0 ∷ []
unfolding digits
acknowledged = refl

pub fronts : AllLeaveFronts text (first_files before) (handled again)
unfolding digits
fronts = (tt, (tt, (tt, ((λ e. false, ([], refl)), (tt, (tt, (tt, (tt, (tt, tt)))))))))

-- one that reads its last line back acknowledges it first: the entry is not redelivered, and is written once
abbrev reads_back : List Event
reads_back =
    Reopens ann 1 line (entry.0 ∷ []) ∷ Goes (Acknowledge ann) ∷ Goes (Ack_comes 0) ∷ Goes (Reread ann (λ id. true)) ∷
    Goes (Comes 0 (done ∷ [])) ∷ Goes (Commit ann) ∷ []

pub written_once : file_after reads_back ≡ 121 ∷ 10 ∷ line
unfolding digits
written_once = refl

pub acknowledged_first : (after text before (handled reads_back)).stream.acknowledged_ids ≡ entry.0 ∷ []
unfolding digits
acknowledged_first = refl

-- it acknowledges nothing that is no line of its file
pub not_in_the_file : (after text before (handled
    (Reopens ann 1 (codes "1-0") (entry.0 ∷ []) ∷ Goes (Acknowledge ann) ∷ Goes (Ack_comes 0) ∷ []))).stream.acknowledged_ids ≡ []
unfolding digits
not_in_the_file = refl

-- given up: there is a dead letter and no line
abbrev given_up : Files
given_up = after text before (handled (Commits ann (λ e. true) ∷ []))

pub letter : given_up.letters ≡ entry ∷ []
letter = refl

pub no_line : given_up.file ann ≡ 121 ∷ 10 ∷ []
no_line = refl
