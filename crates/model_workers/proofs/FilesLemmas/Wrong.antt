-- Schedules that refute the wrong definitions of planted/: after each, a file lacks a line that it has to have, or a
-- worker acknowledges what is no line of its file.
use Rattle.std.proofs.Common.{◌≡◌, refl, ℕ, Bool, true, false, ◌||◌, List, [], ◌∷◌, ◌++◌, filter, codes}
use Rattle.std.specs.Fmt.{digits}
use Rattle.model_server.specs.Group.Worker.{Id, done}
use Rattle.model_server.specs.Group.Group.{Name, id_text}
use Rattle.model_server.specs.Group.World.{Append, Read, Comes, Commit, Acknowledge, Ack_comes, Crash, with_one}
use Rattle.model_server.specs.Group.World as group
use Rattle.model_workers.specs.Files.Files.{Fields, Files, Event, Goes, Reopens, first_files, lines, batch, reopens}
use Rattle.model_workers.specs.Files.Files.{begins, is_in, repaired, happens}
use Rattle.model_workers.proofs.FilesLemmas.Whole.{text}

abbrev ann : Name
ann = codes "ann"

abbrev fields : ℕ → Fields
fields b = (b ∷ [], []) ∷ []

-- its line has its end
abbrev line : ℕ → ℕ → List ℕ
line n b = lines text ((id_text (n, 0), fields b) ∷ [])

-- a schedule, if an event makes this of the files
abbrev run_by : (Files → Event → Files) → List Event → Files → Files
run_by next [] f = f
run_by next (e ∷ es) f = run_by next es (next f e)

abbrev file_by : (Files → Event → Files) → List Event → List ℕ
file_by next es = (run_by next es (first_files (λ name. []))).file ann

-- an entry is added, read and done, and that is committed
abbrev one : ℕ → ℕ → List Event → List Event
one n b more = Goes (Append (n, 0) (fields b)) ∷ Goes (Read ann 1) ∷ Goes (Comes 0 (done ∷ [])) ∷ Goes (Commit ann) ∷ more

abbrev by_the_right : Files → Event → Files
by_the_right = happens text

pub both_are_there : file_by by_the_right (one 1 97 (one 2 98 [])) ≡ line 1 97 ++ line 2 98
unfolding digits
both_are_there = refl

-- a commit takes the place of the file
abbrev takes_the_place : Files → Event → Files
takes_the_place f (Goes (Commit c)) =
    record (happens text f (Goes (Commit c))) { file = with_one f.file c (batch text f c (λ e. false)) }
takes_the_place f e = happens text f e

pub first_is_gone : file_by takes_the_place (one 1 97 (one 2 98 [])) ≡ line 2 98
unfolding digits
first_is_gone = refl

-- a commit writes only what was given up
abbrev writes_given_up : Files → Event → Files
writes_given_up f (Goes (Commit c)) = record (happens text f (Goes (Commit c))) {
  file = with_one f.file c (f.file c ++ lines text (filter (λ e. false) (f.stream.loose c)));
}
writes_given_up f e = happens text f e

pub none_is_there : file_by writes_given_up (one 1 97 []) ≡ []
none_is_there = refl

-- a worker that is started again begins a new file
abbrev begins_a_new_file : Files → Event → Files
begins_a_new_file f (Reopens c every torn ids) =
    record (reopens text f c every torn ids) { file = with_one f.file c torn }
begins_a_new_file f e = happens text f e

pub lost_with_the_crash : file_by begins_a_new_file (one 1 97 (Reopens ann 1 [] [] ∷ [])) ≡ []
lost_with_the_crash = refl

-- bytes without an end are kept, and the next line goes on after them
abbrev keeps_all_bytes : Files → Event → Files
keeps_all_bytes f (Reopens c every torn ids) =
    record (reopens text f c every torn ids) { file = with_one f.file c (f.file c ++ torn) }
keeps_all_bytes f e = happens text f e

pub not_a_line : file_by keeps_all_bytes (Reopens ann 1 (120 ∷ []) [] ∷ one 1 97 []) ≡ 120 ∷ line 1 97
unfolding digits
not_a_line = refl

-- ---- what a worker that is started again acknowledges

abbrev bob : Name
bob = codes "bob"

-- the id of the entry `1-0`
abbrev first : List Id
first = id_text (1, 0) ∷ []

-- ann did the entry `1-0`, and committed nothing; these bytes are left, it begins with that id and acknowledges it
abbrev left : List ℕ → List Event
left torn =
    Goes (Append (1, 0) (fields 97)) ∷ Goes (Read ann 1) ∷ Goes (Comes 0 (done ∷ [])) ∷ Reopens ann 1 torn first ∷
    Goes (Acknowledge ann) ∷ Goes (Ack_comes 0) ∷ []

-- bob committed it, and ann is started again, and begins with its id
abbrev of_bob : List Event
of_bob =
    Goes (Append (1, 0) (fields 97)) ∷ Goes (Read bob 1) ∷ Goes (Comes 0 (done ∷ [])) ∷ Goes (Commit bob) ∷
    Reopens ann 1 [] first ∷ []

abbrev acknowledged_by : (Files → Event → Files) → List Event → List Id
acknowledged_by next es = (run_by next es (first_files (λ name. []))).stream.acknowledged_ids

abbrev begun_by : (Files → Event → Files) → List Id
begun_by next = ((run_by next of_bob (first_files (λ name. []))).stream.workers ann).to_acknowledge

pub none_is_acknowledged : acknowledged_by by_the_right (left []) ≡ []
none_is_acknowledged = refl

pub its_line_is_acknowledged : acknowledged_by by_the_right (left (line 1 97)) ≡ first
unfolding digits
its_line_is_acknowledged = refl

pub another_line_is_not : acknowledged_by by_the_right (left (49 ∷ line 1 97)) ≡ []
unfolding digits
another_line_is_not = refl

pub begins_with_none_of_bob : begun_by by_the_right ≡ []
unfolding digits
begins_with_none_of_bob = refl

-- a crash commits all that the handler did
abbrev commits_all : Files → Event → Files
commits_all f (Reopens c every torn ids) =
    record (reopens text f c every torn ids) { stream = group.happens f.stream (Crash c every (λ e. true) ids) }
commits_all f e = happens text f e

pub acknowledged_without_a_line : acknowledged_by commits_all (left []) ≡ first
unfolding digits
acknowledged_without_a_line = refl

pub no_line_of_it : file_by commits_all (left []) ≡ []
no_line_of_it = refl

-- a worker that is started again acknowledges what others wrote
abbrev acknowledges_others : Files → Event → Files
acknowledges_others f (Reopens c every torn ids) = record (reopens text f c every torn ids) {
  stream = group.happens f.stream (Crash c every (is_in text (repaired f c torn)) ids);
}
acknowledges_others f e = happens text f e

pub begins_with_a_line_of_bob : begun_by acknowledges_others ≡ first
unfolding digits
begins_with_a_line_of_bob = refl

-- the end of a line counts as one
abbrev ends_so : List ℕ → List ℕ → Bool
ends_so line [] = false
ends_so line (b ∷ bs) = begins (line ++ 10 ∷ []) (b ∷ bs) || ends_so line bs

abbrev takes_ends : Files → Event → Files
takes_ends f (Reopens c every torn ids) = record (reopens text f c every torn ids) {
  stream = group.happens f.stream (Crash c every (λ e. ends_so (text.line e) (repaired f c torn)) ids);
}
takes_ends f e = happens text f e

pub acknowledged_by_another_line : acknowledged_by takes_ends (left (49 ∷ line 1 97)) ≡ first
unfolding digits
acknowledged_by_another_line = refl

pub only_the_other_line : file_by takes_ends (left (49 ∷ line 1 97)) ≡ 49 ∷ line 1 97
unfolding digits
only_the_other_line = refl
