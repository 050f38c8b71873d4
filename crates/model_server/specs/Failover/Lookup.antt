-- A consumer that looks up an entry's id in its file before it adds a line.
use Rattle.std.specs.Prelude.{ℕ, List, [], ◌∷◌, ◌++◌, Option, Some, None, if◌then◌else◌}
use Rattle.model_server.specs.Group.Worker.{Id, Entry, Verdict, Answer, entries_in, handled_in}
use Rattle.model_server.specs.Group.Group.{ids_of, listed}
use Rattle.model_server.specs.Once.Consumer.{Consumer, takes, commits, restarts, reconnects}

-- the entries that get a line: the first of each id that is none of `ids`
abbrev pub unwritten : {F : Type 0} → List Id → List (Entry F) → List (Entry F)
unwritten ids [] = []
unwritten ids (e ∷ es) = if listed ids e.0 then unwritten ids es else e ∷ unwritten (e.0 ∷ ids) es

-- all lines of a consumer: those of the file, and then those that are not synced
abbrev pub lines_of : {F : Type 0} → Consumer F → List (Entry F)
lines_of c = c.file ++ c.lines

-- the consumer after a reply, as `takes` of `model_server::once`. But an entry whose id has a line is acknowledged, and
-- gets no second one
abbrev pub looks_up : {F : Type 0} → List Verdict → Option (Answer F) → Consumer F → Consumer F
looks_up verdicts None c = c
looks_up verdicts (Some a) c = record (takes verdicts (Some a) c) {
  lines = c.lines ++ unwritten (ids_of (lines_of c)) (handled_in (entries_in a) verdicts);
}

-- the steps of a consumer with a server about which nothing is assumed
pub data Move (F : Type 0) : Type 0 where
  -- a reply is on the way to the consumer, whatever entries it has
  Told : (answer : Answer F) → Move F
  -- the reply arrives, and the handler returns these verdicts for its entries
  Takes : (verdicts : List Verdict) → Move F
  -- the consumer commits
  Commits : Move F
  -- the consumer's connection breaks
  Reconnects : Move F
  -- the consumer crashes and is started again, as `restarts` of `model_server::once`
  Restarts : (every kept more : ℕ) → Move F

-- the consumer after a step
abbrev pub moved : {F : Type 0} → Consumer F → Move F → Consumer F
moved c (Told answer) = record c { answer = Some answer }
moved c (Takes verdicts) = looks_up verdicts c.answer c
moved c Commits = commits c
moved c Reconnects = reconnects c
moved c (Restarts every kept more) = restarts every kept more c

-- the consumer after these steps, in order
abbrev pub moved_on : {F : Type 0} → List (Move F) → Consumer F → Consumer F
moved_on [] c = c
moved_on (m ∷ ms) c = moved_on ms (moved c m)
