-- A consumer that writes a line for each entry into a file of its own: a worker, its connection and the file.
use Rattle.std.specs.Prelude.{ℕ, ◌+◌, ◌-◌, List, [], ◌∷◌, ◌++◌, drop, take, length, map, Bool, true, false, ◌&&◌}
use Rattle.std.specs.Prelude.{Option, Some, None, if◌then◌else◌}
use Rattle.std.specs.Option.{is_none}
use Rattle.model_server.specs.Group.Worker.{Id, Entry, Verdict, Machine, Phase, own, claiming, reading, Answer}
use Rattle.model_server.specs.Group.Worker.{own_pending, taken_over, news, entries_in, handled_in, start, after, after_commit}
use Rattle.model_server.specs.Group.Worker.{begins_again, begins_with}
use Rattle.model_server.specs.Group.Group.{Name, ids_of, given, whole, reread, claim_answer}
use Rattle.model_server.specs.Group.World.{read, read_again, claim}
use Rattle.model_server.specs.Group.World as group

-- the consumer, its connection and its file. A line is modelled as its entry
pub record Consumer (F : Type 0) : Type 0 where
  pub machine : Machine
  pub answer : Option (Answer F)  -- the reply on the way to the consumer
  pub lines : List (Entry F)  -- lines that are written, or are to be written, and not synced
  pub file : List (Entry F)  -- lines that are synced: no crash removes them
  pub last_commit : ℕ  -- the number of lines that the last commit added

-- a consumer that is started on an empty file
abbrev pub new_consumer : {F : Type 0} → Consumer F
new_consumer = record { machine = start 1; answer = None; lines = []; file = []; last_commit = 0 }

-- as `slice::is_empty`: whether the list has no item
abbrev pub is_empty : {A : Type 0} → List A → Bool
is_empty [] = true
is_empty (x ∷ xs) = false

-- whether the consumer may request entries: no reply is on the way, and all that it did is committed and acknowledged
abbrev pub is_idle : {F : Type 0} → Consumer F → Bool
is_idle c = is_none c.answer && (is_empty c.machine.to_commit && is_empty c.machine.to_acknowledge)

-- the stream after the consumer's request in this phase, with COUNT `n`. `pick` is the server's choice of pending
-- entries, and `next` the start of the next claim
abbrev pub after_asking : {F : Type 0} → Name → ℕ → (Id → Bool) → Id → Phase → group.World F → group.World F
after_asking name n pick next (own behind) w = read_again w name pick
after_asking name n pick next (claiming from) w = claim w name pick next
after_asking name n pick next (reading rounds) w = read w name n

-- the reply to the consumer's request in this phase
abbrev pub answer_for : {F : Type 0} → Name → ℕ → (Id → Bool) → Id → Phase → group.World F → Answer F
answer_for name n pick next (own behind) w = own_pending (reread pick name w.pending w.deleted w.seen)
answer_for name n pick next (claiming from) w = taken_over next (claim_answer pick w.pending w.deleted w.seen)
answer_for name n pick next (reading rounds) w = news (map whole (given w.deleted n w.fresh))

-- the consumer after a reply, if one is on the way. Its handler returns these verdicts, and each entry that is done
-- gets a line
abbrev pub takes : {F : Type 0} → List Verdict → Option (Answer F) → Consumer F → Consumer F
takes verdicts None c = c
takes verdicts (Some a) c = record c {
  machine = after c.machine a verdicts;
  answer = None;
  lines = c.lines ++ handled_in (entries_in a) verdicts;
}

-- the consumer after one write and one sync of its lines
abbrev pub syncs : {F : Type 0} → Consumer F → Consumer F
syncs c = record c {
  machine = after_commit c.machine;
  lines = [];
  file = c.file ++ c.lines;
  last_commit = length c.lines;
}

-- the consumer after a commit. It commits if no reply is on the way and there is nothing to acknowledge; else nothing
-- changes
abbrev pub commits : {F : Type 0} → Consumer F → Consumer F
commits c = if is_none c.answer && is_empty c.machine.to_acknowledge then syncs c else c

-- the last `n` lines of a file, or all lines if there are fewer
abbrev pub last_lines : {F : Type 0} → ℕ → List (Entry F) → List (Entry F)
last_lines n file = drop (length file - n) file

-- the number of lines that the last commit added. If a crash interrupted a commit and some of its lines are in the
-- file, it is their number. Else it is `before`
abbrev pub last_added : {F : Type 0} → ℕ → List (Entry F) → ℕ
last_added before [] = before
last_added before (e ∷ es) = length (e ∷ es)

-- the consumer after it crashes and is started again, to claim after `every` reads. Of a commit that the crash
-- interrupted, the first `kept` lines are in the file. It acknowledges the ids of the last lines of its file: those of
-- the last commit, and `more` before them
abbrev pub restarts : {F : Type 0} → (every kept more : ℕ) → Consumer F → Consumer F
restarts every kept more c = record {
  machine = begins_with every (ids_of
      (last_lines (last_added c.last_commit (take kept c.lines) + more) (c.file ++ take kept c.lines)));
  answer = None;
  lines = [];
  file = c.file ++ take kept c.lines;
  last_commit = last_added c.last_commit (take kept c.lines);
}

-- the consumer after its connection breaks: no reply arrives, and it starts over with its own pending entries
abbrev pub reconnects : {F : Type 0} → Consumer F → Consumer F
reconnects c = record c { machine = begins_again c.machine; answer = None }
