-- A server, workers that fulfil their contracts, their files, the dead letters of given-up entries, and the
-- possible moves.
use Rattle.std.specs.Prelude.{ℕ, Bool, false, not, List, [], ◌∷◌, ◌++◌, drop, filter, Option, Some, None, if◌then◌else◌}
use Rattle.redis_wire.specs.Reply as wire
use Rattle.worker_journal.specs.EntryLine.{Entry}
use Rattle.model_server.specs.Group.Worker.{Id, Verdict, begins_again, begins_with}
use Rattle.model_server.specs.Group.Group.{Name, Numbers, Pending, ids_of}
use Rattle.model_server.specs.Group.World.{World, Reply, Comes, Commit, Acknowledge, Go_back, Crash, empty_world, but, with_one}
use Rattle.model_server.specs.Group.World.{among_ids}
use Rattle.model_server.specs.Group.World as group
use Rattle.model_workers.specs.Files.Files.{Fields, Form, lines, whole_lines, is_in}
use Rattle.worker.specs.Answers.{Heard, told, no_group, group_made, group_after, hears}
use Rattle.worker.specs.Gathered.{Doings, done_too, committed_too}
use Rattle.worker.specs.Machine.{commits, at_request, history_at_request, is_empty}
use Rattle.worker.specs.Questions.{asks}
use Rattle.worker.specs.Session.{Standing, having_heard}
use Rattle.worker.specs.declared.state.Asked.{Asked}
use Rattle.worker.specs.declared.state.Asked.TheVariants.{Nothing}
use Rattle.worker.specs.declared.state.GroupState.{GroupState}
use Rattle.worker.specs.declared.state.GroupState.TheVariants.{Unknown}
use Rattle.worker.specs.declared.state.Settings.{Settings}

-- the server: a stream and its group, the replies on their way to workers, and the acknowledgements on their way to it
pub record Server : Type 0 where
  pub seen : List Entry
  pub fresh : List Entry
  pub last : Numbers
  pub deleted : List Id
  pub pending : List Pending
  pub acknowledged_ids : List Id
  pub replies : List (Reply Fields)
  pub acks : List (Name × List Id)

-- the server of a world of `model_server::group`
abbrev pub server_of : World Fields → Server
server_of w = record {
  seen = w.seen;
  fresh = w.fresh;
  last = w.last;
  deleted = w.deleted;
  pending = w.pending;
  acknowledged_ids = w.acknowledged_ids;
  replies = w.replies;
  acks = w.acks;
}

-- a world with this server
abbrev pub world_with : Server → World Fields
world_with s = record (empty_world {F = Fields}) {
  seen = s.seen;
  fresh = s.fresh;
  last = s.last;
  deleted = s.deleted;
  pending = s.pending;
  acknowledged_ids = s.acknowledged_ids;
  replies = s.replies;
  acks = s.acks;
}

-- the server after an event. Events of a worker do not change it
abbrev pub serves : Server → group.Event Fields → Server
serves s (Comes which verdicts) = s
serves s (Commit consumer) = s
serves s (Acknowledge consumer) = s
serves s (Go_back consumer) = s
serves s (Crash consumer every keeps ids) = s
serves s event = server_of (group.happens (world_with s) event)

-- a worker's queue of dead letters: the entries that the worker claimed and gives up, in order. Each entry
-- waits for its dead letter, and then for its acknowledgement
pub record Desk : Type 0 where
  pub waiting : List Entry
  pub added : Bool  -- the dead letter of the first one was added, and the reply to that arrived

-- the queue is empty
abbrev pub new_desk : Desk
new_desk = record { waiting = []; added = false }

pub record System : Type 0 where
  pub server : Server
  pub workers : Name → Standing Doings
  pub file : Name → List ℕ  -- the bytes of each worker's file that no crash removes
  pub filed : List Entry  -- what workers did and committed: a crash does not undo it
  pub desks : Name → Desk
  pub letters : List Entry  -- the entries whose dead letter was added, and the reply to that arrived

-- a new worker that has to acknowledge `ids`. Its handler has the entries `before` as committed
abbrev pub new_worker : ℕ → List Id → List Entry → Standing Doings
new_worker every ids before = record {
  machine = begins_with every ids;
  group = Unknown;
  asked = Nothing;
  history = record { loose = []; committed = before };
}

-- no entry was added, and each worker opened its file, which had these bytes before
abbrev pub first_system : (Name → List ℕ) → System
first_system before = record {
  server = server_of empty_world;
  workers = λ name. new_worker 1 [] [];
  file = λ name. whole_lines (before name);
  filed = [];
  desks = λ name. new_desk;
  letters = [];
}

-- the possible moves
pub data Move : Type 0 where
  -- an event of the server, by itself or because of a request of a worker
  Serves : (event : group.Event Fields) → Move
  -- a worker commits, if there is something to commit and nothing to acknowledge
  Commits : (name : Name) → Move
  -- a worker sends its next command. From then on an XACK of what is committed may arrive at the server
  Sends : (name : Name) (settings : Settings) → Move
  -- the reply to a command of a worker arrives. The handler returns `verdicts` for the entries
  Hears : (name : Name) (settings : Settings) (which : ℕ) (reply : wire.Answer) (verdicts : List Verdict) → Move
  -- a round of a worker fails. The worker starts over with its own pending entries, and `state` is what is
  -- known of the group
  Breaks : (name : Name) (state : GroupState) (question : Asked) → Move
  -- the reply to an XCLAIM of one id arrives at a worker and has the entry `e`, which is appended to the
  -- worker's queue. For the server the XCLAIM is a `Claim` that picks the id
  Posts : (name : Name) (which : ℕ) (e : Entry) → Move
  -- the reply to the XADD of the first entry's dead letter arrives at the queue of a worker
  Adds_letter : (name : Name) → Move
  -- the queue of a worker sends the XACK of its first entry, if the dead letter of that entry was added
  Sends_ack : (name : Name) → Move
  -- the reply to that XACK arrives, and the queue of the worker removes the entry
  Settles : (name : Name) (which : ℕ) → Move
  -- a worker crashes, or is killed, and is started again. Its file has the committed bytes and the bytes `torn`
  -- after them, and is cut after its last line feed. An entry that the handler did is committed if it is a line
  -- of the file. The worker begins to acknowledge each of `ids` that has a committed line in the file. The
  -- handler has the entries `before` as committed. The queue is empty
  Restarts : (name : Name) (settings : Settings) (torn : List ℕ) (ids : List Id) (before : List Entry) → Move

-- the worker after its commit, if it commits
abbrev pub committed : Standing Doings → Standing Doings
committed w = record w {
  machine = at_request w.machine;
  history = history_at_request committed_too w.machine w.history;
}

-- the entries that the worker commits now
abbrev pub files_now : Standing Doings → List Entry
files_now w = if commits w.machine then w.history.loose else []

-- the worker while it waits for the reply to its command
abbrev pub waiting : Settings → Standing Doings → Standing Doings
waiting settings w = record w { asked = asks w.group w.machine.phase w.machine.to_acknowledge }

-- the meaning of the reply to this worker
abbrev pub heard : Settings → Standing Doings → wire.Answer → Option Heard
heard settings w reply = hears settings w.asked reply

-- the worker after this reply
abbrev pub having : Settings → Standing Doings → wire.Answer → List Verdict → Standing Doings
having settings w reply verdicts =
    having_heard done_too w (group_after settings w.group w.asked reply) (heard settings w reply) verdicts

-- the replies that are still on their way after the worker took the reply `which`, by its meaning
abbrev pub still_coming : List (Reply Fields) → ℕ → Option Heard → List (Reply Fields)
still_coming replies which None = replies
still_coming replies which (Some (told answer)) = but replies which
still_coming replies which (Some no_group) = replies
still_coming replies which (Some group_made) = replies

-- the file of a worker after a crash that left the bytes `torn` after the committed ones
abbrev pub repaired : System → Name → List ℕ → List ℕ
repaired s name torn = whole_lines (s.file name ++ torn)

-- the committed entries after a crash that left the bytes `torn`
abbrev pub filed_then : Form → System → Name → List ℕ → List Entry
filed_then form s name torn = s.filed ++ filter (is_in form (repaired s name torn)) (s.workers name).history.loose

-- the committed entries that are lines of the repaired file
abbrev pub read_back : Form → System → Name → List ℕ → List Entry
read_back form s name torn = filter (is_in form (repaired s name torn)) (filed_then form s name torn)

-- the first entry, as a list of at most one
abbrev pub first : List Entry → List Entry
first [] = []
first (e ∷ es) = e ∷ []

-- the entry whose dead letter is added: the first of the queue, unless its dead letter was added before
abbrev pub lettered_now : Desk → List Entry
lettered_now d = if d.added then [] else first d.waiting

-- the queue after the dead letter of the first entry was added
abbrev pub with_letter : Desk → Desk
with_letter d = record d { added = not (is_empty d.waiting) }

-- the id that a queue acknowledges: the first one, if its dead letter was added
abbrev pub acknowledges_now : Desk → List Id
acknowledges_now d = if d.added then ids_of (first d.waiting) else []

-- the queue without its first entry
abbrev pub without_first : Desk → Desk
without_first d = record { waiting = drop 1 d.waiting; added = false }

-- the system `s`, but the worker `name` has the queue `d`
abbrev pub with_desk : System → Name → Desk → System
with_desk s name d = record s { desks = with_one s.desks name d }

-- the system `s`, but the worker `name` has the state `w`
abbrev pub with_worker : System → Name → Standing Doings → System
with_worker s name w = record s { workers = with_one s.workers name w }

-- the system after a move
abbrev pub moves : Form → System → Move → System
moves form s (Serves event) = record s { server = serves s.server event }
moves form s (Commits name) = record (with_worker s name (committed (s.workers name))) {
  file = with_one s.file name (s.file name ++ lines form (files_now (s.workers name)));
  filed = s.filed ++ files_now (s.workers name);
}
moves form s (Sends name settings) = record (with_worker s name (waiting settings (s.workers name))) {
  server = record s.server { acks = (name, (s.workers name).machine.to_acknowledge) ∷ s.server.acks };
}
moves form s (Hears name settings which reply verdicts) =
    record (with_worker s name (having settings (s.workers name) reply verdicts)) {
      server = record s.server {
        replies = still_coming s.server.replies which (heard settings (s.workers name) reply);
      };
    }
moves form s (Breaks name state question) = with_worker s name (record (s.workers name) {
  machine = begins_again (s.workers name).machine;
  group = state;
  asked = question;
})
moves form s (Posts name which e) =
    record (with_desk s name (record (s.desks name) { waiting = (s.desks name).waiting ++ e ∷ [] })) {
      server = record s.server { replies = but s.server.replies which };
    }
moves form s (Adds_letter name) = record (with_desk s name (with_letter (s.desks name))) {
  letters = s.letters ++ lettered_now (s.desks name);
}
moves form s (Sends_ack name) = record s {
  server = record s.server { acks = (name, acknowledges_now (s.desks name)) ∷ s.server.acks };
}
moves form s (Settles name which) = record (with_desk s name (without_first (s.desks name))) {
  server = record s.server { replies = but s.server.replies which };
}
moves form s (Restarts name settings torn ids before) =
    record (with_worker s name (new_worker settings.every (among_ids (read_back form s name torn) ids) before)) {
      file = with_one s.file name (repaired s name torn);
      filed = filed_then form s name torn;
      desks = with_one s.desks name new_desk;
    }

-- the system after all these moves
abbrev pub run : Form → List Move → System → System
run form [] s = s
run form (m ∷ ms) s = run form ms (moves form s m)
