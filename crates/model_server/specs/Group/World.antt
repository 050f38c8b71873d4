-- The server, the workers and the messages between them, and the events that change them.
use Rattle.std.specs.Prelude.{ℕ, zero, suc, Bool, ◌&&◌, List, [], ◌∷◌, ◌++◌, map, filter, Option, Some, None}
use Rattle.std.specs.Prelude.{if◌then◌else◌}
use Rattle.std.specs.Str.{bytes_eq}
use Rattle.model_server.specs.Group.Worker.{Id, Entry, Delivered, Verdict, Machine, Answer, acknowledged, own_pending}
use Rattle.model_server.specs.Group.Worker.{taken_over, news, handled_in, entries_in, start, after, after_commit}
use Rattle.model_server.specs.Group.Worker.{begins_again, begins_with}
use Rattle.model_server.specs.Group.Group.{Name, Pending, Numbers, id_text, is_below, fits, raised, listed, ids_of, given}
use Rattle.model_server.specs.Group.Group.{passed, behind, newly_pending, whole, reread, claimed, claim_answer, pending_after}

-- a reply on the way to `consumer`
pub record Reply (F : Type 0) : Type 0 where
  pub consumer : Name
  pub answer : Answer F

-- the state of the server, of the workers, and of the messages between them
pub record World (F : Type 0) : Type 0 where
  pub seen : List (Entry F)  -- the log up to the last delivered id
  pub fresh : List (Entry F)  -- the log after the last delivered id: the undelivered entries
  pub last : Numbers  -- the last id that was added
  pub deleted : List Id  -- the ids of the log whose entries were deleted
  pub pending : List Pending
  pub acknowledged_ids : List Id  -- each id of each XACK that arrived
  pub replies : List (Reply F)  -- the replies on the way, newest first
  pub acks : List (Name × List Id)  -- each XACK that was sent, newest first: its consumer and its ids
  pub workers : Name → Machine
  pub handled : List (Entry F)  -- each handled entry, whether or not a crash followed
  pub loose : Name → List (Entry F)  -- by consumer: the handled entries that are not committed
  pub committed : List (Entry F)  -- the handled entries that are committed: no crash undoes them
  pub deliveries : List Id  -- each id, once for each reply that has its entry with fields

-- the start: an empty stream
abbrev pub empty_world : {F : Type 0} → World F
empty_world = record {
  seen = [];
  fresh = [];
  last = (0, 0);
  deleted = [];
  pending = [];
  acknowledged_ids = [];
  replies = [];
  acks = [];
  workers = λ name. start 1;
  handled = [];
  loose = λ name. [];
  committed = [];
  deliveries = [];
}

-- the log: each entry that XADD added, in order, including deleted ones
abbrev pub log_of : {F : Type 0} → World F → List (Entry F)
log_of w = w.seen ++ w.fresh

-- the possible events. A lost reply or a lost XACK never arrives
pub data Event (F : Type 0) : Type 0 where
  -- XADD; refused if the id is not above the last one, or does not fit into 64 bits
  Append : (id : Numbers) (fields : F) → Event F
  -- XDEL or trimming, also of undelivered entries
  Delete : (id : Id) → Event F
  -- XREADGROUP with `>` and COUNT `n`
  Read : (consumer : Name) (n : ℕ) → Event F
  -- XREADGROUP with an id: the consumer's own pending entries that `pick` selects
  Reread : (consumer : Name) (pick : Id → Bool) → Event F
  -- XAUTOCLAIM: the pending entries of any consumer that `pick` selects. `next` is the start of the next claim
  Claim : (consumer : Name) (pick : Id → Bool) (next : Id) → Event F
  -- XAUTOCLAIM or XCLAIM with JUSTID, by any consumer: entries are claimed, and none is delivered
  Claim_ids : (consumer : Name) (pick : Id → Bool) → Event F
  -- the reply at index `which` of `replies` arrives at its worker, whose handler returns these verdicts
  Comes : (which : ℕ) (verdicts : List Verdict) → Event F
  -- the worker's handler commits the entries that it handled
  Commit : (consumer : Name) → Event F
  -- the worker sends an XACK of the committed ids
  Acknowledge : (consumer : Name) → Event F
  -- the XACK at index `which` of `acks` arrives at the server
  Ack_comes : (which : ℕ) → Event F
  -- the worker starts over with its own pending entries
  Go_back : (consumer : Name) → Event F
  -- the worker crashes and is started again: it loses its state, and the entries that are not committed. A commit that
  -- the crash interrupted may keep the entries that `keeps` selects, which are then committed. The new worker has those
  -- of `ids` to acknowledge that are committed. `ids` may be empty
  Crash : (consumer : Name) (every : ℕ) (keeps : Entry F → Bool) (ids : List Id) → Event F

-- as `slice::get`: the item at index `n`, or `None` if there is none
abbrev pub item : {A : Type 0} → List A → ℕ → Option A
item [] n = None
item (x ∷ xs) zero = Some x
item (x ∷ xs) (suc n) = item xs n

-- the items without the one at index `n`
abbrev pub but : {A : Type 0} → List A → ℕ → List A
but [] n = []
but (x ∷ xs) zero = xs
but (x ∷ xs) (suc n) = x ∷ but xs n

-- the function `each`, but with the value `a` at `name`
abbrev pub with_one : {A : Type 0} → (Name → A) → Name → A → Name → A
with_one each name a other = if bytes_eq name other then a else each other

-- the world after XADD: the entry is added if its id is above the last one and fits into 64 bits
abbrev pub appended : {F : Type 0} → World F → Numbers → F → World F
appended w id fields =
    if is_below w.last id && fits id then record w { fresh = w.fresh ++ (id_text id, fields) ∷ []; last = id } else w

-- the world after XDEL: the entry is deleted if it is in the log
abbrev pub deleted_from : {F : Type 0} → World F → Id → World F
deleted_from w id = if listed (ids_of (log_of w)) id then record w { deleted = id ∷ w.deleted } else w

-- the id of an entry that a reply has with its fields; none if it has nil
abbrev pub whole_one : {F : Type 0} → Id → Option F → List Id
whole_one id None = []
whole_one id (Some fields) = id ∷ []

-- the ids of the entries that a reply has with their fields
abbrev pub whole_ids : {F : Type 0} → List (Delivered F) → List Id
whole_ids [] = []
whole_ids (d ∷ ds) = whole_one d.0 d.1 ++ whole_ids ds

-- the world after the server sends the reply `a` to the consumer
abbrev pub replied : {F : Type 0} → World F → Name → Answer F → World F
replied w consumer a = record w {
  replies = record { consumer = consumer; answer = a } ∷ w.replies;
  deliveries = whole_ids (entries_in a) ++ w.deliveries;
}

-- the world after XREADGROUP with `>`: the returned entries are pending for the consumer
abbrev pub read : {F : Type 0} → World F → Name → ℕ → World F
read w consumer n = record (replied w consumer (news (map whole (given w.deleted n w.fresh)))) {
  seen = w.seen ++ passed w.deleted n w.fresh;
  fresh = behind w.deleted n w.fresh;
  pending = w.pending ++ newly_pending consumer (given w.deleted n w.fresh);
}

-- the world after XREADGROUP with an id: the consumer's pending entries are redelivered
abbrev pub read_again : {F : Type 0} → World F → Name → (Id → Bool) → World F
read_again w consumer pick =
    record (replied w consumer (own_pending (reread pick consumer w.pending w.deleted w.seen))) {
      pending = raised pick consumer w.deleted w.pending;
    }

-- the world after XAUTOCLAIM: the selected pending entries go to the consumer
abbrev pub claim : {F : Type 0} → World F → Name → (Id → Bool) → Id → World F
claim w consumer pick next =
    record (replied w consumer (taken_over next (claim_answer pick w.pending w.deleted w.seen))) {
      pending = claimed 1 pick consumer w.deleted w.pending;
    }

-- the world after a reply arrives at its worker, whose handler handles its entries
abbrev pub comes : {F : Type 0} → World F → ℕ → Option (Reply F) → List Verdict → World F
comes w which None verdicts = w
comes w which (Some r) verdicts = record w {
  replies = but w.replies which;
  handled = w.handled ++ handled_in (entries_in r.answer) verdicts;
  loose = with_one w.loose r.consumer (w.loose r.consumer ++ handled_in (entries_in r.answer) verdicts);
  workers = with_one w.workers r.consumer (after (w.workers r.consumer) r.answer verdicts);
}

-- the world after the consumer's handler commits the entries that it handled
abbrev pub commits : {F : Type 0} → World F → Name → World F
commits w consumer = record w {
  committed = w.committed ++ w.loose consumer;
  loose = with_one w.loose consumer [];
  workers = with_one w.workers consumer (after_commit (w.workers consumer));
}

-- the world after an XACK arrives at the server
abbrev pub ack_comes : {F : Type 0} → World F → Option (Name × List Id) → World F
ack_comes w None = w
ack_comes w (Some a) = record (replied w a.0 acknowledged) {
  pending = pending_after a.1 w.pending;
  acknowledged_ids = w.acknowledged_ids ++ a.1;
}

-- the committed entries after a crash that keeps those of `loose` that `keeps` selects
abbrev pub committed_after : {F : Type 0} → World F → Name → (Entry F → Bool) → List (Entry F)
committed_after w consumer keeps = w.committed ++ filter keeps (w.loose consumer)

-- those of `ids` that are the id of one of these entries
abbrev pub among_ids : {F : Type 0} → List (Entry F) → List Id → List Id
among_ids es ids = filter (listed (ids_of es)) ids

-- the world after a worker crashes and is started again
abbrev pub crashes : {F : Type 0} → World F → Name → ℕ → (Entry F → Bool) → List Id → World F
crashes w consumer every keeps ids = record w {
  workers = with_one w.workers consumer (begins_with every (among_ids (committed_after w consumer keeps) ids));
  loose = with_one w.loose consumer [];
  committed = committed_after w consumer keeps;
}

-- the world after an event
abbrev pub happens : {F : Type 0} → World F → Event F → World F
happens w (Append id fields) = appended w id fields
happens w (Delete id) = deleted_from w id
happens w (Read consumer n) = read w consumer n
happens w (Reread consumer pick) = read_again w consumer pick
happens w (Claim consumer pick next) = claim w consumer pick next
happens w (Claim_ids consumer pick) = record w { pending = claimed 0 pick consumer w.deleted w.pending }
happens w (Comes which verdicts) = comes w which (item w.replies which) verdicts
happens w (Commit consumer) = commits w consumer
happens w (Acknowledge consumer) = record w { acks = (consumer, (w.workers consumer).to_acknowledge) ∷ w.acks }
happens w (Ack_comes which) = ack_comes w (item w.acks which)
happens w (Go_back consumer) = record w { workers = with_one w.workers consumer (begins_again (w.workers consumer)) }
happens w (Crash consumer every keeps ids) = crashes w consumer every keeps ids

-- the world after these events, in order
abbrev pub run : {F : Type 0} → List (Event F) → World F → World F
run [] w = w
run (e ∷ es) w = run es (happens w e)
