-- What a reply changes in a worker.
use Rattle.std.specs.Prelude.{◌≡◌, ◌≢◌, ◌⊎◌, ℕ, true, false, List, Some, None, string_bytes}
use Rattle.redis_resp.specs.Number.{unsigned_reading}
use Rattle.redis_resp.specs.Refusal.{Refuses, RefusesNumber}
use Rattle.redis_resp.specs.Tree.{Tree}
use Rattle.redis_resp.specs.declared.value.error.ParsingError.{ParsingError}
use Rattle.redis_wire.specs.Reply as wire
use Rattle.model_server.specs.Group.Worker.{Verdict, Machine, Answer, Ending, cut_off, ending, entries_in, told_in, after}
use Rattle.model_server.specs.Group.Worker.{begins_again}
use Rattle.stream_in_place.specs.Sent.{Pairs, SentAutoClaim, SentEntry}
use Rattle.stream_in_place.specs.SentReading.{sent_autoclaim_reading, sent_streams_reading}
use Rattle.stream_in_place.specs.SentRefusal.{RefusesSentAutoClaim, RefusesSentStreams}
use Rattle.worker.specs.Answers.{Heard, told, no_group, group_made, hears, is_gone, entries_read, first_nil}
use Rattle.worker.specs.Handling.{with_all}
use Rattle.worker.specs.Machine.{ending_of}
use Rattle.worker.specs.declared.error.WorkerError.{WorkerError}
use Rattle.worker.specs.declared.error.WorkerError.TheVariants as causes
use Rattle.worker.specs.declared.state.Asked.{Asked}
use Rattle.worker.specs.declared.state.Asked.TheVariants as asked
use Rattle.worker.specs.declared.state.Settings.{Settings}
use Rattle.worker.specs.declared.worker.Progress.{Progress}
use Rattle.worker.specs.declared.worker.Progress.TheVariants.{GoesOn}

-- decoding the value `t` as a reply to the command may fail with `error`
abbrev pub MayRefuse : Asked → Tree → ParsingError → Type 0
MayRefuse asked.Nothing t error = ⊥
MayRefuse asked.Acknowledgement t error = Refuses (unsigned_reading 64) RefusesNumber t error
MayRefuse asked.Group t error = ⊥
MayRefuse asked.First t error = Refuses sent_streams_reading RefusesSentStreams t error
MayRefuse asked.Own t error = Refuses sent_streams_reading RefusesSentStreams t error
MayRefuse asked.Claim t error = Refuses sent_autoclaim_reading RefusesSentAutoClaim t error
MayRefuse asked.New t error = Refuses sent_streams_reading RefusesSentStreams t error

-- `id` is the id of the first entry with nil in place of its fields, in a claim or among new entries. Servers
-- send no nil for deleted entries in these replies
abbrev pub HasNil : List ℕ → Asked → Tree → List ℕ → Type 0
HasNil key asked.Nothing t id = ⊥
HasNil key asked.Acknowledgement t id = ⊥
HasNil key asked.Group t id = ⊥
HasNil key asked.First t id = ⊥
HasNil key asked.Own t id = ⊥
HasNil key asked.Claim t id =
    (c : SentAutoClaim) × (sent_autoclaim_reading t ≡ Some c) × (first_nil c.claimed ≡ Some id)
HasNil key asked.New t id = (es : List SentEntry) × (entries_read key t ≡ Some es) × (first_nil es ≡ Some id)

module _ {R : Type 0} (with_verdict : R → List ℕ × Pairs → Verdict → R) where
  -- the machine took the reply, and the handler returned `verdicts` for its entries. `how` says how the entries
  -- ended
  pub record Took (answer : Answer Pairs) (m n : Machine) (r s : R) (how : Ending) : Type 0 where
    pub verdicts : List Verdict
    pub machine : n ≡ after m answer verdicts
    pub history : s ≡ with_all with_verdict r (told_in (entries_in answer) verdicts)
    pub ended : how ≡ ending (entries_in answer) verdicts

  -- the worker took a reply, by its meaning
  abbrev pub GoesBy : Heard → Machine → Machine → R → R → Progress → Type 0
  GoesBy (told answer) m n r s p = Took answer m n r s (ending_of p)
  GoesBy no_group m n r s p = (n ≡ m) × (s ≡ r) × (p ≡ GoesOn)
  GoesBy group_made m n r s p = (n ≡ m) × (s ≡ r) × (p ≡ GoesOn)

  pub record Went (settings : Settings) (question : Asked) (a : wire.Answer) (m n : Machine) (r s : R)
      (p : Progress) : Type 0 where
    pub heard : Heard
    pub said : hears settings question a ≡ Some heard
    pub goes : GoesBy heard m n r s p

  -- the handler returned verdicts for the first entries, and then memory ran out
  pub record WasCut (settings : Settings) (question : Asked) (t : Tree) (m n : Machine) (r s : R) : Type 0 where
    pub answer : Answer Pairs
    pub said : hears settings question (wire.value t) ≡ Some (told answer)
    pub took : Took answer m n r s cut_off

  -- the reply belongs to no command: it is an aggregate with an error in it, or a push message
  abbrev pub IsNoAnswer : wire.Answer → Type 0
  IsNoAnswer (wire.value t) = ⊥
  IsNoAnswer (wire.refused text) = ⊥
  IsNoAnswer (wire.group kind members) = Unit {0}
  IsNoAnswer (wire.pushed kind payload) = Unit {0}

  -- why a worker did not take the reply `a`, and the state of the worker after that
  abbrev pub Failed : Settings → Asked → wire.Answer → Machine → Machine → R → R → WorkerError → Type 0
  Failed settings question a m n r s causes.NotAsked = (question ≡ asked.Nothing) × (n ≡ m) × (s ≡ r)
  Failed settings question a m n r s (causes.Server e) =
      (question ≢ asked.Nothing) × (a ≡ wire.refused e.text.items) × (is_gone question e.text.items ≡ false)
      × (hears settings question a ≡ None) × (n ≡ m) × (s ≡ r)
  Failed settings question a m n r s (causes.GroupIsGone e) =
      (a ≡ wire.refused e.text.items) × (is_gone question e.text.items ≡ true) × (hears settings question a ≡ None)
      × (n ≡ m) × (s ≡ r)
  Failed settings question a m n r s causes.NotAnAnswer =
      IsNoAnswer a × (hears settings question a ≡ None) × (n ≡ m) × (s ≡ r)
  Failed settings question a m n r s (causes.Parsing e) =
      ((t : Tree) × (a ≡ wire.value t) × MayRefuse question t e) × (hears settings question a ≡ None)
      × (n ≡ begins_again m) × (s ≡ r)
  Failed settings question a m n r s causes.OtherStream =
      ((t : Tree) × (a ≡ wire.value t) × (entries_read (string_bytes settings.key) t ≡ None)
      × (sent_streams_reading t ≢ None)) × (hears settings question a ≡ None)
      × (n ≡ begins_again m) × (s ≡ r)
  Failed settings question a m n r s (causes.NilFields id) =
      ((t : Tree) × (a ≡ wire.value t) × HasNil (string_bytes settings.key) question t (string_bytes id))
      × (hears settings question a ≡ None) × (n ≡ begins_again m) × (s ≡ r)
  Failed settings question a m n r s causes.Memory =
      (t : Tree) × (a ≡ wire.value t) × (((n ≡ begins_again m) × (s ≡ r)) ⊎ WasCut settings question t m n r s)
