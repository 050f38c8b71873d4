-- A schedule that meets the premises: a worker is handed an entry in a round that a replica confirms, the server fails over,
-- a crash comes in the commit, and the file has the entry. And what becomes of a round that no replica confirms.
use Rattle.std.proofs.Common.{◌≡◌, ◌<◌, refl, sym, ap, subst, ◌∙◌, ℕ, arith, true, Bool, List, [], ◌∷◌, ◌++◌, string_bytes}
use Rattle.std.proofs.Common.{codes, Option, Some, None}
use Rattle.std.specs.Fmt.{digits}
use Rattle.std.specs.Char.{encode_utf8}
use Rattle.std.specs.Str.{chars, is_utf8}
use Rattle.redis_connection.specs.Link.{Link}
use Rattle.redis_resp.specs.Tree.{Tree, array, bulk, trees}
use Rattle.redis_wire.specs.Reply as wire
use Rattle.model_server.specs.Failover.Law.{after}
use Rattle.model_server.specs.Failover.World.{Event, Plain, Arrive_waits, Failover, run, first_world}
use Rattle.redis_connection.specs.declared.wait.Wait.{Wait}
use Rattle.model_workers.specs.Files.Files.{Fields}
use Rattle.model_server.specs.Group.Worker.{Entry, done, own_pending, begins_with}
use Rattle.model_server.specs.Group.World.{Read}
use Rattle.stream_in_place.specs.SentReading.{sent_streams_reading}
use Rattle.model_server.specs.Once.World.{Setting, Send, Hear, Take, Restart, Else}
use Rattle.model_workers.specs.System.Once.{IsHeard}
use Rattle.model_workers.specs.System.Rounds.{IsStarted}
use Rattle.model_workers.proofs.SystemLemmas.RoundLemmas.{as_parts}
use Rattle.worker.specs.Answers.{Heard, told, says, hears}
use Rattle.worker.specs.Gathered.{Doings}
use Rattle.worker.specs.Session.{Standing, Turn, standing_of}
use Rattle.worker.specs.declared.state.Asked.{Asked}
use Rattle.worker.specs.declared.state.Asked.TheVariants as asked
use Rattle.worker.specs.declared.state.GroupState.TheVariants.{Unknown}
use Rattle.worker.specs.declared.state.Settings.{Settings}
use Rattle.worker.specs.declared.worker.Progress.{Progress}
use Rattle.worker.specs.declared.worker.Worker.{Worker}
use Rattle.model_workers.specs.Failover.Keeps.{keeps_entries}
use Rattle.model_workers.specs.Failover.Rounds.{comes, Meantime, HearsTheReply, until_replied, IsRound, between, file_left}
use Rattle.model_workers.specs.Failover.Schedule.{Runs, begins, rests, turns, round_events, consumer_at}

abbrev fields : Fields
fields = (codes "a", codes "b") ∷ []

abbrev entry : Entry Fields
entry = (codes "1-0", fields)

-- the producer adds one record
abbrev one : Setting Fields
one = record { records = fields ∷ []; base = 0; name = codes "ann" }

-- what the server sends: the stream `s` with the entry `1-0`
abbrev sent : Tree
sent = array (trees (array (trees (bulk (codes "s") ∷ array (trees (
    array (trees (bulk (codes "1-0") ∷ array (trees (bulk (codes "a") ∷ bulk (codes "b") ∷ [])) ∷ [])) ∷ [])) ∷ [])) ∷ []))

abbrev entry_told : Option Heard
entry_told = Some (told (own_pending ((codes "1-0", Some fields) ∷ [])))

it_says : says (codes "s") asked.First sent ≡ entry_told
unfolding sent_streams_reading chars is_utf8 encode_utf8
it_says = refl

-- where a worker is that was started over an empty file
abbrev new_one : Settings → Standing Doings
new_one settings = record {
  machine = begins_with settings.every [];
  group = Unknown;
  asked = asked.Nothing;
  history = record { loose = []; committed = [] };
}

-- the record is added, and a read of a broken connection hands it out
abbrev earlier : List (Event Fields)
earlier = Plain (Send 0) ∷ Arrive_waits true 1 1 ∷ Plain Hear ∷ Plain (Send 1) ∷ Arrive_waits true 1 1 ∷ Plain Hear ∷
    Plain (Else (Read (codes "ann") 1)) ∷ []

-- the worker requests its own pending entries, the request arrives, and this number of replicas confirm it
abbrev asks_own : {calm : Bool} → ℕ → Meantime calm
asks_own said = record {
  before = [];
  earlier = [];
  fate = comes (λ id. true) (codes "0-0") said;
  later = [];
  before_besides = tt;
  earlier_besides = tt;
  later_besides = tt;
}

pub some : 0 < 1
some = omega arith

-- one replica is waited for
abbrev wait : Wait
wait = record { replicas = 1; milliseconds = 1; some = some }

module _ (settings : Settings) (key : string_bytes settings.key ≡ codes "s") where
  it_hears : hears settings asked.First (wire.value sent) ≡ entry_told
  it_hears = ap (λ k. says k asked.First sent) key ∙ it_says

  abbrev events : List (Event Fields)
  events = (Plain (Restart settings.every 0 0) ∷ []) ++ earlier

  abbrev until : {calm : Bool} → Meantime calm → List (Event Fields)
  until m = until_replied keeps_entries (Some wait) settings (new_one settings) m

  -- if a replica confirms, the reply is on the way
  pub hears_it : HearsTheReply keeps_entries (Some wait) settings (new_one settings) (asks_own {calm = true} 1) one
      (after one events) (wire.value sent)
  unfolding digits
  hears_it = subst (λ (o : Option Heard). IsHeard (run one (until (asks_own {calm = true} 1)) (after one events)).now.consumer.answer o)
      (sym it_hears) refl

  -- if none does, no reply is on the way: a worker that takes it all the same is not that of the model
  pub none_is_there : HearsTheReply keeps_entries (Some wait) settings (new_one settings) (asks_own {calm = true} 0) one
      (after one events) (wire.value sent) → ⊥
  unfolding digits
  none_is_there h = absurd (none (subst (λ (o : Option Heard). IsHeard
      (run one (until (asks_own {calm = true} 0)) (after one events)).now.consumer.answer o) it_hears h))
    where
      none : {A : Type 0} {a : A} → None ≡ Some a → ⊥
      none e = cc e

  new_runs : (first : Worker) → IsStarted settings [] first
      → Runs keeps_entries one (Some wait) settings events (new_one settings)
  new_runs first s =
      rests settings (Plain (Restart settings.every 0 0) ∷ []) earlier (new_one settings)
      (tt, (tt, (tt, (tt, (tt, (tt, (tt, tt)))))))
      (subst (λ (v : Standing Doings). Runs keeps_entries one (Some wait) settings (Plain (Restart settings.every 0 0) ∷ []) v)
      (as_parts (standing_of first (record { loose = []; committed = [] })) (new_one settings) s.machine s.group s.asked refl)
      (begins settings first s))

  module _ (old new : Link) (x : Standing Doings) (q : Asked) (p : Progress)
      (r : IsRound keeps_entries settings (new_one settings) x (Some wait) old new q p)
      (turn : r.turned.turn ≡ record { answer = wire.value sent; verdicts = done ∷ [] }) (said : r.confirmed.0 ≡ 1) where
    abbrev one_round : List (Event Fields)
    one_round = events ++ round_events keeps_entries one (Some wait) settings old new (new_one settings) x q p (asks_own 1) r

    -- a round in which it gets this, and its handler does the entry
    pub round_runs : (first : Worker) → IsStarted settings [] first
        → Runs keeps_entries one (Some wait) settings one_round x
    round_runs first s =
        turns settings events old new (new_one settings) x q p (asks_own 1) r
        (record {
          reply = subst (λ (t : Turn). HearsTheReply keeps_entries (Some wait) settings (new_one settings)
              (asks_own {calm = true} 1) one (after one events) t.answer) (sym turn) hears_it;
          heard = sym said;
        })
        (new_runs first s)

    -- the server fails over, and a crash comes, which leaves the line of the commit that it cut off
    pub file_has_it : file_left (consumer_at keeps_entries one (Some wait) settings x
        (between (Failover 0 ∷ []) (refl, tt)) (after one one_round)) 1 ≡ entry ∷ []
    unfolding digits
    file_has_it = subst (λ (t : Turn). file_left (run one (Failover 0 ∷ []) (run one (events
        ++ (until (asks_own {calm = true} 1) ++ Plain (Take t.verdicts) ∷ [])) first_world)).now.consumer 1 ≡ entry ∷ [])
        (sym turn) refl
