-- A schedule of the code that meets the premises: a worker is handed an entry, a crash comes in its commit, and a worker
-- is started that acknowledges the line first.
use Rattle.std.proofs.Common.{◌≡◌, refl, sym, ap, subst, ◌∙◌, ◌≤◌, ℕ, arith, true, List, [], ◌∷◌, ◌++◌, take, string_bytes}
use Rattle.std.proofs.Common.{codes, Option, Some}
use Rattle.std.specs.Fmt.{digits}
use Rattle.std.specs.Char.{encode_utf8}
use Rattle.std.specs.Str.{chars, is_utf8}
use Rattle.redis_connection.specs.Link.{Link}
use Rattle.redis_resp.specs.Tree.{Tree, array, bulk, trees}
use Rattle.redis_wire.specs.Reply as wire
use Rattle.model_server.specs.Group.Worker.{Entry, done, own_pending, begins_with}
use Rattle.model_server.specs.Group.Group.{ids_of}
use Rattle.model_server.specs.Group.World.{Read}
use Rattle.model_server.specs.Once.Consumer.{last_lines}
use Rattle.model_server.specs.Once.Law.{Fit, after}
use Rattle.model_server.specs.Once.World.{Setting, Event, Send, Arrive, Hear, Restart, Else}
use Rattle.stream_in_place.specs.SentReading.{sent_streams_reading}
use Rattle.model_workers.specs.Files.Files.{Fields}
use Rattle.worker.specs.Answers.{Heard, told, says, group_after, hears}
use Rattle.worker.specs.Gathered.{Doings, done_too, committed_too}
use Rattle.worker.specs.Life.{done_before}
use Rattle.worker.specs.Session.{Standing, Turn, Turned, standing_of, asking, having_heard, after_turn}
use Rattle.worker.specs.declared.state.Asked.{Asked}
use Rattle.worker.specs.declared.state.Asked.TheVariants as asked
use Rattle.worker.specs.declared.state.GroupState.{GroupState}
use Rattle.worker.specs.declared.state.GroupState.TheVariants.{Unknown}
use Rattle.worker.specs.declared.state.Settings.{Settings}
use Rattle.worker.specs.declared.worker.Progress.{Progress}
use Rattle.worker.specs.declared.worker.Worker.{Worker}
use Rattle.model_workers.specs.System.Rounds.{IsStarted}
use Rattle.model_workers.specs.System.Once.{comes, Meantime, IsHeard, reply_in, HearsTheAnswer, round_events, between, added_last}
use Rattle.model_workers.specs.System.Once.{file_left, StartsAt, restart_events, Runs, begins, waits, restarts}
use Rattle.model_workers.proofs.SystemLemmas.RoundLemmas.{as_parts}
use Rattle.model_workers.proofs.SystemLemmas.OnceLemmas.{rounds_run}

abbrev fields : Fields
fields = (codes "a", codes "b") ∷ []

abbrev entry : Entry Fields
entry = (codes "1-0", fields)

-- the producer adds one record
abbrev one : Setting Fields
one = record { records = fields ∷ []; base = 0; name = codes "ann" }

pub it_fits : Fit one
it_fits = omega arith

-- what the server sends: the stream `s` with the entry `1-0`
abbrev sent : Tree
sent = array (trees (array (trees (bulk (codes "s") ∷ array (trees (
    array (trees (bulk (codes "1-0") ∷ array (trees (bulk (codes "a") ∷ bulk (codes "b") ∷ [])) ∷ [])) ∷ [])) ∷ [])) ∷ []))

abbrev entry_told : Option Heard
entry_told = Some (told (own_pending ((codes "1-0", Some fields) ∷ [])))

it_says : says (codes "s") asked.First sent ≡ entry_told
unfolding sent_streams_reading chars is_utf8 encode_utf8
it_says = refl

-- where a worker is that was started with these ids, over a file of these entries
abbrev started_with : Settings → List (List ℕ) → List (Entry Fields) → Standing Doings
started_with settings ids es = record {
  machine = begins_with settings.every ids;
  group = Unknown;
  asked = asked.Nothing;
  history = done_before es;
}

module _ (settings : Settings) (key : string_bytes settings.key ≡ codes "s") where
  it_hears : hears settings asked.First (wire.value sent) ≡ entry_told
  it_hears = ap (λ k. says k asked.First sent) key ∙ it_says

  is_started : (ids : List (List ℕ)) (es : List (Entry Fields)) (w : Worker) → IsStarted settings ids w
      → standing_of w (done_before es) ≡ started_with settings ids es
  is_started ids es w s =
      as_parts (standing_of w (done_before es)) (started_with settings ids es) s.machine s.group s.asked refl

  -- the record is added, and a read of a broken connection hands it out
  abbrev earlier : List (Event Fields)
  earlier = Send 0 ∷ Arrive true ∷ Hear ∷ Send 1 ∷ Arrive true ∷ Hear ∷ Else (Read (codes "ann") 1) ∷ []

  abbrev before : List (Event Fields)
  before = (Restart settings.every 0 0 ∷ []) ++ earlier

  abbrev new_one : Standing Doings
  new_one = started_with settings [] []

  -- the worker requests its own pending entries, and the request arrives at the server
  abbrev asks_own : Meantime
  asks_own = record {
    earlier = [];
    fate = comes (λ id. true) (codes "0-0");
    later = [];
    earlier_others = tt;
    later_others = tt;
  }

  pub hears_it : HearsTheAnswer settings new_one asks_own one (after one before) (wire.value sent)
  unfolding digits
  hears_it = subst (λ (o : Option Heard). IsHeard (reply_in settings new_one asks_own one (after one before)) o)
      (sym it_hears) refl

  new_runs : (first : Worker) → IsStarted settings [] first → Runs one settings before new_one
  new_runs first s =
      waits settings (Restart settings.every 0 0 ∷ []) earlier new_one (tt, (tt, (tt, (tt, (tt, (tt, (tt, tt)))))))
      (subst (λ (v : Standing Doings). Runs one settings (Restart settings.every 0 0 ∷ []) v) (is_started [] [] first s)
      (begins settings first s))

  module _ (old new : Link) (x : Standing Doings) (q : Asked) (p : Progress)
      (t : Turned done_too committed_too settings old new new_one x q p)
      (turn : t.turn ≡ record { answer = wire.value sent; verdicts = done ∷ [] }) where
    abbrev one_round : List (Event Fields)
    one_round = before ++ round_events settings new_one asks_own t.turn.verdicts

    -- a round in which it gets this, and its handler does the entry
    round_runs : (first : Worker) → IsStarted settings [] first → Runs one settings one_round x
    round_runs first s =
        rounds_run one settings before old new new_one x q p asks_own t
        (subst (λ (u : Turn). HearsTheAnswer settings new_one asks_own one (after one before) u.answer) (sym turn) hears_it)
        (new_runs first s)

    one_is_loose : x.history ≡ record { loose = entry ∷ []; committed = [] }
    one_is_loose =
        let u : Standing Doings = asking committed_too settings new_one in
        let g : GroupState = group_after settings u.group u.asked (wire.value sent) in
        ap (λ (y : Standing Doings). y.history) t.stands
        ∙ (ap (λ (z : Turn). (after_turn done_too committed_too settings new_one z).history) turn
        ∙ ap (λ o. (having_heard done_too u g o (done ∷ [])).history) it_hears)

    -- the crash leaves the line of the commit that it cut off, and a worker is started that reads 10,000 lines back
    pub crash : (second : Worker) → IsStarted settings (codes "1-0" ∷ []) second
        → StartsAt one settings settings (after one one_round) x (standing_of second (done_before (file_left x 1))) between
    crash second s =
        let left : file_left x 1 ≡ entry ∷ [] = ap (λ (d : Doings). d.committed ++ take 1 d.loose) one_is_loose in
        record {
          kept = 1;
          number = 10000;
          worker = second;
          enough = subst (λ (d : Doings). added_last (after one one_round) (record x { history = d }) 1 ≤ 10000)
              (sym one_is_loose) (omega arith);
          started = subst (λ (es : List (Entry Fields)). IsStarted settings (ids_of (last_lines 10000 es)) second)
              (sym left) s;
          stands = refl;
        }

    -- it runs on, and its file has the entry
    pub crash_runs : (first second : Worker) → IsStarted settings [] first
        → (s : IsStarted settings (codes "1-0" ∷ []) second)
        → Runs one settings (one_round ++ restart_events one settings settings (after one one_round) x
        (standing_of second (done_before (file_left x 1))) between (crash second s))
        (standing_of second (done_before (file_left x 1)))
    crash_runs first second r s = restarts settings settings one_round x _ between (crash second s) (round_runs first r)

    pub file_has_it : file_left x 1 ≡ entry ∷ []
    file_has_it = ap (λ (d : Doings). d.committed ++ take 1 d.loose) one_is_loose
