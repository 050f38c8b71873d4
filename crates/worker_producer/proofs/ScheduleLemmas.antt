-- The rounds, breaks and starts of a producer's code are events of `model_server::once`.
use Rattle.std.proofs.Common.{◌≡◌, ◌+◌, ◌<◌, ◌≤◌, refl, sym, ap, subst, ◌∙◌, arith, true, false, ℕ, zero, suc, List, [], ◌∷◌, ◌++◌}
use Rattle.std.proofs.Common.{length, take, drop, append_assoc, append-nil, Option, Some, None}
use Rattle.std.proofs.lemmas.List.{length-append, length-map}
use Rattle.std.proofs.lemmas.Option.{none-some}
use Rattle.std.specs.Prelude.{Bool, if◌then◌else◌}
use Rattle.std.specs.Option.{is_none}
use Rattle.redis_connection.specs.Link.{Link}
use Rattle.redis_wire.specs.Reply as wire
use Rattle.model_server.specs.Once.Consumer.{is_idle}
use Rattle.model_server.specs.Once.Feed as feed
use Rattle.model_server.specs.Once.Feed.{Numbered, Request, Answer, numbered, as_entry, entries, request, requested, learns, known_in}
use Rattle.model_server.specs.Once.Feed.{ask_last, batch, asking, knows, waits}
use Rattle.model_server.specs.Once.Law.{log, after}
use Rattle.model_server.specs.Once.Producer.{Producer, hears, arrived, answer_to}
use Rattle.model_server.specs.Once.World.{Setting, World, Event, Send, Arrive, Arrive_late, Hear, Break, Ask, Take, Sync}
use Rattle.model_server.specs.Once.World.{Acknowledge_now, Acknowledge_later, Reconnect, Restart, Else, first_world, happens}
use Rattle.model_server.specs.Once.World.{run, asked, acknowledges}
use Rattle.model_server.proofs.OnceLemmas.Fill.{log_is_first_records, known_is_in, done_is_all}
use Rattle.model_server.proofs.OnceLemmas.Write.{log_has_each_once}
use Rattle.worker_producer.specs.Learnt.{TookAt, Learns}
use Rattle.worker_producer.specs.Machine.{Standing, idle, next_batch, asks_of, stands_at, bytes_of}
use Rattle.worker_producer.specs.Records.{Fields}
use Rattle.worker_producer.specs.Session.{Hears}
use Rattle.worker_producer.specs.Step.{on_the_way}
use Rattle.worker_producer.specs.declared.error.RunError.TheVariants as causes
use Rattle.worker_producer.specs.declared.settings.Settings.{Settings}
use Rattle.worker_producer.specs.declared.stage.Asked.TheVariants as asks
use Rattle.worker_producer.specs.Schedule.{IsProducer, IsOfOthers, AreOfOthers, Fate, comes, comes_not, Meantime, arrival}
use Rattle.worker_producer.specs.Schedule.{until_replied, round_events, IsHeard, heard_last}
use Rattle.worker_producer.specs.Schedule.{RoundsAreEvents, sent_bytes, RoundsSendIt, ToldRecordsAreSent, break_events}
use Rattle.worker_producer.specs.Schedule.{BreaksAreEvents, events_until, start_events, StartsAreEvents}
use Rattle.worker_producer.specs.Schedule.{Runs, begins, rests, turns, breaks_off, starts, RunsAreEvents, session_events}
use Rattle.worker_producer.specs.Schedule.{SessionsRun, BrokenSessionsRun, CodeAddsFirstRecords, CodeAddsOnce}
use Rattle.worker_producer.specs.Schedule.{CodeKnowsWhatIsIn, AskingNothingIsAll, FinishedIsAll}
use Rattle.worker_producer.proofs.RequestLemmas.{numbered_length}
use Rattle.worker_producer.proofs.SessionLemmas.{IsAtRest, fewer, sent_at, round_rest, nothing_asked, none_behind}
use Rattle.worker_producer.proofs.StepLemmas.{sends_then, stands_as, asks_as}

-- the producer of the model with this stage, this on the way to the server and this on the way back
pub record Is (st : feed.Stage) (o : Option (Request Fields)) (a : Option Answer) (p : Producer Fields) : Type 0 where
  pub stage : p.stage ≡ st
  pub sent : p.sent ≡ o
  pub answer : p.answer ≡ a

module _ (setting : Setting Fields) where
  run_on : (es more : List (Event Fields)) (w : World Fields)
      → run setting (es ++ more) w ≡ run setting more (run setting es w)
  run_on [] more w = refl
  run_on (e ∷ es) more w = run_on es more (happens setting w e)

  -- ---- events of others

  module _ (st : feed.Stage) (o : Option (Request Fields)) (a : Option Answer) where
    whichever : (b : Bool) (u v : World Fields) → Is st o a u.producer → Is st o a v.producer
        → Is st o a (if b then u else v).producer
    whichever true u v h k = h
    whichever false u v h k = k

    pub else_keeps : (w : World Fields) (e : Event Fields) → IsOfOthers e → Is st o a w.producer
        → Is st o a (happens setting w e).producer
    else_keeps w (Send n) h i = absurd h
    else_keeps w (Arrive b) h i = absurd h
    else_keeps w (Arrive_late k b) h i = record { stage = i.stage; sent = i.sent; answer = i.answer }
    else_keeps w Hear h i = absurd h
    else_keeps w Break h i = absurd h
    else_keeps w (Ask n pick next) h i =
        whichever (is_idle w.consumer) (asked setting.name n pick next w) w i i
    else_keeps w (Take vs) h i = i
    else_keeps w Sync h i = i
    else_keeps w Acknowledge_now h i =
        whichever (is_none w.consumer.answer) (acknowledges setting.name w) w i i
    else_keeps w Acknowledge_later h i = i
    else_keeps w Reconnect h i = i
    else_keeps w (Restart every kept more) h i = i
    else_keeps w (Else e) h i = i

    all_keep : (es : List (Event Fields)) (w : World Fields) → AreOfOthers es → Is st o a w.producer
        → Is st o a (run setting es w).producer
    all_keep [] w h i = i
    all_keep (e ∷ es) w h i = all_keep es (happens setting w e) h.1 (else_keeps w e h.0 i)

  -- ---- a request

  pub sends_it : (s : Settings) → setting.base ≡ s.base → (w : World Fields) (st : feed.Stage) → Is st None None w.producer
      → Is (stands_at st (next_batch s setting.records st)).stage
      (on_the_way (asks_of st (next_batch s setting.records st)) (next_batch s setting.records st)) None
      (happens setting w (Send s.batch)).producer
  sends_it s base w st i =
      let p : Producer Fields = w.producer in
      let all : List (Numbered Fields) = numbered setting.base setting.records in
      let does = sends_then s.batch all p i.sent i.answer in record {
        stage = ap (λ (q : Producer Fields). q.stage) does ∙ (ap (λ (u : feed.Stage). requested s.batch all u) i.stage
            ∙ stands_as s setting.records setting.base base st);
        sent = ap (λ (q : Producer Fields). q.sent) does ∙ (ap (λ (u : feed.Stage). request s.batch all u) i.stage
            ∙ asks_as s setting.records setting.base base st);
        answer = ap (λ (q : Producer Fields). q.answer) does ∙ i.answer;
      }

  -- once the fate of the commands is known: if a reply is on the way back, no command is on the way; and neither is if
  -- nothing was sent
  pub record Answered (st : feed.Stage) (o : Option (Request Fields)) (p : Producer Fields) : Type 0 where
    pub stage : p.stage ≡ st
    pub some : (x : Answer) → p.answer ≡ Some x → p.sent ≡ None
    pub none : o ≡ None → Is st None None p

  pub arrives : (st : feed.Stage) (o : Option (Request Fields)) (fate : Fate) (w : World Fields) → Is st o None w.producer
      → Answered st o (run setting (arrival fate) w).producer
  arrives st None (comes b) w i =
      let same : arrived b w.stream w.producer.sent w.producer ≡ w.producer =
      ap (λ (r : Option (Request Fields)). arrived b w.stream r w.producer) i.sent in
      subst (λ (p : Producer Fields). Answered st None p) (sym same)
      (record { stage = i.stage; some = λ x e. i.sent; none = λ e. i })
  arrives st (Some r) (comes b) w i =
      let same : arrived b w.stream w.producer.sent w.producer
      ≡ record w.producer { sent = None; answer = Some (answer_to b w.stream r) } =
      ap (λ (q : Option (Request Fields)). arrived b w.stream q w.producer) i.sent in
      subst (λ (p : Producer Fields). Answered st (Some r) p) (sym same)
      (record { stage = i.stage; some = λ x e. refl; none = λ e. absurd (none-some r (sym e)) })
  arrives st o comes_not w i = record {
    stage = i.stage;
    some = λ x e. absurd (none-some x (sym i.answer ∙ e));
    none = λ e. record { stage = i.stage; sent = i.sent ∙ e; answer = i.answer };
  }

  -- others leave it so
  still_answered : (st : feed.Stage) (o : Option (Request Fields)) (es : List (Event Fields)) (w : World Fields)
      → AreOfOthers es → Answered st o w.producer → Answered st o (run setting es w).producer
  still_answered st o es w h q =
      let p : Producer Fields = w.producer in
      let k = all_keep p.stage p.sent p.answer es w h (record { stage = refl; sent = refl; answer = refl }) in record {
        stage = k.stage ∙ q.stage;
        some = λ x e. k.sent ∙ q.some x (sym k.answer ∙ e);
        none = λ e.
            let n = q.none e in
            record { stage = k.stage ∙ n.stage; sent = k.sent ∙ n.sent; answer = k.answer ∙ n.answer };
      }

  -- as the last reply is there
  replied : (s : Settings) → setting.base ≡ s.base → (m : Meantime) (st : feed.Stage) (w : World Fields)
      → Is st None None w.producer
      → Answered (stands_at st (next_batch s setting.records st)).stage
      (on_the_way (asks_of st (next_batch s setting.records st)) (next_batch s setting.records st))
      (run setting (until_replied s m) w).producer
  replied s base m st w i =
      let b : List (Numbered Fields) = next_batch s setting.records st in
      let next : feed.Stage = (stands_at st b).stage in
      let o : Option (Request Fields) = on_the_way (asks_of st b) b in
      let sent : World Fields = happens setting w (Send s.batch) in
      let before : World Fields = run setting m.earlier sent in
      let there : World Fields = run setting (arrival m.fate) before in
      let same : run setting (until_replied s m) w ≡ run setting m.later there =
      run_on m.earlier (arrival m.fate ++ m.later) sent ∙ run_on (arrival m.fate) m.later before in
      subst (λ (z : World Fields). Answered next o z.producer) (sym same)
      (still_answered next o m.later there m.later_others
      (arrives next o m.fate before (all_keep next o None m.earlier sent m.earlier_others (sends_it s base w st i))))

-- ---- the last reply

module _ (base count : ℕ) where
  took_last : (k : ℕ) (z x : Standing) (a : wire.Answer) → k ≡ 1 → TookAt k base count z x a
      → Learns base count z.stage x.stage a × (x.coming ≡ 0)
  took_last zero z x a one t = absurd t
  took_last (suc zero) z x a one t = t
  took_last (suc (suc k)) z x a one t = absurd (omega (arith, one))

  took_queued : (k : ℕ) (z x : Standing) (a : wire.Answer) → 0 < x.coming → TookAt k base count z x a
      → (0 < k) × (x.stage ≡ z.stage)
  took_queued zero z x a more t = absurd t
  took_queued (suc zero) z x a more t = absurd (omega (arith, more, t.1))
  took_queued (suc (suc k)) z x a more t = (omega arith, ap (λ (y : Standing). y.stage) t.1)

  -- while more are to come it waits for the same
  queued : (n : ℕ) (old new : Link) (y x : Standing) → Hears base count n old new y x → 0 < x.coming → x.stage ≡ y.stage
  queued zero old new y x h more = ap (λ (z : Standing). z.stage) h.1
  queued (suc n) old new y x h more =
      let q = took_queued h.1.coming h.1 x h.2 more h.5 in
      q.1 ∙ queued n old h.0 y h.1 h.3 q.0

  -- it receives the reply that is on its way
  pub heard_it : (setting : Setting Fields) (n : ℕ) (old new : Link) (y x : Standing) (h : Hears base count n old new y x)
      → n ≡ y.coming → (o : Option (Request Fields)) → (y.coming ≡ 0 → o ≡ None) → (p : Producer Fields)
      → Answered setting y.stage o p → IsHeard p.answer (heard_last base count n old new y x h)
      → IsProducer x (hears base p.answer p)
  heard_it setting zero old new y x h all o quiet p q e =
      let i = q.none (quiet (sym all)) in
      let same : hears base p.answer p ≡ p = ap (λ (a : Option Answer). hears base a p) i.answer in
      subst (λ (r : Producer Fields). IsProducer x r) (sym same) (record {
        stage = i.stage ∙ ap (λ (z : Standing). z.stage) (sym h.1);
        coming = ap (λ (z : Standing). z.coming) h.1 ∙ sym all;
        sent = i.sent;
        answer = i.answer;
      })
  heard_it setting (suc n) old new y x h all o quiet p q e =
      let z : Standing = h.1 in
      let left : z.coming + n ≡ y.coming = fewer n base count old h.0 y z h.3 in
      let one : z.coming ≡ 1 = omega (arith, left, all) in
      let t = took_last z.coming z x h.2 one h.5 in
      let l = t.0 in
      let waited : z.stage ≡ y.stage = queued n old h.0 y z h.3 (omega (arith, one)) in
      let there : p.answer ≡ Some l.hears = subst (λ (a : Option Answer). IsHeard p.answer a) l.is e in
      let same : hears base p.answer p ≡ record p { stage = learns base p.stage l.hears; answer = None } =
      ap (λ (a : Option Answer). hears base a p) there in
      subst (λ (r : Producer Fields). IsProducer x r) (sym same) (record {
        stage = ap (λ (u : feed.Stage). learns base u l.hears) (q.stage ∙ sym waited) ∙ sym l.knows;
        coming = t.1;
        sent = q.some l.hears there;
        answer = refl;
      })

pub nothing_sent : (st : feed.Stage) (b : List (Numbered Fields)) → (stands_at st b).coming ≡ 0
    → on_the_way (asks_of st b) b ≡ None
nothing_sent asking b none = absurd (omega (arith, none))
nothing_sent (knows m) [] none = refl
nothing_sent (knows m) (r ∷ rs) none = absurd (omega (arith, none))
nothing_sent (waits m n) b none = refl

pub as_is : (v : Standing) (p : Producer Fields) → IsProducer v p → Is v.stage None None p
as_is v p i = record { stage = i.stage; sent = i.sent; answer = i.answer }

-- ---- a round

pub rounds_are_events : RoundsAreEvents
rounds_are_events setting s known count old new v x a m w r i h =
    let first = h.0 in
    let b : List (Numbered Fields) = next_batch s setting.records v.stage in
    let o : Option (Request Fields) = on_the_way (asks_of v.stage b) b in
    let sent = sent_at v.coming s r.asks.0 [] r.bytes v r.standing a i.coming r.asks.2 in
    let stands : r.standing ≡ stands_at v.stage b =
    sent.stands ∙ ap (λ (c : List (Numbered Fields)). stands_at v.stage c) first.batch in
    let there : World Fields = run setting (until_replied s m) w in
    let q : Answered setting r.standing.stage o there.producer =
    subst (λ (y : Standing). Answered setting y.stage o there.producer) (sym stands)
    (replied setting s first.base m v.stage w (as_is v w.producer i)) in
    let quiet : r.standing.coming ≡ 0 → o ≡ None =
    λ none. nothing_sent v.stage b (ap (λ (y : Standing). y.coming) (sym stands) ∙ none) in
    subst (λ (z : World Fields). IsProducer x z.producer) (sym (run_on setting (until_replied s m) (Hear ∷ []) w))
    (subst (λ (k : ℕ). IsProducer x (hears k there.producer.answer there.producer)) (sym first.base)
    (heard_it s.base count setting r.standing.coming r.link new r.standing x r.hears refl o quiet there.producer q h.1))

sent_are : (s : Settings) (st : feed.Stage) (b : List (Numbered Fields))
    → bytes_of s st b ≡ sent_bytes s (on_the_way (asks_of st b) b)
sent_are s asking b = refl
sent_are s (knows m) [] = refl
sent_are s (knows m) (r ∷ rs) = refl
sent_are s (waits m n) b = refl

pub rounds_send_it : RoundsSendIt
rounds_send_it setting s known bytes v y a w q i first =
    let b : List (Numbered Fields) = next_batch s setting.records v.stage in
    let sent = sent_at v.coming s q.0 [] bytes v y a i.coming q.2 in
    let does = sends_it setting s first.base w v.stage (as_is v w.producer i) in
    sent.bytes ∙ (ap (λ (c : List (Numbered Fields)). bytes_of s v.stage c) first.batch
    ∙ (sent_are s v.stage b ∙ ap (λ (o : Option (Request Fields)). sent_bytes s o) (sym does.sent)))

pub told_records_are_sent : ToldRecordsAreSent
told_records_are_sent setting s out more v y a q base =
    record { base = base; batch = ap (λ (all : List Fields). next_batch s all v.stage) q.1 }

-- ---- a round that breaks off, and a start

broken : (setting : Setting Fields) (es : List (Event Fields)) (w : World Fields)
    → IsProducer idle (run setting (es ++ Break ∷ []) w).producer
broken setting es w =
    subst (λ (z : World Fields). IsProducer idle z.producer) (sym (run_on setting es (Break ∷ []) w))
    (record { stage = refl; coming = refl; sent = refl; answer = refl })

pub breaks_are_events : BreaksAreEvents
breaks_are_events setting s known count old new v (causes.Request e) m w b i h = broken setting [] w
breaks_are_events setting s known count old new v (causes.Send e) m w b i h = broken setting (until_replied s m) w
breaks_are_events setting s known count old new v (causes.Receive e) m w b i h = broken setting (until_replied s m) w
breaks_are_events setting s known count old new v (causes.Answer e) m w b i h = broken setting (until_replied s m) w

pub starts_are_events : StartsAreEvents
starts_are_events setting s v moment w i = broken setting (events_until s moment) w

-- ---- a schedule

pub runs_are_events : RunsAreEvents
runs_are_events setting s events x (begins k) = record { stage = refl; coming = refl; sent = refl; answer = refl }
runs_are_events setting s events x (rests k before others v h r) =
    let i = runs_are_events setting k before v r in
    let kept = all_keep setting v.stage None None others (after setting before) h (as_is v (after setting before).producer i) in
    subst (λ (z : World Fields). IsProducer v z.producer) (sym (run_on setting before others first_world))
    (record { stage = kept.stage; coming = i.coming; sent = kept.sent; answer = kept.answer })
runs_are_events setting s events x (turns k before known count old new v y a m t h r) =
    subst (λ (z : World Fields). IsProducer y z.producer) (sym (run_on setting before (round_events k m) first_world))
    (rounds_are_events setting k known count old new v y a m (after setting before) t (runs_are_events setting k before v r) h)
runs_are_events setting s events x (breaks_off k before known count old new v e m b h r) =
    subst (λ (z : World Fields). IsProducer idle z.producer) (sym (run_on setting before (break_events k m e) first_world))
    (breaks_are_events setting k known count old new v e m (after setting before) b (runs_are_events setting k before v r) h)
runs_are_events setting s events x (starts k l before v moment r) =
    subst (λ (z : World Fields). IsProducer idle z.producer) (sym (run_on setting before (start_events k moment) first_world))
    (starts_are_events setting k v moment (after setting before) (runs_are_events setting k before v r))

pub sessions_run : SessionsRun
sessions_run setting s known count ms events zero old new v x r each before =
    subst (λ (es : List (Event Fields)). Runs setting s es x) (sym (append-nil events))
    (subst (λ (y : Standing). Runs setting s events y) (sym r.1) before)
sessions_run setting s known count ms events (suc n) old new v x r each before =
    let one : List (Event Fields) = session_events s ms n in
    subst (λ (es : List (Event Fields)). Runs setting s es x) (append_assoc events one (round_events s (ms n)))
    (turns s (events ++ one) known count r.0 new r.1 x r.2 (ms n) r.4 each.1
    (sessions_run setting s known count ms events n old r.0 v r.1 r.3 each.0 before))

pub broken_sessions_run : BrokenSessionsRun
broken_sessions_run setting s known count ms events old new e b each last before =
    breaks_off s (events ++ session_events s ms b.count_of) known count b.link new b.standing e (ms b.count_of) b.breaks last
    (sessions_run setting s known count ms events b.count_of old b.link idle b.standing b.rounds each before)

-- ---- what holds after each schedule

-- between rounds it waits for nothing
runs_rest : (setting : Setting Fields) (s : Settings) (events : List (Event Fields)) (x : Standing)
    → Runs setting s events x → IsAtRest x
runs_rest setting s events x (begins k) = (refl, tt)
runs_rest setting s events x (rests k before others v h r) = runs_rest setting k before v r
runs_rest setting s events x (turns k before known count old new v y a m t h r) =
    round_rest k known count old new v y a (runs_rest setting k before v r) t
runs_rest setting s events x (breaks_off k before known count old new v e m b h r) = (refl, tt)
runs_rest setting s events x (starts k l before v moment r) = (refl, tt)

pub code_adds_first_records : CodeAddsFirstRecords
code_adds_first_records setting fit s events x r alone = log_is_first_records setting fit events alone

pub code_adds_once : CodeAddsOnce
code_adds_once setting s events x r = log_has_each_once setting events

pub code_knows_what_is_in : CodeKnowsWhatIsIn
code_knows_what_is_in setting fit s events x r alone =
    subst (λ (st : feed.Stage). known_in st ≤ length (log (after setting events)))
    (runs_are_events setting s events x r).stage (known_is_in setting fit events alone)

entries_length : (base : ℕ) (records : List Fields) → length (entries base records) ≡ length records
entries_length base records = length-map (numbered base records) as_entry ∙ numbered_length base records

pub asking_nothing_is_all : AskingNothingIsAll
asking_nothing_is_all setting fit s some events known count old new v x r first runs alone =
    let w : World Fields = after setting events in
    let rest = runs_rest setting s events v runs in
    let i = runs_are_events setting s events v runs in
    let sent = sent_at v.coming s r.asks.0 [] r.bytes v r.standing asks.Nothing rest.0 r.asks.2 in
    let q = nothing_asked v.stage (next_batch s r.asks.0 v.stage) sent.asks rest.1 in
    let knows_it : v.stage ≡ knows q.0 = q.1 in
    let none : take s.batch (drop q.0 (numbered s.base setting.records)) ≡ [] =
    ap (λ (st : feed.Stage). next_batch s setting.records st) (sym knows_it) ∙ (sym first.batch ∙ q.2) in
    let behind : length (numbered s.base setting.records) ≤ q.0 =
    none_behind s.batch q.0 (numbered s.base setting.records) some none in
    let in_it : q.0 ≤ length (log w) =
    subst (λ (st : feed.Stage). known_in st ≤ length (log w)) (i.stage ∙ knows_it) (known_is_in setting fit events alone) in
    let front = log_is_first_records setting fit events alone in
    let whole : length (log w ++ front.0) ≡ length (entries setting.base setting.records) = ap length front.1 in
    let all : q.0 ≡ length setting.records =
    omega (
      arith,
      behind,
      in_it,
      whole,
      length-append (log w) front.0,
      entries_length setting.base setting.records,
      numbered_length s.base setting.records,
    ) in
    done_is_all setting fit events alone (i.stage ∙ (knows_it ∙ ap knows all))

pub finished_is_all : FinishedIsAll
finished_is_all setting fit s some known count ms events old new f each first before alone =
    asking_nothing_is_all setting fit s some (events ++ session_events s ms f.count_of) known count f.link new f.standing f.ends
    f.last first (sessions_run setting s known count ms events f.count_of old f.link idle f.standing f.rounds each before) alone
