-- The confirmed rounds, breaks and starts of a producer's code are events of `model_server::failover`.
use Rattle.std.proofs.Common.{◌≡◌, ◌<◌, ◌≤◌, refl, sym, ap, subst, ◌∙◌, arith, true, false, ℕ, List, [], ◌∷◌, ◌++◌}
use Rattle.std.proofs.Common.{length, take, drop, append-nil, Option, Some, None}
use Rattle.std.proofs.lemmas.Bool.{false≢true, and_from, not_from_false, lt-ltb, le-ltb}
use Rattle.std.proofs.lemmas.List.{length-append, length-map, nil_from_length}
use Rattle.std.specs.Prelude.{Bool, if◌then◌else◌, nat_lt, not}
use Rattle.redis_connection.specs.Link.{Link}
use Rattle.model_server.specs.Group.Worker.{Entry}
use Rattle.model_server.specs.Once.Feed as feed
use Rattle.model_server.specs.Once.Feed.{Numbered, Request, Answer, numbered, as_entry, entries, known_in, knows}
use Rattle.model_server.specs.Once.Law.{log, AreFirst}
use Rattle.model_server.specs.Once.Producer.{Producer, hears}
use Rattle.model_server.specs.Once.World.{Setting}
use Rattle.model_server.specs.Once.World as once
use Rattle.model_server.specs.Failover.Law.{after, NoOtherAdds, ProducerWaits, ProducerAlwaysWaits}
use Rattle.model_server.specs.Failover.World.{World, Event, Plain, Arrive_waits, Ask_waits, Failover, first_world, happens, run}
use Rattle.model_server.specs.Failover.World.{is_confirmed, plainly}
use Rattle.model_server.proofs.FailoverLemmas.Added.{log_is_first_records, known_stays_in}
use Rattle.worker_producer.specs.Confirmed.{IsConfirmedRound, Confirms}
use Rattle.worker_producer.specs.Failover.{IsBesides, AreBesides, Fate, comes, comes_not, Meantime, arrival, until_replied}
use Rattle.worker_producer.specs.Failover.{round_events, IsSaid, HearsTheWait, break_events, Moment, between, within}
use Rattle.worker_producer.specs.Failover.{events_until, Runs, begins, rests, turns, breaks_off, starts, fails_over as fails}
use Rattle.worker_producer.specs.Failover.{IsServed, RunsAreEvents, RunsWait, CodeKnowsWhatStays, AskingNothingStaysAll}
use Rattle.worker_producer.specs.Machine.{Standing, idle, next_batch, asks_of, stands_at}
use Rattle.worker_producer.specs.Records.{Fields}
use Rattle.worker_producer.specs.Schedule as plain
use Rattle.worker_producer.specs.Schedule.{IsProducer, IsOfOthers}
use Rattle.worker_producer.specs.Step.{on_the_way}
use Rattle.worker_producer.specs.declared.confirmed.ConfirmedError.{ConfirmedError}
use Rattle.worker_producer.specs.declared.confirmed.ConfirmedError.TheVariants as ends
use Rattle.worker_producer.specs.declared.error.RunError.TheVariants as causes
use Rattle.worker_producer.specs.declared.settings.Settings.{Settings}
use Rattle.worker_producer.specs.declared.stage.Asked.{Asked}
use Rattle.worker_producer.specs.declared.stage.Asked.TheVariants as asks
use Rattle.redis_connection.specs.declared.wait.Wait.{Wait}
use Rattle.worker_producer.proofs.RequestLemmas.{numbered_length}
use Rattle.worker_producer.proofs.ScheduleLemmas as schedule
use Rattle.worker_producer.proofs.ScheduleLemmas.{Is, Answered, as_is, nothing_sent}
use Rattle.worker_producer.proofs.SessionLemmas.{IsAtRest, sent_at, round_rest, nothing_asked, none_behind}

-- the required number of replicas confirm what arrives
abbrev IsEnough : ℕ → Fate → Type 0
IsEnough wanted (comes b said) = is_confirmed wanted said ≡ true
IsEnough wanted comes_not = Unit {0}

module _ (setting : Setting Fields) where
  run_on : (es more : List (Event Fields)) (w : World Fields)
      → run setting (es ++ more) w ≡ run setting more (run setting es w)
  run_on [] more w = refl
  run_on (e ∷ es) more w = run_on es more (happens setting w e)

  -- ---- events of others

  module _ (st : feed.Stage) (o : Option (Request Fields)) (a : Option Answer) where
    plain_keeps : (w : once.World Fields) (e : once.Event Fields) → IsOfOthers e → Is st o a w.producer
        → Is st o a (plainly setting w e).producer
    plain_keeps w (once.Send n) h i = absurd h
    plain_keeps w (once.Arrive b) h i = absurd h
    plain_keeps w (once.Arrive_late k b) h i = schedule.else_keeps setting st o a w (once.Arrive_late k b) h i
    plain_keeps w once.Hear h i = absurd h
    plain_keeps w once.Break h i = absurd h
    plain_keeps w (once.Ask n pick next) h i = schedule.else_keeps setting st o a w (once.Ask n pick next) h i
    plain_keeps w (once.Take vs) h i = i
    plain_keeps w once.Sync h i = i
    plain_keeps w once.Acknowledge_now h i = schedule.else_keeps setting st o a w once.Acknowledge_now h i
    plain_keeps w once.Acknowledge_later h i = i
    plain_keeps w once.Reconnect h i = i
    plain_keeps w (once.Restart every kept more) h i = i
    plain_keeps w (once.Else e) h i = i

    whichever : (b : Bool) (u v : once.World Fields) → Is st o a u.producer → Is st o a v.producer
        → Is st o a (if b then u else v).producer
    whichever true u v h k = h
    whichever false u v h k = k

    keeps : (w : World Fields) (e : Event Fields) → IsBesides e → Is st o a w.now.producer
        → Is st o a (happens setting w e).now.producer
    keeps w (Plain e) h i = plain_keeps w.now e h i
    keeps w (Arrive_waits b asked said) h i = absurd h
    keeps w (Ask_waits n pick next asked said) h i =
        let asks : once.Event Fields = once.Ask n pick next in
        let there = schedule.else_keeps setting st o a w.now asks tt i in
        whichever (is_confirmed asked said) (once.happens setting w.now asks)
        (once.happens setting (once.happens setting w.now asks) once.Reconnect) there there
    keeps w (Failover which) h i = absurd h

    all_keep : (es : List (Event Fields)) (w : World Fields) → AreBesides es → Is st o a w.now.producer
        → Is st o a (run setting es w).now.producer
    all_keep [] w h i = i
    all_keep (e ∷ es) w h i = all_keep es (happens setting w e) h.1 (keeps w e h.0 i)

  -- ---- a request that is confirmed

  confirmed_as : (b : Bool) (u v : once.World Fields) → b ≡ true → (if b then u else v).producer ≡ u.producer
  confirmed_as true u v is = refl
  confirmed_as false u v is = absurd (false≢true is)

  arrives : (st : feed.Stage) (o : Option (Request Fields)) (wanted : ℕ) (fate : Fate) (w : World Fields)
      → IsEnough wanted fate → Is st o None w.now.producer
      → Answered setting st o (run setting (arrival wanted fate) w).now.producer
  arrives st o wanted (comes b said) w enough i =
      let there : once.World Fields = once.happens setting w.now (once.Arrive b) in
      subst (λ (p : Producer Fields). Answered setting st o p)
      (sym (confirmed_as (is_confirmed wanted said) there (once.happens setting there once.Break) enough))
      (schedule.arrives setting st o (plain.comes b) w.now i)
  arrives st o wanted comes_not w enough i = schedule.arrives setting st o plain.comes_not w.now i

  -- others leave it so
  still_answered : (st : feed.Stage) (o : Option (Request Fields)) (es : List (Event Fields)) (w : World Fields)
      → AreBesides es → Answered setting st o w.now.producer → Answered setting st o (run setting es w).now.producer
  still_answered st o es w h q =
      let p : Producer Fields = w.now.producer in
      let k = all_keep p.stage p.sent p.answer es w h (record { stage = refl; sent = refl; answer = refl }) in record {
        stage = k.stage ∙ q.stage;
        some = λ x e. k.sent ∙ q.some x (sym k.answer ∙ e);
        none = λ e.
            let n = q.none e in
            record { stage = k.stage ∙ n.stage; sent = k.sent ∙ n.sent; answer = k.answer ∙ n.answer };
      }

  -- as the last reply is there
  replied : (s : Settings) → setting.base ≡ s.base → (w : Wait) (m : Meantime) → IsEnough w.replicas m.fate
      → (st : feed.Stage) (world : World Fields) → Is st None None world.now.producer
      → Answered setting (stands_at st (next_batch s setting.records st)).stage
      (on_the_way (asks_of st (next_batch s setting.records st)) (next_batch s setting.records st))
      (run setting (until_replied s w m) world).now.producer
  replied s base w m enough st world i =
      let b : List (Numbered Fields) = next_batch s setting.records st in
      let next : feed.Stage = (stands_at st b).stage in
      let o : Option (Request Fields) = on_the_way (asks_of st b) b in
      let sent : World Fields = happens setting world (Plain (once.Send s.batch)) in
      let before : World Fields = run setting m.earlier sent in
      let there : World Fields = run setting (arrival w.replicas m.fate) before in
      let same : run setting (until_replied s w m) world ≡ run setting m.later there =
      run_on m.earlier (arrival w.replicas m.fate ++ m.later) sent ∙ run_on (arrival w.replicas m.fate) m.later before in
      subst (λ (z : World Fields). Answered setting next o z.now.producer) (sym same)
      (still_answered next o m.later there m.later_besides
      (arrives next o w.replicas m.fate before enough
      (all_keep next o None m.earlier sent m.earlier_besides (schedule.sends_it setting s base world.now st i))))

  -- ---- a break

  broken : (es : List (Event Fields)) (w : World Fields) → IsProducer idle (run setting (es ++ Plain once.Break ∷ []) w).now.producer
  broken es w =
      subst (λ (z : World Fields). IsProducer idle z.now.producer) (sym (run_on es (Plain once.Break ∷ []) w))
      (record { stage = refl; coming = refl; sent = refl; answer = refl })

-- ---- a round

enough_of : (w : Wait) (fate : Fate) (n : ℕ) → 0 < w.replicas → w.replicas ≤ n → IsSaid fate n → IsEnough w.replicas fate
enough_of w (comes b said) n some many is =
    let enough : w.replicas ≤ said = omega (arith, many, is) in
    and_from (nat_lt 0 w.replicas) (not (nat_lt said w.replicas)) (lt-ltb 0 w.replicas some)
    (not_from_false (nat_lt said w.replicas) (le-ltb said w.replicas enough))
enough_of w comes_not n some many is = tt

enough_by : (w : Wait) (a : Asked) (old new : Link) (fate : Fate) (c : Confirms (Some w) a old new)
    → HearsTheWait w a old new fate c → IsEnough w.replicas fate
enough_by w asks.Nothing old new fate c h = subst (λ (f : Fate). IsEnough w.replicas f) (sym h) tt
enough_by w asks.LastId old new fate c h = enough_of w fate c.0 w.some c.2 h
enough_by w asks.Records old new fate c h = enough_of w fate c.0 w.some c.2 h

module _ (setting : Setting Fields) (w : Wait) (s : Settings) (known : Option (List Fields)) (count : ℕ) where
  round_is_events : (old new : Link) (v x : Standing) (a : Asked) (m : Meantime) (world : World Fields)
      (r : IsConfirmedRound (Some w) s known count old new v x a) → IsProducer v world.now.producer
      → IsServed setting w s known count old new v x a m world r
      → IsProducer x (run setting (round_events s w m) world).now.producer
  round_is_events old new v x a m world r i h =
      let first = h.records in
      let b : List (Numbered Fields) = next_batch s setting.records v.stage in
      let o : Option (Request Fields) = on_the_way (asks_of v.stage b) b in
      let sent = sent_at v.coming s r.round.asks.0 [] r.round.bytes v r.round.standing a i.coming r.round.asks.2 in
      let stands : r.round.standing ≡ stands_at v.stage b =
      sent.stands ∙ ap (λ (c : List (Numbered Fields)). stands_at v.stage c) first.batch in
      let there : World Fields = run setting (until_replied s w m) world in
      let enough : IsEnough w.replicas m.fate = enough_by w a r.link new m.fate r.confirms h.wait in
      let q : Answered setting r.round.standing.stage o there.now.producer =
      subst (λ (y : Standing). Answered setting y.stage o there.now.producer) (sym stands)
      (replied setting s first.base w m enough v.stage world (as_is v world.now.producer i)) in
      let quiet : r.round.standing.coming ≡ 0 → o ≡ None =
      λ none. nothing_sent v.stage b (ap (λ (y : Standing). y.coming) (sym stands) ∙ none) in
      subst (λ (z : World Fields). IsProducer x z.now.producer)
      (sym (run_on setting (until_replied s w m) (Plain once.Hear ∷ []) world))
      (subst (λ (k : ℕ). IsProducer x (hears k there.now.producer.answer there.now.producer)) (sym first.base)
      (schedule.heard_it s.base count setting r.round.standing.coming r.round.link r.link r.round.standing x r.round.hears refl o
      quiet there.now.producer q h.reply))

  break_is_events : (e : ConfirmedError) (m : Meantime) (world : World Fields)
      → IsProducer idle (run setting (break_events s w m e) world).now.producer
  break_is_events (ends.Round (causes.Request e)) m world = broken setting [] world
  break_is_events (ends.Round (causes.Send e)) m world = broken setting (until_replied s w m) world
  break_is_events (ends.Round (causes.Receive e)) m world = broken setting (until_replied s w m) world
  break_is_events (ends.Round (causes.Answer e)) m world = broken setting (until_replied s w m) world
  break_is_events (ends.Unconfirmed e) m world = broken setting (until_replied s w m) world

-- ---- a schedule

module _ (setting : Setting Fields) (w : Wait) where
  start_is_events : (es : List (Event Fields)) (world : World Fields)
      → IsProducer idle (run setting (es ++ Plain once.Break ∷ []) world).now.producer
  start_is_events es world = broken setting es world

  failover_is_events : (es : List (Event Fields)) (which : ℕ) (world : World Fields)
      → IsProducer idle (run setting (es ++ Failover which ∷ Plain once.Break ∷ []) world).now.producer
  failover_is_events es which world =
      subst (λ (z : World Fields). IsProducer idle z.now.producer)
      (sym (run_on setting es (Failover which ∷ Plain once.Break ∷ []) world))
      (record { stage = refl; coming = refl; sent = refl; answer = refl })

pub runs_are_events : RunsAreEvents
runs_are_events setting w s events x (begins k) = record { stage = refl; coming = refl; sent = refl; answer = refl }
runs_are_events setting w s events x (rests k before others v h r) =
    let i = runs_are_events setting w k before v r in
    let there : World Fields = after setting before in
    let kept = all_keep setting v.stage None None others there h (as_is v there.now.producer i) in
    subst (λ (z : World Fields). IsProducer v z.now.producer) (sym (run_on setting before others first_world))
    (record { stage = kept.stage; coming = i.coming; sent = kept.sent; answer = kept.answer })
runs_are_events setting w s events x (turns k before known count old new v y a m t h r) =
    subst (λ (z : World Fields). IsProducer y z.now.producer) (sym (run_on setting before (round_events k w m) first_world))
    (round_is_events setting w k known count old new v y a m (after setting before) t (runs_are_events setting w k before v r) h)
runs_are_events setting w s events x (breaks_off k before known count old new v e m b h r) =
    subst (λ (z : World Fields). IsProducer idle z.now.producer) (sym (run_on setting before (break_events k w m e) first_world))
    (break_is_events setting w k known count e m (after setting before))
runs_are_events setting w s events x (starts k l before v moment r) =
    subst (λ (z : World Fields). IsProducer idle z.now.producer)
    (sym (run_on setting before (events_until k w moment ++ Plain once.Break ∷ []) first_world))
    (start_is_events setting w (events_until k w moment) (after setting before))
runs_are_events setting w s events x (fails k l before v moment which r) =
    subst (λ (z : World Fields). IsProducer idle z.now.producer)
    (sym (run_on setting before (events_until k w moment ++ Failover which ∷ Plain once.Break ∷ []) first_world))
    (failover_is_events setting w (events_until k w moment) which (after setting before))

-- ---- WAIT comes with each request

waits_on : (es more : List (Event Fields)) → ProducerAlwaysWaits es → ProducerAlwaysWaits more
    → ProducerAlwaysWaits (es ++ more)
waits_on [] more h k = k
waits_on (e ∷ es) more h k = (h.0, waits_on es more h.1 k)

plain_waits : (e : once.Event Fields) → IsOfOthers e → ProducerWaits (Plain e)
plain_waits (once.Send n) h = tt
plain_waits (once.Arrive b) h = absurd h
plain_waits (once.Arrive_late k b) h = tt
plain_waits once.Hear h = tt
plain_waits once.Break h = tt
plain_waits (once.Ask n pick next) h = tt
plain_waits (once.Take vs) h = tt
plain_waits once.Sync h = tt
plain_waits once.Acknowledge_now h = tt
plain_waits once.Acknowledge_later h = tt
plain_waits once.Reconnect h = tt
plain_waits (once.Restart every kept more) h = tt
plain_waits (once.Else e) h = tt

besides_wait : (es : List (Event Fields)) → AreBesides es → ProducerAlwaysWaits es
besides_wait [] h = tt
besides_wait (Plain e ∷ es) h = (plain_waits e h.0, besides_wait es h.1)
besides_wait (Arrive_waits b asked said ∷ es) h = absurd h.0
besides_wait (Ask_waits n pick next asked said ∷ es) h = (tt, besides_wait es h.1)
besides_wait (Failover which ∷ es) h = absurd h.0

arrival_waits : (wanted : ℕ) (fate : Fate) → ProducerAlwaysWaits (arrival wanted fate)
arrival_waits wanted (comes b said) = (tt, tt)
arrival_waits wanted comes_not = tt

reply_waits : (s : Settings) (w : Wait) (m : Meantime) → ProducerAlwaysWaits (until_replied s w m)
reply_waits s w m = (
  tt,
  waits_on m.earlier (arrival w.replicas m.fate ++ m.later) (besides_wait m.earlier m.earlier_besides)
      (waits_on (arrival w.replicas m.fate) m.later (arrival_waits w.replicas m.fate) (besides_wait m.later m.later_besides)),
)

until_waits : (s : Settings) (w : Wait) (moment : Moment) → ProducerAlwaysWaits (events_until s w moment)
until_waits s w between = tt
until_waits s w (within m) = reply_waits s w m

break_waits : (s : Settings) (w : Wait) (m : Meantime) (e : ConfirmedError) → ProducerAlwaysWaits (break_events s w m e)
break_waits s w m (ends.Round (causes.Request e)) = (tt, tt)
break_waits s w m (ends.Round (causes.Send e)) = waits_on (until_replied s w m) (Plain once.Break ∷ []) (reply_waits s w m) (tt, tt)
break_waits s w m (ends.Round (causes.Receive e)) = waits_on (until_replied s w m) (Plain once.Break ∷ []) (reply_waits s w m) (tt, tt)
break_waits s w m (ends.Round (causes.Answer e)) = waits_on (until_replied s w m) (Plain once.Break ∷ []) (reply_waits s w m) (tt, tt)
break_waits s w m (ends.Unconfirmed e) = waits_on (until_replied s w m) (Plain once.Break ∷ []) (reply_waits s w m) (tt, tt)

pub runs_wait : RunsWait
runs_wait setting w s events x (begins k) = tt
runs_wait setting w s events x (rests k before others v h r) =
    waits_on before others (runs_wait setting w k before v r) (besides_wait others h)
runs_wait setting w s events x (turns k before known count old new v y a m t h r) =
    waits_on before (round_events k w m) (runs_wait setting w k before v r)
    (waits_on (until_replied k w m) (Plain once.Hear ∷ []) (reply_waits k w m) (tt, tt))
runs_wait setting w s events x (breaks_off k before known count old new v e m b h r) =
    waits_on before (break_events k w m e) (runs_wait setting w k before v r) (break_waits k w m e)
runs_wait setting w s events x (starts k l before v moment r) =
    waits_on before (events_until k w moment ++ Plain once.Break ∷ []) (runs_wait setting w k before v r)
    (waits_on (events_until k w moment) (Plain once.Break ∷ []) (until_waits k w moment) (tt, tt))
runs_wait setting w s events x (fails k l before v moment which r) =
    waits_on before (events_until k w moment ++ Failover which ∷ Plain once.Break ∷ []) (runs_wait setting w k before v r)
    (waits_on (events_until k w moment) (Failover which ∷ Plain once.Break ∷ []) (until_waits k w moment) (tt, (tt, tt)))

-- ---- what holds after each schedule

pub code_knows_what_stays : CodeKnowsWhatStays
code_knows_what_stays setting fit w s events more x r alone others always =
    subst (λ (st : feed.Stage). known_in st ≤ length (log (run setting more (after setting events)).now))
    (runs_are_events setting w s events x r).stage
    (known_stays_in setting fit events more alone others (runs_wait setting w s events x r) always)

-- between rounds it waits for nothing
runs_rest : (setting : Setting Fields) (w : Wait) (s : Settings) (events : List (Event Fields)) (x : Standing)
    → Runs setting w s events x → IsAtRest x
runs_rest setting w s events x (begins k) = (refl, tt)
runs_rest setting w s events x (rests k before others v h r) = runs_rest setting w k before v r
runs_rest setting w s events x (turns k before known count old new v y a m t h r) =
    round_rest k known count old t.link v y a (runs_rest setting w k before v r) t.round
runs_rest setting w s events x (breaks_off k before known count old new v e m b h r) = (refl, tt)
runs_rest setting w s events x (starts k l before v moment r) = (refl, tt)
runs_rest setting w s events x (fails k l before v moment which r) = (refl, tt)

entries_length : (base : ℕ) (records : List Fields) → length (entries base records) ≡ length records
entries_length base records = length-map (numbered base records) as_entry ∙ numbered_length base records

alone_on : (es more : List (Event Fields)) → NoOtherAdds es → NoOtherAdds more → NoOtherAdds (es ++ more)
alone_on [] more h k = k
alone_on (e ∷ es) more h k = (h.0, alone_on es more h.1 k)

pub asking_nothing_stays_all : AskingNothingStaysAll
asking_nothing_stays_all setting fit w s some events more known count old new v x r first runs alone others always =
    let world : World Fields = run setting more (after setting events) in
    let waits : ProducerAlwaysWaits events = runs_wait setting w s events v runs in
    let rest = runs_rest setting w s events v runs in
    let sent = sent_at v.coming s r.round.asks.0 [] r.round.bytes v r.round.standing asks.Nothing rest.0 r.round.asks.2 in
    let q = nothing_asked v.stage (next_batch s r.round.asks.0 v.stage) sent.asks rest.1 in
    let knows_it : v.stage ≡ knows q.0 = q.1 in
    let none : take s.batch (drop q.0 (numbered s.base setting.records)) ≡ [] =
    ap (λ (st : feed.Stage). next_batch s setting.records st) (sym knows_it) ∙ (sym first.batch ∙ q.2) in
    let behind : length (numbered s.base setting.records) ≤ q.0 =
    none_behind s.batch q.0 (numbered s.base setting.records) some none in
    let in_it : q.0 ≤ length (log world.now) =
    subst (λ (st : feed.Stage). known_in st ≤ length (log world.now)) knows_it
    (code_knows_what_stays setting fit w s events more v runs alone others always) in
    let same : after setting (events ++ more) ≡ world = run_on setting events more first_world in
    let front : AreFirst (log world.now) (entries setting.base setting.records) =
    subst (λ (z : World Fields). AreFirst (log z.now) (entries setting.base setting.records)) same
    (log_is_first_records setting fit (events ++ more) (alone_on events more alone others) (waits_on events more waits always)) in
    let whole : length (log world.now ++ front.0) ≡ length (entries setting.base setting.records) = ap length front.1 in
    let empty : front.0 ≡ [] = nil_from_length front.0 (omega (
      arith,
      behind,
      in_it,
      whole,
      length-append (log world.now) front.0,
      entries_length setting.base setting.records,
      numbered_length s.base setting.records,
    )) in
    sym (append-nil (log world.now)) ∙ (ap (λ (es : List (Entry Fields)). log world.now ++ es) (sym empty) ∙ front.1)
