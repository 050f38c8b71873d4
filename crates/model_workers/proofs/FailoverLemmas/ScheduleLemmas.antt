-- After each schedule the worker is the consumer of `model_server::failover`, and what holds of that holds of it.
use Rattle.std.proofs.Common.{◌≡◌, ◌⊎◌, refl, sym, subst, ◌∙◌, ℕ, List, [], ◌∷◌, ◌++◌, Bool, true, false, Option, Some, map}
use Rattle.std.proofs.Common.{if◌then◌else◌}
use Rattle.redis_connection.specs.Link.{Link}
use Rattle.worker.specs.declared.confirm.error.RoundError.{RoundError}
use Rattle.worker.specs.declared.confirm.error.RoundError.TheVariants as ends
use mathlib.Core.Logic.{inl, inr}
use Rattle.model_server.specs.Failover.Law.{after, AllWait, Waits, ProducerWaits, ProducerAlwaysWaits}
use Rattle.model_server.specs.Failover.World.{World, Event, Plain, Arrive_waits, Ask_waits, Failover, first_world, run}
use Rattle.model_server.proofs.FailoverLemmas.Looked.{file_once}
use Rattle.model_server.proofs.FailoverLemmas.Safe.{nothing_confirmed_is_lost, each_comes_out_once}
use Rattle.model_server.proofs.FailoverLemmas.Undeleted.{producer_loses_nothing}
use Rattle.model_server.proofs.FailoverLemmas.Stays.{file_is_of_log, handled_is_not_new}
use Rattle.redis_connection.specs.declared.wait.Wait.{Wait}
use Rattle.model_workers.specs.Files.Files.{Fields}
use Rattle.model_server.specs.Group.Worker.{Id, Machine}
use Rattle.model_server.specs.Once.Consumer.{Consumer}
use Rattle.model_server.specs.Once.Feed.{entries}
use Rattle.model_server.specs.Once.Law.{IsKept, IsDrained, HasEachOnce}
use Rattle.model_server.specs.Once.World.{Setting, Take, Reconnect, Restart}
use Rattle.model_server.specs.Once.World as once
use Rattle.model_workers.specs.System.Once.{committing, unasked_events}
use Rattle.worker.specs.Session.{Standing, Fails}
use Rattle.worker.specs.Machine.{commits}
use Rattle.worker.specs.Answered.{Failed, WasCut}
use Rattle.worker.specs.declared.error.WorkerError.{WorkerError}
use Rattle.worker.specs.declared.error.WorkerError.TheVariants as faults
use Rattle.worker.specs.declared.state.Asked.{Asked}
use Rattle.redis_resp.specs.Tree.{Tree}
use Rattle.redis_wire.specs.Reply as wire
use Rattle.worker.specs.declared.error.RequestError.{RequestError}
use Rattle.worker.specs.declared.error.RequestError.TheVariants.{NotCommitted, TooLong, Memory}
use Rattle.worker.specs.declared.error.RunError.{RunError}
use Rattle.worker.specs.declared.error.RunError.TheVariants as causes
use Rattle.worker.specs.declared.state.Settings.{Settings}
use Rattle.model_workers.specs.Failover.Keeps.{Keeps, LooksUp}
use Rattle.model_workers.specs.Failover.Rounds.{IsConsumer, IsBesides, AreBesides, Fate, comes, comes_not, Meantime, question_events}
use Rattle.model_workers.specs.Failover.Rounds.{until_asked, question, until_replied, events_by, turn_of, IsFailure, failure_events, handled}
use Rattle.model_workers.specs.Failover.Rounds.{now_asking, cut_by, handled_of}
use Rattle.model_workers.specs.Failover.Rounds.{Moment, between, within, events_until, start_events}
use Rattle.model_workers.specs.Failover.Schedule.{Runs, begins, rests, turns, fails, breaks, restarts, round_events}
use Rattle.model_workers.specs.Failover.Schedule.{consumer_at, RunsAreEvents, RunsWait, HasFile, file_after}
use Rattle.model_workers.specs.Failover.Schedule.{CodeWritesOnce, CodeWritesTheLog, CodeLosesNothing}
use Rattle.model_workers.specs.Failover.Schedule.{NobodyElse, CodeLosesNothingAdded, CodeWritesEachRecord}
use Rattle.model_workers.proofs.FailoverLemmas.RoundLemmas.{run_on, Rests, as_is, rests_again, all_keep, is_one, round_is}
use Rattle.model_workers.proofs.FailoverLemmas.RoundLemmas.{failure_is, break_is, start_is}

-- ---- a schedule

pub runs_are_events : {R : Type 0} → RunsAreEvents R
runs_are_events k law s wait settings events v (begins set worker started) = record {
  machine = sym started.machine;
  answer = refl;
  history = refl;
}
runs_are_events k law s wait settings events v (rests set before others x h r) =
    let there : World Fields = after s before in
    let i = runs_are_events k law s wait set before x r in
    subst (λ (z : World Fields). IsConsumer k x z.now.consumer) (sym (run_on s before others first_world))
    (is_one k x (run s others there).now.consumer
    (all_keep s true (Rests k true x.machine x.history) (rests_again k true x.machine x.history) others there h
    (as_is k true x there.now.consumer i)))
runs_are_events k law s wait settings events v (turns set before old new y x asked p m t h r) =
    subst (λ (z : World Fields). IsConsumer k x z.now.consumer)
    (sym (run_on s before (round_events k s wait set old new y x asked p m t) first_world))
    (round_is k law s wait set old new y x asked p m (after s before) t (runs_are_events k law s wait set before y r) h)
runs_are_events k law s wait settings events v (fails set before old new y x e m f h r) =
    subst (λ (z : World Fields). IsConsumer k x z.now.consumer)
    (sym (run_on s before (failure_events k set y x wait m old new e f) first_world))
    (failure_is k law s wait set old new y x e m (after s before) f (runs_are_events k law s wait set before y r) h)
runs_are_events k law s wait settings events v (breaks set before others y h r) =
    subst (λ (z : World Fields). IsConsumer k v z.now.consumer)
    (sym (run_on s before (others ++ Plain Reconnect ∷ []) first_world))
    (break_is k law s others y (after s before) h (runs_are_events k law s wait set before y r))
runs_are_events k law s wait settings events v (restarts set with_set before y x moment t r) =
    let there : World Fields = after s before in
    let until : List (Event Fields) = events_until k wait set y moment in
    let c : Consumer Fields = consumer_at k s wait set y moment there in
    subst (λ (z : World Fields). IsConsumer k x z.now.consumer)
    (sym (run_on s before (until ++ start_events k with_set c x t) first_world ∙ run_on s until (start_events k with_set c x t) there))
    (start_is k law s with_set (run s until there) x t)

-- ---- a WAIT follows each request for entries

-- this is no request of the consumer for entries without WAIT
abbrev AskWaits : Event Fields → Type 0
AskWaits (Plain (once.Ask n pick next)) = ⊥
AskWaits e = Unit {0}

abbrev AllAskWait : List (Event Fields) → Type 0
AllAskWait [] = Unit {0}
AllAskWait (e ∷ es) = AskWaits e × AllAskWait es

ask_on : (es more : List (Event Fields)) → AllAskWait es → AllAskWait more → AllAskWait (es ++ more)
ask_on [] more h j = j
ask_on (e ∷ es) more h j = (h.0, ask_on es more h.1 j)

others_ask : (calm : Bool) (e : Event Fields) → IsBesides calm e → AskWaits e
others_ask calm (Plain (once.Send n)) h = tt
others_ask calm (Plain (once.Arrive b)) h = tt
others_ask calm (Plain (once.Arrive_late j b)) h = tt
others_ask calm (Plain once.Hear) h = tt
others_ask calm (Plain once.Break) h = tt
others_ask calm (Plain (once.Ask n pick next)) h = absurd h
others_ask calm (Plain (once.Take vs)) h = tt
others_ask calm (Plain once.Sync) h = tt
others_ask calm (Plain once.Acknowledge_now) h = tt
others_ask calm (Plain once.Acknowledge_later) h = tt
others_ask calm (Plain once.Reconnect) h = tt
others_ask calm (Plain (once.Restart every kept more)) h = tt
others_ask calm (Plain (once.Else e)) h = tt
others_ask calm (Arrive_waits b asked said) h = tt
others_ask calm (Ask_waits n pick next asked said) h = tt
others_ask calm (Failover which) h = tt

besides_ask : (calm : Bool) (es : List (Event Fields)) → AreBesides calm es → AllAskWait es
besides_ask calm [] h = tt
besides_ask calm (e ∷ es) h = (others_ask calm e h.0, besides_ask calm es h.1)

commit_asks : (m : Machine) → AllAskWait (map Plain (committing m))
commit_asks m = by (commits m)
  where
    by : (b : Bool) → AllAskWait (map Plain (if b then once.Sync ∷ [] else []))
    by true = (tt, tt)
    by false = tt

unasked_ask : (m : Machine) (e : RequestError) → AllAskWait (map Plain (unasked_events m e))
unasked_ask m NotCommitted = tt
unasked_ask m TooLong = commit_asks m
unasked_ask m Memory = commit_asks m

question_asks : (w : Wait) (n : ℕ) (fate : Fate) (ids : List Id) → AllAskWait (question_events (Some w) n fate ids)
question_asks w n (comes pick next said) [] = (tt, tt)
question_asks w n (comes pick next said) (j ∷ js) = (tt, tt)
question_asks w n comes_not [] = tt
question_asks w n comes_not (j ∷ js) = (tt, tt)

module _ {R : Type 0} (k : Keeps R) (w : Wait) where
  until_asks : (settings : Settings) (v : Standing R) {calm : Bool} (m : Meantime calm)
      → AllAskWait (until_replied k (Some w) settings v m)
  until_asks settings v {calm} m =
      let commit : List (Event Fields) = map Plain (committing v.machine) in
      ask_on (until_asked k (Some w) settings v m) (question k (Some w) settings v m ++ m.later)
      (ask_on m.before (commit ++ m.earlier) (besides_ask calm m.before m.before_besides)
      (ask_on commit m.earlier (commit_asks v.machine) (besides_ask calm m.earlier m.earlier_besides)))
      (ask_on (question k (Some w) settings v m) m.later (question_asks w _ m.fate _)
      (besides_ask calm m.later m.later_besides))

  by_asks : (settings : Settings) (v : Standing R) (m : Meantime false) (e : RunError) (some : List (Event Fields))
      → AllAskWait some → AllAskWait (events_by k (Some w) settings v m e some)
  by_asks settings v m (causes.Request e) some h = unasked_ask v.machine e
  by_asks settings v m (causes.Send e) some h = ask_on (until_replied k (Some w) settings v m)
      (some ++ Plain Reconnect ∷ []) (until_asks settings v m) (ask_on some (Plain Reconnect ∷ []) h (tt, tt))
  by_asks settings v m (causes.Receive named e) some h = ask_on (until_replied k (Some w) settings v m)
      (some ++ Plain Reconnect ∷ []) (until_asks settings v m) (ask_on some (Plain Reconnect ∷ []) h (tt, tt))
  by_asks settings v m (causes.Answer e) some h = ask_on (until_replied k (Some w) settings v m)
      (some ++ Plain Reconnect ∷ []) (until_asks settings v m) (ask_on some (Plain Reconnect ∷ []) h (tt, tt))

  cut_asks : {A : Type 0} (settings : Settings) (asked : Asked) (t : Tree) (m n : Machine) (r q : R)
      → (how : A ⊎ WasCut k.with_verdict settings asked t m n r q) → AllAskWait (cut_by k settings how)
  cut_asks settings asked t m n r q (inl none) = tt
  cut_asks settings asked t m n r q (inr some) = (tt, tt)

  handled_asks : (settings : Settings) (asked : Asked) (a : wire.Answer) (m n : Machine) (r q : R) (e : WorkerError)
      (f : Failed k.with_verdict settings asked a m n r q e) → AllAskWait (handled_of k settings asked a m n r q e f)
  handled_asks settings asked a m n r q faults.Memory f = cut_asks settings asked f.0 m n r q f.2
  handled_asks settings asked a m n r q faults.NotAsked f = tt
  handled_asks settings asked a m n r q (faults.Server e) f = tt
  handled_asks settings asked a m n r q (faults.GroupIsGone e) f = tt
  handled_asks settings asked a m n r q faults.NotAnAnswer f = tt
  handled_asks settings asked a m n r q (faults.Parsing e) f = tt
  handled_asks settings asked a m n r q faults.OtherStream f = tt
  handled_asks settings asked a m n r q (faults.NilFields id) f = tt

  fails_ask : (settings : Settings) (v x : Standing R) (old new : Link) (e : RunError)
      (f : Fails k.with_verdict k.with_commit settings old new v x e) → AllAskWait (handled k settings v x old new e f)
  fails_ask settings v x old new (causes.Request e) f = tt
  fails_ask settings v x old new (causes.Send e) f = tt
  fails_ask settings v x old new (causes.Receive named e) f = tt
  fails_ask settings v x old new (causes.Answer e) f =
      let u : Standing R = now_asking k (Some w) settings v in
      handled_asks settings u.asked f.1.0 u.machine f.0.machine u.history f.0.history e.error f.1.2

  failure_asks : (settings : Settings) (v x : Standing R) (m : Meantime false) (old new : Link) (e : RoundError)
      (f : IsFailure k settings v x (Some w) old new e)
      → AllAskWait (failure_events k settings v x (Some w) m old new e f)
  failure_asks settings v x m old new (ends.Run e) (inl f) = by_asks settings v m e [] tt
  failure_asks settings v x m old new (ends.Run e) (inr f) =
      by_asks settings v m e (handled k settings v x old f.link e f.fails) (fails_ask settings v x old f.link e f.fails)
  failure_asks settings v x m old new (ends.Unconfirmed e) f = ask_on (until_replied k (Some w) settings v m)
      (Plain Reconnect ∷ []) (until_asks settings v m) (tt, tt)

  moment_asks : (settings : Settings) (v : Standing R) (moment : Moment)
      → AllAskWait (events_until k (Some w) settings v moment)
  moment_asks settings v (between before others) = besides_ask false before others
  moment_asks settings v (within m) = until_asks settings v m

  runs_ask : (s : Setting Fields) (settings : Settings) (events : List (Event Fields)) (v : Standing R)
      → Runs k s (Some w) settings events v → AllAskWait events
  runs_ask s settings events v (begins set worker started) = (tt, tt)
  runs_ask s settings events v (rests set before others x h r) =
      ask_on before others (runs_ask s set before x r) (besides_ask true others h)
  runs_ask s settings events v (turns set before old new y x asked p m t h r) =
      ask_on before (round_events k s (Some w) set old new y x asked p m t) (runs_ask s set before y r)
      (ask_on (until_replied k (Some w) set y m)
      (Plain (Take (turn_of k set y x (Some w) old new asked p t).verdicts) ∷ []) (until_asks set y m) (tt, tt))
  runs_ask s settings events v (fails set before old new y x e m f h r) =
      ask_on before (failure_events k set y x (Some w) m old new e f) (runs_ask s set before y r)
      (failure_asks set y x m old new e f)
  runs_ask s settings events v (breaks set before others y h r) =
      ask_on before (others ++ Plain Reconnect ∷ []) (runs_ask s set before y r)
      (ask_on others (Plain Reconnect ∷ []) (besides_ask false others h) (tt, tt))
  runs_ask s settings events v (restarts set with_set before y x moment t r) =
      let until : List (Event Fields) = events_until k (Some w) set y moment in
      let start : List (Event Fields) =
      start_events k with_set (consumer_at k s (Some w) set y moment (after s before)) x t in
      ask_on before (until ++ start) (runs_ask s set before y r)
      (ask_on until start (moment_asks set y moment) (tt, tt))

both_wait : (e : Event Fields) → ProducerWaits e → AskWaits e → Waits e
both_wait (Plain (once.Send n)) h j = tt
both_wait (Plain (once.Arrive b)) h j = absurd h
both_wait (Plain (once.Arrive_late i b)) h j = tt
both_wait (Plain once.Hear) h j = tt
both_wait (Plain once.Break) h j = tt
both_wait (Plain (once.Ask n pick next)) h j = absurd j
both_wait (Plain (once.Take vs)) h j = tt
both_wait (Plain once.Sync) h j = tt
both_wait (Plain once.Acknowledge_now) h j = tt
both_wait (Plain once.Acknowledge_later) h j = tt
both_wait (Plain once.Reconnect) h j = tt
both_wait (Plain (once.Restart every kept more)) h j = tt
both_wait (Plain (once.Else e)) h j = tt
both_wait (Arrive_waits b asked said) h j = tt
both_wait (Ask_waits n pick next asked said) h j = tt
both_wait (Failover which) h j = tt

all_wait : (es : List (Event Fields)) → ProducerAlwaysWaits es → AllAskWait es → AllWait es
all_wait [] h j = tt
all_wait (e ∷ es) h j = (both_wait e h.0 j.0, all_wait es h.1 j.1)

pub runs_wait : {R : Type 0} → RunsWait R
runs_wait k s w settings events v r h = all_wait events h (runs_ask k w s settings events v r)

-- ---- what holds after each schedule

module _ {R : Type 0} (k : Keeps R) (law : LooksUp k) (s : Setting Fields) (wait : Option Wait) (settings : Settings)
    (events : List (Event Fields)) (v : Standing R) (r : Runs k s wait settings events v) where
  has_file : HasFile k v (file_after s events)
  has_file =
      let i = runs_are_events k law s wait settings events v r in
      ((after s events).now.consumer.lines, i.history)

pub code_writes_once : {R : Type 0} → CodeWritesOnce R
code_writes_once k law s wait settings events v r =
    (has_file k law s wait settings events v r, file_once s events)

pub code_writes_the_log : {R : Type 0} → CodeWritesTheLog R
code_writes_the_log k law s w settings events v r h =
    let all : AllWait events = runs_wait k s w settings events v r h in (
      has_file k law s (Some w) settings events v r,
      λ e here. (file_is_of_log s events all e here, handled_is_not_new s events all e here),
    )

waits_front : (es more : List (Event Fields)) → AllWait (es ++ more) → AllWait es × AllWait more
waits_front [] more h = (tt, h)
waits_front (e ∷ es) more h = let rest = waits_front es more h.1 in ((h.0, rest.0), rest.1)

producer_on : (es more : List (Event Fields)) → ProducerAlwaysWaits es → ProducerAlwaysWaits more
    → ProducerAlwaysWaits (es ++ more)
producer_on [] more h j = j
producer_on (e ∷ es) more h j = (h.0, producer_on es more h.1 j)

-- a WAIT follows each request of the producer and each request for entries
both_waits : {R : Type 0} (k : Keeps R) (s : Setting Fields) (w : Wait) (settings : Settings)
    (earlier later : List (Event Fields)) (v : Standing R) → Runs k s (Some w) settings (earlier ++ later) v
    → NobodyElse earlier → NobodyElse later → AllWait earlier × AllWait later
both_waits k s w settings earlier later v r h j = waits_front earlier later
    (runs_wait k s w settings (earlier ++ later) v r (producer_on earlier later h.0 j.0))

pub code_loses_nothing : {R : Type 0} → CodeLosesNothing R
code_loses_nothing k law s fit w settings earlier later v r h j e known =
    let all = both_waits k s w settings earlier later v r h j in (
      has_file k law s (Some w) settings (earlier ++ later) v r,
      subst (λ (z : World Fields). IsKept z.now e) (sym (run_on s earlier later first_world))
          (nothing_confirmed_is_lost s fit earlier later h.1 j.1 all.0 all.1 h.2 j.2 e known),
    )

pub code_loses_nothing_added : {R : Type 0} → CodeLosesNothingAdded R
code_loses_nothing_added k law s fit wait settings earlier later v r h j none none_too e known = (
  has_file k law s wait settings (earlier ++ later) v r,
  subst (λ (z : World Fields). IsKept z.now e) (sym (run_on s earlier later first_world))
      (producer_loses_nothing s fit earlier later h.1 j.1 h.0 j.0 h.2 j.2 none none_too e known),
)

pub code_writes_each_record : {R : Type 0} → CodeWritesEachRecord R
code_writes_each_record k law s fit w settings earlier later v r h j is_done drained none =
    let all = both_waits k s w settings earlier later v r h j in
    let same : after s (earlier ++ later) ≡ run s later (after s earlier) = run_on s earlier later first_world in (
      has_file k law s (Some w) settings (earlier ++ later) v r,
      subst (λ (z : World Fields). HasEachOnce z.now.consumer.file (entries s.base s.records)) (sym same)
          (each_comes_out_once s fit earlier later h.1 j.1 all.0 all.1 h.2 j.2 is_done
          (subst (λ (z : World Fields). IsDrained z.now) same drained)
          (subst (λ (z : World Fields). z.now.stream.deleted ≡ []) same none)),
    )
