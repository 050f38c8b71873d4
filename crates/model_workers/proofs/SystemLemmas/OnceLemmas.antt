-- The rounds, failures and starts of a worker's code are events of `model_server::once`.
use Rattle.std.proofs.Common.{◌≡◌, ◌⊎◌, inl, inr, refl, sym, ap, subst, ◌∙◌, ℕ, ◌+◌, ◌-◌, ◌≤◌, arith, List, [], ◌∷◌, ◌++◌}
use Rattle.std.proofs.Common.{take, append-nil, append_assoc, Option, Some, None}
use Rattle.redis_connection.specs.Link.{Link}
use Rattle.redis_resp.specs.Tree.{Tree}
use Rattle.redis_wire.specs.Reply as wire
use Rattle.model_server.specs.Group.Worker.{Id, Entry, Verdict, Machine, Phase, Answer, entries_in, told_in, after, begins_with}
use Rattle.model_server.specs.Group.Worker.{begins_again}
use Rattle.model_server.specs.Group.Group.{ids_of, pending_ids}
use Rattle.model_server.specs.Group.Law.{Among}
use Rattle.model_server.specs.Once.Consumer.{Consumer, takes, last_added, last_lines, reconnects}
use Rattle.model_server.specs.Once.Law.{Once, AreFirst, log}
use Rattle.model_server.specs.Once.Law as once
use Rattle.model_server.specs.Once.World.{Setting, World, Event, Send, Arrive, Arrive_late, Hear, Break, Ask, Take, Sync}
use Rattle.model_server.specs.Once.World.{Acknowledge_now, Acknowledge_later, Reconnect, Restart, Else, first_world, happens}
use Rattle.model_server.specs.Once.World.{run}
use Rattle.model_server.proofs.OnceLemmas.Lasts.{each_is_kept}
use Rattle.model_server.proofs.OnceLemmas.Order.{file_is_first_of_log, what_goes_in_comes_out}
use Rattle.model_server.proofs.OnceLemmas.Within.{commits_are_within}
use Rattle.model_server.proofs.OnceLemmas.Write.{file_once, file_of_log}
use Rattle.model_workers.specs.Files.Files.{Fields}
use Rattle.worker.specs.Answered.{Failed, WasCut}
use Rattle.worker.specs.Answers.{Heard, told, no_group, group_made, group_after, hears}
use Rattle.worker.specs.Gathered.{Doings, done_too, committed_too}
use Rattle.worker.specs.Handling.{with_all}
use Rattle.worker.specs.Machine.{at_request, history_at_request}
use Rattle.worker.specs.Requested.{Unasked}
use Rattle.worker.specs.Session.{Standing, Turn, Breaks, EndsBy, Ends, ends_before, asking, after_failure}
use Rattle.worker.specs.Session.{having_heard, after_turn, after_turns}
use Rattle.worker.specs.declared.error.RequestError.{RequestError}
use Rattle.worker.specs.declared.error.RequestError.TheVariants.{NotCommitted, TooLong, Memory}
use Rattle.worker.specs.declared.error.RunError.{RunError}
use Rattle.worker.specs.declared.error.RunError.TheVariants as causes
use Rattle.worker.specs.declared.error.WorkerError.{WorkerError}
use Rattle.worker.specs.declared.error.WorkerError.TheVariants as faults
use Rattle.worker.specs.declared.state.GroupState.{GroupState}
use Rattle.worker.specs.declared.state.Settings.{Settings}
use Rattle.worker.specs.declared.worker.Progress.{Progress}
use Rattle.worker.proofs.StepLemmas.{all_done}
use Rattle.model_workers.specs.System.Once.{IsConsumer, IsOfOthers, AreOfOthers, Fate, comes, comes_not, Meantime, committing, question_events}
use Rattle.model_workers.specs.System.Once.{reply_to, IsHeard, count, until_asked, until_replied, round_events, reply_in}
use Rattle.model_workers.specs.System.Once.{HearsTheAnswer, RoundsAreEvents, unasked_events, cut_by, handled_of, failure_events}
use Rattle.model_workers.specs.System.Once.{FailsHearing, FailuresAreEvents, Moment, between, within, events_until, standing_at}
use Rattle.model_workers.specs.System.Once.{StartsOver, start_events, restart_events, StartsAreEvents}
use Rattle.model_workers.specs.System.Once.{Runs, begins, waits, turns, fails, restarts, RoundsRun, SessionsRun, HearsEach}
use Rattle.model_workers.specs.System.Once.{session_events, RunsAreEvents, StartsReadEnough}
use Rattle.model_workers.specs.System.Once.{CodeWritesOnce, CodeWritesTheLog, CodeKeepsEach, CodeWritesInOrder, CodeWritesTheRecords}

-- the consumer with this machine and this reply on the way to it, and with what its handler did
pub record Is (m : Machine) (a : Option (Answer Fields)) (d : Doings) (c : Consumer Fields) : Type 0 where
  pub machine : c.machine ≡ m
  pub answer : c.answer ≡ a
  pub lines : c.lines ≡ d.loose
  pub file : c.file ≡ d.committed

abbrev consumer_of : Machine → Option (Answer Fields) → Doings → ℕ → Consumer Fields
consumer_of m a d n = record { machine = m; answer = a; lines = d.loose; file = d.committed; last_commit = n }

as_consumer : (m : Machine) (a : Option (Answer Fields)) (d : Doings) (c : Consumer Fields) → Is m a d c
    → consumer_of m a d c.last_commit ≡ c
as_consumer m a d c i = sym (
    ap (λ (x : Machine). let r : Consumer Fields = record c { machine = x } in r) i.machine
    ∙ (ap (λ (x : Option (Answer Fields)). let r : Consumer Fields = record c { machine = m; answer = x } in r) i.answer
    ∙ (ap (λ (x : List (Entry Fields)). let r : Consumer Fields = record c { machine = m; answer = a; lines = x } in r) i.lines
    ∙ ap (λ (x : List (Entry Fields)). consumer_of m a (record { loose = d.loose; committed = x }) c.last_commit) i.file)))

-- what holds of the world with this consumer holds of the world
over : (P : World Fields → Type 0) (w : World Fields) (c : Consumer Fields) → c ≡ w.consumer
    → P (record w { consumer = c }) → P w
over P w c e h = subst (λ (x : Consumer Fields). P (record w { consumer = x })) e h

module _ (s : Setting Fields) where
  pub run_on : (es more : List (Event Fields)) (w : World Fields) → run s (es ++ more) w ≡ run s more (run s es w)
  run_on [] more w = refl
  run_on (e ∷ es) more w = run_on es more (happens s w e)

  -- ---- events of others

  else_keeps : (w : World Fields) (e : Event Fields) → IsOfOthers e → (happens s w e).consumer ≡ w.consumer
  else_keeps w (Send n) h = refl
  else_keeps w (Arrive b) h = refl
  else_keeps w (Arrive_late k b) h = refl
  else_keeps w Hear h = refl
  else_keeps w Break h = refl
  else_keeps w (Ask n pick next) h = absurd h
  else_keeps w (Take vs) h = absurd h
  else_keeps w Sync h = absurd h
  else_keeps w Acknowledge_now h = absurd h
  else_keeps w Acknowledge_later h = absurd h
  else_keeps w Reconnect h = absurd h
  else_keeps w (Restart every kept more) h = absurd h
  else_keeps w (Else e) h = refl

  all_keep : (es : List (Event Fields)) (w : World Fields) → AreOfOthers es → (run s es w).consumer ≡ w.consumer
  all_keep [] w h = refl
  all_keep (e ∷ es) w h = all_keep es (happens s w e) h.1 ∙ else_keeps w e h.0

  -- ---- a commit

  abbrev machine_with : ℕ → Phase → (to_commit to_acknowledge : List Id) → Machine
  machine_with every phase to_commit to_acknowledge = record {
    every = every;
    phase = phase;
    to_commit = to_commit;
    to_acknowledge = to_acknowledge;
  }

  commits_it : (d : Doings) (n : ℕ) (every : ℕ) (phase : Phase) (to_commit to_acknowledge : List Id) (w : World Fields)
      → Is (at_request (machine_with every phase to_commit to_acknowledge)) None
      (history_at_request committed_too (machine_with every phase to_commit to_acknowledge) d)
      (run s (committing (machine_with every phase to_commit to_acknowledge))
      (record w { consumer = consumer_of (machine_with every phase to_commit to_acknowledge) None d n })).consumer
  commits_it d n every phase [] [] w = record { machine = refl; answer = refl; lines = refl; file = refl }
  commits_it d n every phase (i ∷ ids) [] w = record { machine = refl; answer = refl; lines = refl; file = refl }
  commits_it d n every phase ids (j ∷ js) w = record { machine = refl; answer = refl; lines = refl; file = refl }

  committed_is : (m : Machine) (d : Doings) (w : World Fields) → Is m None d w.consumer
      → Is (at_request m) None (history_at_request committed_too m d) (run s (committing m) w).consumer
  committed_is m d w i =
      over (λ u. Is (at_request m) None (history_at_request committed_too m d) (run s (committing m) u).consumer) w
      (consumer_of m None d w.consumer.last_commit) (as_consumer m None d w.consumer i)
      (commits_it d w.consumer.last_commit m.every m.phase m.to_commit m.to_acknowledge w)

  -- ---- a request

  -- it requests entries only if all that it did is committed
  abbrev pub Ready : (to_commit to_acknowledge : List Id) → Type 0
  Ready [] acks = Unit {0}
  Ready (i ∷ ids) [] = ⊥
  Ready (i ∷ ids) (j ∷ js) = Unit {0}

  pub is_ready : (every : ℕ) (phase : Phase) (to_commit to_acknowledge : List Id)
      → Ready (at_request (machine_with every phase to_commit to_acknowledge)).to_commit
      (at_request (machine_with every phase to_commit to_acknowledge)).to_acknowledge
  is_ready every phase [] [] = tt
  is_ready every phase (i ∷ ids) [] = tt
  is_ready every phase [] (j ∷ js) = tt
  is_ready every phase (i ∷ ids) (j ∷ js) = tt

  asks_it : (n : ℕ) (fate : Fate) (d : Doings) (k : ℕ) (every : ℕ) (phase : Phase) (to_commit to_acknowledge : List Id)
      → Ready to_commit to_acknowledge → (w : World Fields)
      → Is (machine_with every phase to_commit to_acknowledge)
      (reply_to s.name n fate to_acknowledge phase w.stream) d
      (run s (question_events n fate to_acknowledge)
      (record w { consumer = consumer_of (machine_with every phase to_commit to_acknowledge) None d k })).consumer
  asks_it n (comes pick next) d k every phase [] [] h w =
      record { machine = refl; answer = refl; lines = refl; file = refl }
  asks_it n (comes pick next) d k every phase (i ∷ ids) [] h w = absurd h
  asks_it n (comes pick next) d k every phase ids (j ∷ js) h w =
      record { machine = refl; answer = refl; lines = refl; file = refl }
  asks_it n comes_not d k every phase ids [] h w =
      record { machine = refl; answer = refl; lines = refl; file = refl }
  asks_it n comes_not d k every phase ids (j ∷ js) h w =
      record { machine = refl; answer = refl; lines = refl; file = refl }

  module _ (settings : Settings) (v : Standing Doings) (m : Meantime) (w : World Fields)
      (i : Is v.machine None v.history w.consumer) where
    abbrev u : Standing Doings
    u = asking committed_too settings v

    abbrev before : World Fields
    before = run s (until_asked settings v m) w

    pub before_is : Is u.machine None u.history before.consumer
    before_is =
        let committed : World Fields = run s (committing v.machine) w in
        let same : before.consumer ≡ committed.consumer =
        ap (λ (x : World Fields). x.consumer) (run_on (committing v.machine) m.earlier w)
        ∙ all_keep m.earlier committed m.earlier_others in
        subst (λ (c : Consumer Fields). Is u.machine None u.history c) (sym same) (committed_is v.machine v.history w i)

    abbrev asked_now : List (Event Fields)
    asked_now = question_events (count settings v m) m.fate u.machine.to_acknowledge

    question_is : Is u.machine (reply_in settings v m s w) u.history (run s asked_now before).consumer
    question_is =
        over (λ x. Is u.machine (reply_to s.name (count settings v m) m.fate u.machine.to_acknowledge u.machine.phase x.stream)
        u.history (run s asked_now x).consumer) before
        (consumer_of u.machine None u.history before.consumer.last_commit)
        (as_consumer u.machine None u.history before.consumer before_is)
        (asks_it (count settings v m) m.fate u.history before.consumer.last_commit u.machine.every u.machine.phase
        u.machine.to_commit u.machine.to_acknowledge
        (is_ready v.machine.every v.machine.phase v.machine.to_commit v.machine.to_acknowledge) before)

    -- as the reply is there
    asked_is : Is u.machine (reply_in settings v m s w) u.history (run s (until_replied settings v m) w).consumer
    asked_is =
        let there : World Fields = run s asked_now before in
        let same : (run s (until_replied settings v m) w).consumer ≡ there.consumer =
        ap (λ (x : World Fields). x.consumer) (run_on (until_asked settings v m) (asked_now ++ m.later) w
        ∙ run_on asked_now m.later before) ∙ all_keep m.later there m.later_others in
        subst (λ (c : Consumer Fields). Is u.machine (reply_in settings v m s w) u.history c) (sym same) question_is

  -- ---- a reply

  taken : (a : Answer Fields) (vs : List Verdict) (m : Machine) (d : Doings) (c : Consumer Fields) → Is m (Some a) d c
      → Is (after m a vs) None (with_all done_too d (told_in (entries_in a) vs)) (takes vs c.answer c)
  taken a vs m d c i =
      let e : Doings = with_all done_too d (told_in (entries_in a) vs) in
      let did = all_done d (entries_in a) vs in
      subst (λ (x : Consumer Fields). Is (after m a vs) None e (takes vs x.answer x)) (as_consumer m (Some a) d c i)
      (record {
        machine = refl;
        answer = refl;
        lines = sym (ap (λ (x : Doings). x.loose) did);
        file = sym (ap (λ (x : Doings). x.committed) did);
      })

  not_taken : (vs : List Verdict) (m : Machine) (d : Doings) (c : Consumer Fields) → Is m None d c
      → Is m None d (takes vs c.answer c)
  not_taken vs m d c i =
      let o : Option (Answer Fields) → Consumer Fields = λ a. takes vs a c in
      subst (λ (x : Consumer Fields). Is m None d x) (sym (ap o i.answer)) i

  heard_is : (o : Option Heard) (sent : Option (Answer Fields)) (vs : List Verdict) (p : Progress) → IsHeard sent o
      → EndsBy o vs p → (y : Standing Doings) (g : GroupState) (c : Consumer Fields) → Is y.machine sent y.history c
      → Is (having_heard done_too y g o vs).machine None (having_heard done_too y g o vs).history (takes vs c.answer c)
  heard_is None sent vs p h e y g c i = absurd e
  heard_is (Some (told a)) sent vs p h e y g c i =
      taken a vs y.machine y.history c (subst (λ (x : Option (Answer Fields)). Is y.machine x y.history c) h i)
  heard_is (Some no_group) sent vs p h e y g c i =
      not_taken vs y.machine y.history c (subst (λ (x : Option (Answer Fields)). Is y.machine x y.history c) h i)
  heard_is (Some group_made) sent vs p h e y g c i =
      not_taken vs y.machine y.history c (subst (λ (x : Option (Answer Fields)). Is y.machine x y.history c) h i)

  -- ---- a round that fails

  again_is : (m : Machine) (a : Option (Answer Fields)) (d : Doings) (c : Consumer Fields) → Is m a d c
      → Is (begins_again m) None d (reconnects c)
  again_is m a d c i = record {
    machine = ap begins_again i.machine;
    answer = refl;
    lines = i.lines;
    file = i.file;
  }

  -- if the machine and the doings are these too
  also : (m n : Machine) (d e : Doings) (c : Consumer Fields) → m ≡ n → d ≡ e → Is m None d c → Is n None e c
  also m n d e c p q i = record {
    machine = i.machine ∙ p;
    answer = i.answer;
    lines = i.lines ∙ ap (λ (x : Doings). x.loose) q;
    file = i.file ∙ ap (λ (x : Doings). x.committed) q;
  }

  module _ (settings : Settings) (v y : Standing Doings) (m : Meantime) (w : World Fields)
      (i : Is v.machine None v.history w.consumer) where
    abbrev now : Standing Doings
    now = asking committed_too settings v

    abbrev until : List (Event Fields)
    until = until_replied settings v m

    -- the request is not used
    broke_off : begins_again now.machine ≡ begins_again y.machine → now.history ≡ y.history
        → Is (begins_again y.machine) None y.history (run s (until ++ Reconnect ∷ []) w).consumer
    broke_off machine history =
        let there : World Fields = run s until w in
        subst (λ (x : World Fields). Is (begins_again y.machine) None y.history x.consumer)
        (sym (run_on until (Reconnect ∷ []) w))
        (also (begins_again now.machine) (begins_again y.machine) now.history y.history (reconnects there.consumer)
        machine history
        (again_is now.machine (reply_in settings v m s w) now.history there.consumer (asked_is settings v m w i)))

    no_reply : y ≡ now → Is (begins_again y.machine) None y.history (run s (until ++ Reconnect ∷ []) w).consumer
    no_reply is = broke_off (ap (λ (x : Standing Doings). begins_again x.machine) (sym is))
        (ap (λ (x : Standing Doings). x.history) (sym is))

    stays : y.machine ≡ now.machine → y.history ≡ now.history
        → Is (begins_again y.machine) None y.history (run s (until ++ Reconnect ∷ []) w).consumer
    stays em eh = broke_off (ap begins_again (sym em)) (sym eh)

    starts_over : y.machine ≡ begins_again now.machine → y.history ≡ now.history
        → Is (begins_again y.machine) None y.history (run s (until ++ Reconnect ∷ []) w).consumer
    starts_over em eh = broke_off (ap begins_again (sym em)) (sym eh)

    memory : (a : wire.Answer) (t : Tree) → a ≡ wire.value t → HearsTheAnswer settings v m s w a
        → (how : ((y.machine ≡ begins_again now.machine) × (y.history ≡ now.history))
        ⊎ WasCut done_too settings now.asked t now.machine y.machine now.history y.history)
        → Is (begins_again y.machine) None y.history (run s (until ++ (cut_by how ++ Reconnect ∷ [])) w).consumer
    memory a t is h (inl none) = starts_over none.0 none.1
    memory a t is h (inr some) =
        let there : World Fields = run s until w in
        let vs : List Verdict = some.took.verdicts in
        let sent : Option (Answer Fields) = reply_in settings v m s w in
        let heard : sent ≡ Some some.answer =
        subst (λ (o : Option Heard). IsHeard sent o) (ap (hears settings now.asked) is ∙ some.said) h in
        let took : Consumer Fields = takes vs there.consumer.answer there.consumer in
        let took_it : Is (after now.machine some.answer vs) None
        (with_all done_too now.history (told_in (entries_in some.answer) vs)) took =
        taken some.answer vs now.machine now.history there.consumer
        (subst (λ (x : Option (Answer Fields)). Is now.machine x now.history there.consumer) heard
        (asked_is settings v m w i)) in
        subst (λ (x : World Fields). Is (begins_again y.machine) None y.history x.consumer)
        (sym (run_on until (Take vs ∷ Reconnect ∷ []) w))
        (again_is y.machine None y.history took
        (also (after now.machine some.answer vs) y.machine
        (with_all done_too now.history (told_in (entries_in some.answer) vs)) y.history took
        (sym some.took.machine) (sym some.took.history) took_it))

    refused : (a : wire.Answer) → HearsTheAnswer settings v m s w a → (e : WorkerError)
        → (f : Failed done_too settings now.asked a now.machine y.machine now.history y.history e)
        → Is (begins_again y.machine) None y.history (run s (until
        ++ (handled_of settings now.asked a now.machine y.machine now.history y.history e f ++ Reconnect ∷ [])) w).consumer
    refused a h faults.NotAsked f = stays f.1 f.2
    refused a h (faults.Server e) f = stays f.4 f.5
    refused a h (faults.GroupIsGone e) f = stays f.3 f.4
    refused a h faults.NotAnAnswer f = stays f.2 f.3
    refused a h (faults.Parsing e) f = starts_over f.2 f.3
    refused a h faults.OtherStream f = starts_over f.2 f.3
    refused a h (faults.NilFields id) f = starts_over f.2 f.3
    refused a h faults.Memory f = memory a f.0 f.1 h f.2

    unasked_is : (r : RequestError) → Unasked committed_too v.machine y.machine v.history y.history r
        → Is y.machine None y.history (run s (unasked_events v.machine r) w).consumer
    unasked_is NotCommitted f = also v.machine y.machine v.history y.history w.consumer (sym f.1) (sym f.2) i
    unasked_is TooLong f =
        also now.machine y.machine now.history y.history (run s (committing v.machine) w).consumer
        (sym f.0) (sym f.1) (committed_is v.machine v.history w i)
    unasked_is Memory f =
        also now.machine y.machine now.history y.history (run s (committing v.machine) w).consumer
        (sym f.0) (sym f.1) (committed_is v.machine v.history w i)

  module _ (settings : Settings) (old new : Link) (v : Standing Doings) (m : Meantime) (w : World Fields)
      (i : Is v.machine None v.history w.consumer) where
    failed : (x y : Standing Doings) (e : RunError) (b : Breaks done_too committed_too settings old new v y e)
        (is : x ≡ after_failure e y) → FailsHearing settings old new v x m s w e (y, b, is)
        → Is (after_failure e y).machine None (after_failure e y).history
        (run s (failure_events settings old new v x m e (y, b, is)) w).consumer
    failed x y (causes.Request e) b is h = unasked_is settings v y m w i e b.1
    failed x y (causes.Send e) b is h = no_reply settings v y m w i b.0
    failed x y (causes.Receive named e) b is h = no_reply settings v y m w i b.0
    failed x y (causes.Answer e) b is h = refused settings v y m w i b.0 h e.error b.2

-- between rounds
pub as_is : (v : Standing Doings) (c : Consumer Fields) → IsConsumer v c → Is v.machine None v.history c
as_is v c i = record { machine = i.machine; answer = i.answer; lines = i.lines; file = i.file }

is_one : (v x : Standing Doings) (c : Consumer Fields) → x ≡ v → Is v.machine None v.history c → IsConsumer x c
is_one v x c same i = subst (λ (y : Standing Doings). IsConsumer y c) (sym same)
    (record { machine = i.machine; answer = i.answer; lines = i.lines; file = i.file })

-- a turn in which the reply is one to its request
turn_is : (s : Setting Fields) (w : World Fields) (settings : Settings) (v : Standing Doings) (m : Meantime) (t : Turn)
    (p : Progress) → EndsBy (hears settings (asking committed_too settings v).asked t.answer) t.verdicts p
    → IsConsumer v w.consumer → HearsTheAnswer settings v m s w t.answer
    → IsConsumer (after_turn done_too committed_too settings v t)
    (run s (round_events settings v m t.verdicts) w).consumer
turn_is s w settings v m t p ends i h =
    let u : Standing Doings = asking committed_too settings v in
    let vs : List Verdict = t.verdicts in
    let g : GroupState = group_after settings u.group u.asked t.answer in
    let o : Option Heard = hears settings u.asked t.answer in
    let until : List (Event Fields) = until_replied settings v m in
    let there : World Fields = run s until w in
    is_one (having_heard done_too u g o vs) (having_heard done_too u g o vs)
    (run s (until ++ Take vs ∷ []) w).consumer refl
    (subst (λ (z : World Fields). Is (having_heard done_too u g o vs).machine None
    (having_heard done_too u g o vs).history z.consumer) (sym (run_on s until (Take vs ∷ []) w))
    (heard_is s o (reply_in settings v m s w) vs p h ends u g there.consumer
    (asked_is s settings v m w (as_is v w.consumer i))))

pub rounds_are_events : RoundsAreEvents
rounds_are_events s w settings old new v x asked p m t i h =
    subst (λ (y : Standing Doings). IsConsumer y (run s (round_events settings v m t.turn.verdicts) w).consumer)
    (sym t.stands) (turn_is s w settings v m t.turn p t.ends i h)

pub failures_are_events : FailuresAreEvents
failures_are_events s w settings old new v x e m f i h =
    is_one (after_failure e f.0) x _ f.2
    (failed s settings old new v m w (as_is v w.consumer i) x f.0 e f.1 f.2 h)

-- ---- a start

started_is : (settings : Settings) (s : Setting Fields) (w : World Fields) (v x : Standing Doings)
    (t : StartsOver settings w v x) → w.consumer.lines ≡ v.history.loose → w.consumer.file ≡ v.history.committed
    → IsConsumer x (run s (start_events settings w v x t) w).consumer
started_is settings s w v x t lines file =
    let some : List (Entry Fields) = take t.kept v.history.loose in
    let added : ℕ = last_added w.consumer.last_commit some in
    let ids : ℕ → List (Entry Fields) → List Id = λ n es. ids_of (last_lines n es) in
    let all : w.consumer.file ++ take t.kept w.consumer.lines ≡ v.history.committed ++ some =
    ap (λ l. l ++ take t.kept w.consumer.lines) file ∙ ap (λ l. v.history.committed ++ take t.kept l) lines in
    let number : added + (t.number - added) ≡ t.number = omega (arith, t.enough) in
    let mine : ids (last_added w.consumer.last_commit (take t.kept w.consumer.lines) + (t.number - added))
    (w.consumer.file ++ take t.kept w.consumer.lines) ≡ ids t.number (v.history.committed ++ some) =
    ap (λ l. ids (last_added w.consumer.last_commit (take t.kept l) + (t.number - added))
    (w.consumer.file ++ take t.kept w.consumer.lines)) lines
    ∙ (ap (λ l. ids (added + (t.number - added)) l) all
    ∙ ap (λ n. ids n (v.history.committed ++ some)) number) in
    subst (λ (y : Standing Doings). IsConsumer y (run s (start_events settings w v x t) w).consumer) (sym t.stands)
    (record {
      machine = ap (λ l. begins_with settings.every l) mine ∙ sym t.started.machine;
      answer = refl;
      lines = refl;
      file = all;
    })

pub starts_are_events : StartsAreEvents
starts_are_events s w settings with_settings v x between t i = started_is with_settings s w v x t i.lines i.file
starts_are_events s w settings with_settings v x (within m) t i =
    let until : List (Event Fields) = until_replied settings v m in
    let there : World Fields = run s until w in
    let u : Standing Doings = asking committed_too settings v in
    let is : Is u.machine (reply_in settings v m s w) u.history there.consumer =
    asked_is s settings v m w (as_is v w.consumer i) in
    subst (λ (z : World Fields). IsConsumer x z.consumer) (sym (run_on s until (start_events with_settings there u x t) w))
    (started_is with_settings s there u x t is.lines is.file)

-- ---- a schedule

pub rounds_run : RoundsRun
rounds_run s settings events old new v x asked p m t h r =
    subst (λ (y : Standing Doings). Runs s settings (events ++ round_events settings v m t.turn.verdicts) y)
    (sym t.stands) (turns settings events v m t.turn p t.ends h r)

turns_run : (s : Setting Fields) (settings : Settings) (ts : List Turn) (p : Progress) (ms : List Meantime)
    (events : List (Event Fields)) (v : Standing Doings) → Ends done_too committed_too settings v ts p
    → HearsEach s settings events v ts ms → Runs s settings events v
    → Runs s settings (events ++ session_events s settings v ts ms)
    (after_turns done_too committed_too settings v ts)
turns_run s settings [] p ms events v ends h r =
    subst (λ (es : List (Event Fields)). Runs s settings es v) (sym (append-nil events)) r
turns_run s settings (t ∷ ts) p [] events v ends h r = absurd h
turns_run s settings (t ∷ ts) p (m ∷ ms) events v ends h r =
    let one : List (Event Fields) = round_events settings v m t.verdicts in
    let x : Standing Doings = after_turn done_too committed_too settings v t in
    subst (λ (es : List (Event Fields)). Runs s settings es (after_turns done_too committed_too settings x ts))
    (append_assoc events one (session_events s settings x ts ms))
    (turns_run s settings ts p ms (events ++ one) x ends.1 h.1 (turns settings events v m t (ends_before ts p) ends.0 h.0 r))

pub sessions_run : SessionsRun
sessions_run s settings events old new v x n p r ms h before =
    subst (λ (y : Standing Doings). Runs s settings (events ++ session_events s settings v r.turns ms) y)
    (sym r.stands) (turns_run s settings r.turns p ms events v r.ends h before)

pub runs_are_events : RunsAreEvents
runs_are_events s settings events v (begins k worker started) = record {
  machine = sym started.machine;
  answer = refl;
  lines = refl;
  file = refl;
}
runs_are_events s settings events v (waits k before others x h r) =
    let there : World Fields = once.after s before in
    let same : (once.after s (before ++ others)).consumer ≡ there.consumer =
    ap (λ (z : World Fields). z.consumer) (run_on s before others first_world) ∙ all_keep s others there h in
    subst (λ (c : Consumer Fields). IsConsumer x c) (sym same) (runs_are_events s k before x r)
runs_are_events s settings events y (turns k before v m t p ends h r) =
    subst (λ (z : World Fields). IsConsumer (after_turn done_too committed_too k v t) z.consumer)
    (sym (run_on s before (round_events k v m t.verdicts) first_world))
    (turn_is s (once.after s before) k v m t p ends (runs_are_events s k before v r) h)
runs_are_events s settings events y (fails k before old new v x e m f h r) =
    subst (λ (z : World Fields). IsConsumer x z.consumer)
    (sym (run_on s before (failure_events k old new v x m e f) first_world))
    (failures_are_events s (once.after s before) k old new v x e m f (runs_are_events s k before v r) h)
runs_are_events s settings events y (restarts k l before v x moment t r) =
    subst (λ (z : World Fields). IsConsumer x z.consumer)
    (sym (run_on s before (restart_events s k l (once.after s before) v x moment t) first_world))
    (starts_are_events s (once.after s before) k l v x moment t (runs_are_events s k before v r))

-- as a crash finds it, its handler did and did not commit the consumer's lines
lines_at : (s : Setting Fields) (settings : Settings) (v : Standing Doings) (moment : Moment) (w : World Fields)
    → IsConsumer v w.consumer
    → (run s (events_until settings v moment) w).consumer.lines ≡ (standing_at settings v moment).history.loose
lines_at s settings v between w i = i.lines
lines_at s settings v (within m) w i =
    let is = asked_is s settings v m w (as_is v w.consumer i) in is.lines

pub starts_read_enough : StartsReadEnough
starts_read_enough s settings events v r moment number all kept =
    let until : List (Event Fields) = events_until settings v moment in
    let before : World Fields = once.after s events in
    let there : World Fields = run s until before in
    let added : World Fields → Type 0 =
    λ z. last_added z.consumer.last_commit (take kept z.consumer.lines) ≤ number in
    let P : List (Entry Fields) → Type 0 = λ l. last_added there.consumer.last_commit (take kept l) ≤ number in
    subst P (lines_at s settings v moment before (runs_are_events s settings events v r))
    (subst added (run_on s events until first_world) (commits_are_within s (events ++ until) number all kept))

pub code_writes_once : CodeWritesOnce
code_writes_once s settings events v r =
    subst (λ (es : List (Entry Fields)). Once (ids_of es)) (runs_are_events s settings events v r).file
    (file_once s events)

pub code_writes_the_log : CodeWritesTheLog
code_writes_the_log s settings events v r e h =
    file_of_log s events e
    (subst (λ (es : List (Entry Fields)). Among e es) (sym (runs_are_events s settings events v r).file) h)

pub code_keeps_each : CodeKeepsEach
code_keeps_each s settings events v r none e h =
    let w : World Fields = once.after s events in
    subst (λ (es : List (Entry Fields)). Among e w.stream.fresh ⊎ (Among e.0 (pending_ids w.stream.pending)
    ⊎ (Among e es ⊎ Among e.0 w.stream.deleted))) (runs_are_events s settings events v r).file
    (each_is_kept s events none e h)

pub code_writes_in_order : CodeWritesInOrder
code_writes_in_order s settings events v r order =
    subst (λ (es : List (Entry Fields)). AreFirst es (log (once.after s events)))
    (runs_are_events s settings events v r).file (file_is_first_of_log s events order)

pub code_writes_the_records : CodeWritesTheRecords
code_writes_the_records s fit settings events v r none order done drained =
    sym (runs_are_events s settings events v r).file ∙ what_goes_in_comes_out s fit events none order done drained
