-- The questions of a worker's code bring entries again one at a time.
use Rattle.std.proofs.Common.{◌≡◌, ◌⊎◌, inl, inr, sym, ap, subst, ℕ, ◌≤◌, arith, Bool, true, false}
use Rattle.std.proofs.Common.{List, [], ◌∷◌, ◌++◌, length, None, if◌then◌else◌}
use Rattle.redis_connection.specs.Link.{Link}
use Rattle.redis_wire.specs.Reply as wire
use Rattle.model_server.specs.Group.Worker.{Id, Machine, Phase, own, claiming, reading, entries_in, begins_again}
use Rattle.model_server.specs.Group.Group.{Name}
use Rattle.model_server.specs.Group.World as group
use Rattle.model_server.specs.Once.Alone.{asked_again, again, OneAtATime}
use Rattle.model_server.specs.Once.Consumer.{is_idle, answer_for}
use Rattle.model_server.specs.Once.Law as once
use Rattle.model_server.specs.Once.World.{Setting, World, Event, Send, Arrive, Arrive_late, Hear, Break, Ask, Take, Sync}
use Rattle.model_server.specs.Once.World.{Acknowledge_now, Acknowledge_later, Reconnect, Restart, Else, first_world, happens}
use Rattle.model_server.specs.Once.World.{run}
use Rattle.model_server.proofs.OnceLemmas.Alone.{each_is_counted_alone}
use Rattle.model_workers.specs.Files.Files.{Fields}
use Rattle.worker.specs.Answered.{Failed, WasCut}
use Rattle.worker.specs.Gathered.{Doings, done_too, committed_too}
use Rattle.worker.specs.Machine.{commits, at_request}
use Rattle.worker.specs.Questions.{count_asked}
use Rattle.worker.specs.Session.{Standing, Fails, asking}
use Rattle.worker.specs.declared.error.RequestError.{RequestError}
use Rattle.worker.specs.declared.error.RequestError.TheVariants.{NotCommitted, TooLong, Memory}
use Rattle.worker.specs.declared.error.RunError.{RunError}
use Rattle.worker.specs.declared.error.RunError.TheVariants as causes
use Rattle.worker.specs.declared.error.WorkerError.{WorkerError}
use Rattle.worker.specs.declared.error.WorkerError.TheVariants as faults
use Rattle.worker.specs.declared.state.Asked.{Asked}
use Rattle.worker.specs.declared.state.Settings.{Settings}
use Rattle.model_workers.specs.System.Alone.{KeepsToCount, AllKeepToCount, StartsAlone, CodeIsCountedAlone}
use Rattle.model_workers.specs.System.Once.{AreOfOthers, IsOfOthers, Fate, comes, comes_not, Meantime, committing, question_events}
use Rattle.model_workers.specs.System.Once.{count, until_asked, until_replied, round_events, unasked_events, cut_by, handled_of}
use Rattle.model_workers.specs.System.Once.{failure_events, Moment, between, within, events_until, Runs, begins, waits, turns, fails}
use Rattle.model_workers.specs.System.Once.{restarts, standing_at, start_events}
use Rattle.model_workers.proofs.SystemLemmas.OnceLemmas.{Is, as_is, before_is, runs_are_events}

-- the entries that a request with COUNT 1 redelivers
asked_one : (settings : Settings) → settings.one_at_a_time ≡ true → (name : Name) (pick : Id → Bool) (next : Id)
    (phase : Phase) (w : group.World Fields)
    → length (entries_in (answer_for name (count_asked settings phase) pick next phase w)) ≤ count_asked settings phase
    → length (asked_again name pick next phase w) ≤ 1
asked_one settings one name pick next (own behind) w le =
    let n : Bool → ℕ = λ b. if b then 1 else settings.count in
    subst (λ (k : ℕ). length (asked_again name pick next (own behind) w) ≤ k) (ap n one) le
asked_one settings one name pick next (claiming from) w le =
    let n : Bool → ℕ = λ b. if b then 1 else settings.count in
    subst (λ (k : ℕ). length (asked_again name pick next (claiming from) w) ≤ k) (ap n one) le
asked_one settings one name pick next (reading rounds) w le = omega arith

-- if it sends a request, or does not
if_idle : (name : Name) (pick : Id → Bool) (next : Id) (phase : Phase) (w : group.World Fields)
    → length (asked_again name pick next phase w) ≤ 1 → (b : Bool)
    → length (if b then asked_again name pick next phase w else []) ≤ 1
if_idle name pick next phase w le true = le
if_idle name pick next phase w le false = omega arith

module _ (s : Setting Fields) where
  -- of two lists of events
  one_both : (es more : List (Event Fields)) (w : World Fields) → OneAtATime s es w → OneAtATime s more (run s es w)
      → OneAtATime s (es ++ more) w
  one_both [] more w a b = b
  one_both (e ∷ es) more w a b = (a.0, one_both es more (happens s w e) a.1 b)

  keep_first : (es more : List (Event Fields)) (w : World Fields) → AllKeepToCount s (es ++ more) w
      → AllKeepToCount s es w
  keep_first [] more w k = tt
  keep_first (e ∷ es) more w k = (k.0, keep_first es more (happens s w e) k.1)

  keep_rest : (es more : List (Event Fields)) (w : World Fields) → AllKeepToCount s (es ++ more) w
      → AllKeepToCount s more (run s es w)
  keep_rest [] more w k = k
  keep_rest (e ∷ es) more w k = keep_rest es more (happens s w e) k.1

  -- an event of others
  other_one : (w : World Fields) (e : Event Fields) → IsOfOthers e → KeepsToCount s w e → length (again s w e) ≤ 1
  other_one w (Send n) h k = omega arith
  other_one w (Arrive b) h k = omega arith
  other_one w (Arrive_late which b) h k = omega arith
  other_one w Hear h k = omega arith
  other_one w Break h k = omega arith
  other_one w (Ask n pick next) h k = absurd h
  other_one w (Take vs) h k = omega arith
  other_one w Sync h k = omega arith
  other_one w Acknowledge_now h k = omega arith
  other_one w Acknowledge_later h k = omega arith
  other_one w Reconnect h k = omega arith
  other_one w (Restart every kept more) h k = omega arith
  other_one w (Else e) h k = k

  others_one : (es : List (Event Fields)) (w : World Fields) → AreOfOthers es → AllKeepToCount s es w
      → OneAtATime s es w
  others_one [] w h k = tt
  others_one (e ∷ es) w h k = (other_one w e h.0 k.0, others_one es (happens s w e) h.1 k.1)

  commits_one : (b : Bool) (w : World Fields) → OneAtATime s (if b then Sync ∷ [] else []) w
  commits_one true w = (omega arith, tt)
  commits_one false w = tt

  -- a request
  question_one : (settings : Settings) → settings.one_at_a_time ≡ true → (u : Machine) (fate : Fate) (acks : List Id)
      (w : World Fields) → w.consumer.machine ≡ u
      → AllKeepToCount s (question_events (count_asked settings u.phase) fate acks) w
      → OneAtATime s (question_events (count_asked settings u.phase) fate acks) w
  question_one settings one u (comes pick next) [] w is k =
      let phase : Phase = w.consumer.machine.phase in
      let same : count_asked settings u.phase ≡ count_asked settings phase =
      ap (λ (m : Machine). count_asked settings m.phase) (sym is) in
      let kept = subst (λ (n : ℕ). length (entries_in (answer_for s.name n pick next phase w.stream)) ≤ n) same k.0 in (
        if_idle s.name pick next phase w.stream (asked_one settings one s.name pick next phase w.stream kept)
            (is_idle w.consumer),
        tt,
      )
  question_one settings one u (comes pick next) (i ∷ ids) w is k = (omega arith, tt)
  question_one settings one u comes_not [] w is k = tt
  question_one settings one u comes_not (i ∷ ids) w is k = (omega arith, tt)

  module _ (settings : Settings) (one : settings.one_at_a_time ≡ true) (v : Standing Doings) (m : Meantime)
      (w : World Fields) (i : Is v.machine None v.history w.consumer) where
    abbrev asked_then : List (Event Fields)
    asked_then = question_events (count settings v m) m.fate (at_request v.machine).to_acknowledge

    -- a round until its reply is there
    until_one : AllKeepToCount s (until_replied settings v m) w → OneAtATime s (until_replied settings v m) w
    until_one k =
        let asked : World Fields = run s (until_asked settings v m) w in
        let first : AllKeepToCount s (until_asked settings v m) w =
        keep_first (until_asked settings v m) (asked_then ++ m.later) w k in
        let rest : AllKeepToCount s (asked_then ++ m.later) asked =
        keep_rest (until_asked settings v m) (asked_then ++ m.later) w k in
        let committed : World Fields = run s (committing v.machine) w in
        let is = before_is s settings v m w i in
        one_both (until_asked settings v m) (asked_then ++ m.later) w
        (one_both (committing v.machine) m.earlier w
        (commits_one (commits v.machine) w)
        (others_one m.earlier committed m.earlier_others (keep_rest (committing v.machine) m.earlier w first)))
        (one_both asked_then m.later asked
        (question_one settings one (at_request v.machine) m.fate (at_request v.machine).to_acknowledge asked is.machine
        (keep_first asked_then m.later asked rest))
        (others_one m.later (run s asked_then asked) m.later_others (keep_rest asked_then m.later asked rest)))

    -- with events after it that deliver nothing
    then_one : (more : List (Event Fields)) → ((x : World Fields) → OneAtATime s more x)
        → AllKeepToCount s (until_replied settings v m ++ more) w
        → OneAtATime s (until_replied settings v m ++ more) w
    then_one more quiet k = one_both (until_replied settings v m) more w
        (until_one (keep_first (until_replied settings v m) more w k)) (quiet (run s (until_replied settings v m) w))

    taken_one : (settings' : Settings) (asked : Asked) (a : wire.Answer) (o n : Machine) (d e : Doings)
        (error : WorkerError) (f : Failed done_too settings' asked a o n d e error) (x : World Fields)
        → OneAtATime s (handled_of settings' asked a o n d e error f ++ Reconnect ∷ []) x
    taken_one settings' asked a o n d e faults.NotAsked f x = (omega arith, tt)
    taken_one settings' asked a o n d e (faults.Server why) f x = (omega arith, tt)
    taken_one settings' asked a o n d e (faults.GroupIsGone why) f x = (omega arith, tt)
    taken_one settings' asked a o n d e faults.NotAnAnswer f x = (omega arith, tt)
    taken_one settings' asked a o n d e (faults.Parsing why) f x = (omega arith, tt)
    taken_one settings' asked a o n d e faults.OtherStream f x = (omega arith, tt)
    taken_one settings' asked a o n d e (faults.NilFields id) f x = (omega arith, tt)
    taken_one settings' asked a o n d e faults.Memory f x =
        let case : (how : ((n ≡ begins_again o) × (e ≡ d))
        ⊎ WasCut done_too settings' asked f.0 o n d e) → OneAtATime s (cut_by how ++ Reconnect ∷ []) x
        = λ how. elim how as (λ h. OneAtATime s (cut_by h ++ Reconnect ∷ []) x)
        [ inl none ↦ (omega arith, tt) | inr some ↦ (omega arith, (omega arith, tt)) ] in
        case f.2

    unasked_one : (e : RequestError) → OneAtATime s (unasked_events v.machine e) w
    unasked_one NotCommitted = tt
    unasked_one TooLong = commits_one (commits v.machine) w
    unasked_one Memory = commits_one (commits v.machine) w

    failure_one : (old new : Link) (x : Standing Doings) (e : RunError)
        (f : Fails done_too committed_too settings old new v x e)
        → AllKeepToCount s (failure_events settings old new v x m e f) w
        → OneAtATime s (failure_events settings old new v x m e f) w
    failure_one old new x (causes.Request e) f k = unasked_one e
    failure_one old new x (causes.Send e) f k = then_one (Reconnect ∷ []) (λ y. (omega arith, tt)) k
    failure_one old new x (causes.Receive named e) f k = then_one (Reconnect ∷ []) (λ y. (omega arith, tt)) k
    failure_one old new x (causes.Answer e) f k =
        let u : Standing Doings = asking committed_too settings v in
        then_one (handled_of settings u.asked f.1.0 u.machine f.0.machine u.history f.0.history e.error f.1.2
        ++ Reconnect ∷ [])
        (taken_one settings u.asked f.1.0 u.machine f.0.machine u.history f.0.history e.error f.1.2) k

  -- what happened in a round that a crash ended
  moment_one : (settings : Settings) → settings.one_at_a_time ≡ true → (v : Standing Doings) (w : World Fields)
      → Is v.machine None v.history w.consumer → (moment : Moment)
      → AllKeepToCount s (events_until settings v moment) w → OneAtATime s (events_until settings v moment) w
  moment_one settings one v w i between k = tt
  moment_one settings one v w i (within m) k = until_one settings one v m w i k

  -- ---- a schedule

  is_alone : (settings : Settings) (events : List (Event Fields)) (v : Standing Doings) (r : Runs s settings events v)
      → StartsAlone r → settings.one_at_a_time ≡ true
  is_alone settings events v (begins k worker started) a = a
  is_alone settings events v (waits k before others x h r) a = is_alone k before x r a
  is_alone settings events v (turns k before x m t p ends h r) a = is_alone k before x r a
  is_alone settings events v (fails k before old new x y e m f h r) a = is_alone k before x r a
  is_alone settings events v (restarts k l before x y moment t r) a = a.0

  all_one : (settings : Settings) (events : List (Event Fields)) (v : Standing Doings) (r : Runs s settings events v)
      → StartsAlone r → AllKeepToCount s events first_world → OneAtATime s events first_world
  all_one settings events v (begins k worker started) a keep = (omega arith, tt)
  all_one settings events v (waits k before others x h r) a keep =
      one_both before others first_world (all_one k before x r a (keep_first before others first_world keep))
      (others_one others (once.after s before) h (keep_rest before others first_world keep))
  all_one settings events v (turns k before x m t p ends h r) a keep =
      let now : List (Event Fields) = round_events k x m t.verdicts in
      let w : World Fields = once.after s before in
      one_both before now first_world (all_one k before x r a (keep_first before now first_world keep))
      (then_one k (is_alone k before x r a) x m w (as_is x w.consumer (runs_are_events s k before x r))
      (Take t.verdicts ∷ []) (λ y. (omega arith, tt)) (keep_rest before now first_world keep))
  all_one settings events v (fails k before old new x y e m f h r) a keep =
      let now : List (Event Fields) = failure_events k old new x y m e f in
      let w : World Fields = once.after s before in
      one_both before now first_world (all_one k before x r a (keep_first before now first_world keep))
      (failure_one k (is_alone k before x r a) x m w (as_is x w.consumer (runs_are_events s k before x r))
      old new y e f (keep_rest before now first_world keep))
  all_one settings events v (restarts k l before x y moment t r) a keep =
      let w : World Fields = once.after s before in
      let until : List (Event Fields) = events_until k x moment in
      let start : List (Event Fields) = start_events l (run s until w) (standing_at k x moment) y t in
      let rest : AllKeepToCount s (until ++ start) w = keep_rest before (until ++ start) first_world keep in
      one_both before (until ++ start) first_world
      (all_one k before x r a.1 (keep_first before (until ++ start) first_world keep))
      (one_both until start w
      (moment_one k (is_alone k before x r a.1) x w (as_is x w.consumer (runs_are_events s k before x r)) moment
      (keep_first until start w rest)) (omega arith, tt))

pub code_is_counted_alone : CodeIsCountedAlone
code_is_counted_alone s settings events v r a keep p h =
    each_is_counted_alone s events (all_one s settings events v r a keep) p h
