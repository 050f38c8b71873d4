-- The rounds of a worker that checks its file are events of `model_server::failover`.
use Rattle.std.proofs.Common.{◌≡◌, ◌⊎◌, ◌≤◌, ◌+◌, ◌-◌, inl, inr, refl, sym, ap, subst, ◌∙◌, arith, ℕ, List, [], ◌∷◌, ◌++◌}
use Rattle.std.proofs.Common.{true, false, Bool, Option, Some, None, map, if◌then◌else◌}
use Rattle.std.proofs.lemmas.Bool.{false≢true, and_from, not_from_false, lt-ltb, le-ltb}
use Rattle.std.specs.Prelude.{nat_lt, not}
use Rattle.redis_connection.specs.Link.{Link}
use Rattle.redis_resp.specs.Tree.{Tree}
use Rattle.redis_wire.specs.Reply as wire
use Rattle.worker.specs.declared.confirm.error.RoundError.{RoundError}
use Rattle.worker.specs.declared.confirm.error.RoundError.TheVariants as ends
use Rattle.model_server.specs.Failover.Lookup.{looks_up}
use Rattle.model_server.specs.Failover.World.{World, Event, Plain, Arrive_waits, Ask_waits, Failover, happens, run, plainly, fails_over}
use Rattle.model_server.specs.Failover.World.{is_confirmed}
use Rattle.redis_connection.specs.declared.wait.Wait.{Wait}
use Rattle.model_workers.specs.Files.Files.{Fields}
use Rattle.model_server.specs.Group.Group.{ids_of}
use Rattle.model_server.specs.Group.Worker.{Id, Verdict, Machine, Phase, own, Answer, entries_in, told_in, after}
use Rattle.model_server.specs.Group.Worker.{begins_again, begins_with}
use Rattle.model_server.specs.Group.World as group
use Rattle.model_server.specs.Group.World.{item}
use Rattle.model_server.specs.Once.Consumer.{Consumer, is_idle, last_lines, reconnects}
use Rattle.model_server.specs.Once.World.{Setting, Take, Reconnect, asked, acknowledges}
use Rattle.model_server.specs.Once.World as once
use Rattle.std.specs.Option.{is_none}
use Rattle.std.specs.Prelude.{codes}
use Rattle.model_workers.specs.System.Once.{IsOfOthers, IsHeard, committing, unasked_events}
use Rattle.worker.specs.Answered.{Failed, WasCut}
use Rattle.worker.specs.Answers.{Heard, told, no_group, group_made, group_after, hears}
use Rattle.worker.specs.Handling.{with_all}
use Rattle.worker.specs.Machine.{at_request, history_at_request}
use Rattle.worker.specs.Questions.{count_asked}
use Rattle.worker.specs.Requested.{Unasked}
use Rattle.worker.specs.Session.{Standing, Turned, Breaks, Fails, IsUnanswered, EndsBy, after_failure, having_heard}
use Rattle.worker.specs.declared.error.RequestError.{RequestError}
use Rattle.worker.specs.declared.error.RequestError.TheVariants.{NotCommitted, TooLong, Memory}
use Rattle.worker.specs.declared.error.RunError.{RunError}
use Rattle.worker.specs.declared.error.RunError.TheVariants as causes
use Rattle.worker.specs.declared.error.WorkerError.{WorkerError}
use Rattle.worker.specs.declared.error.WorkerError.TheVariants as faults
use Rattle.worker.specs.declared.state.Asked.{Asked}
use Rattle.worker.specs.declared.state.GroupState.{GroupState}
use Rattle.worker.specs.declared.state.Settings.{Settings}
use Rattle.worker.specs.declared.worker.Progress.{Progress}
use Rattle.model_workers.specs.Failover.Keeps.{Keeps, LooksUp}
use Rattle.model_workers.specs.Failover.Rounds.{IsConsumer, IsBesides, AreBesides, Fate, comes, comes_not, Meantime, question_events}
use Rattle.model_workers.specs.Failover.Rounds.{IsSaid, now_asking, until_asked, question, until_replied, HearsTheReply, events_by}
use Rattle.model_workers.specs.Failover.Rounds.{IsRound, cut_by, handled_of, events_of, HearsIt}
use Rattle.model_workers.specs.Failover.Rounds.{IsFailure, failure_events, FailsHearing, again, StartsOver, start_events}
use Rattle.model_workers.specs.Failover.Rounds.{file_left, added_last}
use Rattle.model_workers.specs.Failover.Schedule.{IsServed, round_events}

-- the machine in another phase
abbrev at_phase : Machine → Phase → Machine
at_phase m p = record m { phase = p }

abbrev machine_with : ℕ → Phase → (to_commit to_acknowledge : List Id) → Machine
machine_with every phase to_commit to_acknowledge = record {
  every = every;
  phase = phase;
  to_commit = to_commit;
  to_acknowledge = to_acknowledge;
}

-- the world with this consumer
abbrev with_consumer : World Fields → Consumer Fields → World Fields
with_consumer w c = record w { now = record w.now { consumer = c } }

not_true : (x : Bool) → (x ≡ true → ⊥) → x ≡ false
not_true true h = absurd (h refl)
not_true false h = refl

-- what holds of the world with this consumer holds of the world
over : (P : World Fields → Type 0) (w : World Fields) (c : Consumer Fields) → c ≡ w.now.consumer
    → P (with_consumer w c) → P w
over P w c e h = subst (λ (x : Consumer Fields). P (with_consumer w x)) e h

as_consumer : (m : Machine) (c : Consumer Fields) → c.machine ≡ m → c.answer ≡ None
    → (let r : Consumer Fields = record c { machine = m; answer = None } in r) ≡ c
as_consumer m c machine answer = sym (
    ap (λ (x : Machine). let r : Consumer Fields = record c { machine = x } in r) machine
    ∙ ap (λ (x : Option (Answer Fields)). let r : Consumer Fields = record c { machine = m; answer = x } in r) answer)

whichever : (P : Consumer Fields → Type 0) (b : Bool) (u v : once.World Fields) → P u.consumer → P v.consumer
    → P (if b then u else v).consumer
whichever P true u v h k = h
whichever P false u v h k = k

-- enough replicas confirm a request that arrives, if it is to be confirmed
abbrev pub IsEnough : Option Wait → Fate → Type 0
IsEnough None fate = Unit {0}
IsEnough (Some w) (comes pick next said) = is_confirmed w.replicas said ≡ true
IsEnough (Some w) comes_not = Unit {0}

enough_of : (w : Wait) (fate : Fate) (n : ℕ) → w.replicas ≤ n → IsSaid fate n → IsEnough (Some w) fate
enough_of w (comes pick next said) n many is =
    let enough : w.replicas ≤ said = omega (arith, many, is) in
    and_from (nat_lt 0 w.replicas) (not (nat_lt said w.replicas)) (lt-ltb 0 w.replicas w.some)
    (not_from_false (nat_lt said w.replicas) (le-ltb said w.replicas enough))
enough_of w comes_not n many is = tt

-- a reply that comes leaves no other on the way
quiet : (vs : List Verdict) (c : Consumer Fields) (o : Option (Answer Fields)) → c.answer ≡ o
    → (looks_up vs o c).answer ≡ None
quiet vs c None e = e
quiet vs c (Some a) e = refl

module _ (s : Setting Fields) where
  pub run_on : (es more : List (Event Fields)) (w : World Fields) → run s (es ++ more) w ≡ run s more (run s es w)
  run_on [] more w = refl
  run_on (e ∷ es) more w = run_on es more (happens s w e)

  -- ---- events of others

  plain_keeps : (w : once.World Fields) (e : once.Event Fields) → IsOfOthers e → (plainly s w e).consumer ≡ w.consumer
  plain_keeps w (once.Send n) h = refl
  plain_keeps w (once.Arrive b) h = refl
  plain_keeps w (once.Arrive_late j b) h = refl
  plain_keeps w once.Hear h = refl
  plain_keeps w once.Break h = refl
  plain_keeps w (once.Ask n pick next) h = absurd h
  plain_keeps w (once.Take vs) h = absurd h
  plain_keeps w once.Sync h = absurd h
  plain_keeps w once.Acknowledge_now h = absurd h
  plain_keeps w once.Acknowledge_later h = absurd h
  plain_keeps w once.Reconnect h = absurd h
  plain_keeps w (once.Restart every kept more) h = absurd h
  plain_keeps w (once.Else e) h = refl

  module _ (calm : Bool) (P : Consumer Fields → Type 0)
      (broken : calm ≡ false → (c : Consumer Fields) → P c → P (reconnects c)) where
    gone : (w : World Fields) (o : Option (group.World Fields)) → calm ≡ false → P w.now.consumer
        → P (fails_over w o).now.consumer
    gone w None h i = i
    gone w (Some e) h i = broken h w.now.consumer i

    keeps : (w : World Fields) (e : Event Fields) → IsBesides calm e → P w.now.consumer → P (happens s w e).now.consumer
    keeps w (Plain e) h i = subst P (sym (plain_keeps w.now e h)) i
    keeps w (Arrive_waits b asked said) h i =
        let there : once.World Fields = once.happens s w.now (once.Arrive b) in
        whichever P (is_confirmed asked said) there (once.happens s there once.Break) i i
    keeps w (Ask_waits n pick next asked said) h i = absurd h
    keeps w (Failover which) h i = gone w (item w.kept which) h i

    pub all_keep : (es : List (Event Fields)) (w : World Fields) → AreBesides calm es → P w.now.consumer
        → P (run s es w).now.consumer
    all_keep [] w h i = i
    all_keep (e ∷ es) w h i = all_keep es (happens s w e) h.1 (keeps w e h.0 i)

module _ {R : Type 0} (k : Keeps R) where
  -- the consumer has this machine, in some phase, and in just this one if all is calm; and this is what its handler has
  pub record Is (calm : Bool) (m : Machine) (r : R) (c : Consumer Fields) : Type 0 where
    pub phase : Phase
    pub machine : c.machine ≡ at_phase m phase
    pub same : calm ≡ true → phase ≡ m.phase
    pub history : r ≡ k.written c.lines c.file

  -- and no reply is on the way
  abbrev pub Rests : Bool → Machine → R → Consumer Fields → Type 0
  Rests calm m r c = Is calm m r c × (c.answer ≡ None)

  pub as_is : (calm : Bool) (v : Standing R) (c : Consumer Fields) → IsConsumer k v c → Rests calm v.machine v.history c
  as_is calm v c i =
      (record { phase = v.machine.phase; machine = i.machine; same = λ t. refl; history = i.history }, i.answer)

  pub is_one : (v : Standing R) (c : Consumer Fields) → Rests true v.machine v.history c → IsConsumer k v c
  is_one v c i = record {
    machine = i.0.machine ∙ ap (at_phase v.machine) (i.0.same refl);
    answer = i.1;
    history = i.0.history;
  }

  -- ---- a break

  again_is : (calm : Bool) (m : Machine) (r : R) → calm ≡ false → (c : Consumer Fields) → Is calm m r c
      → Is calm m r (reconnects c)
  again_is calm m r h c i = record {
    phase = own (codes "0");
    machine = ap begins_again i.machine;
    same = λ t. absurd (false≢true (sym h ∙ t));
    history = i.history;
  }

  pub rests_again : (calm : Bool) (m : Machine) (r : R) → calm ≡ false → (c : Consumer Fields) → Rests calm m r c
      → Rests calm m r (reconnects c)
  rests_again calm m r h c i = (again_is calm m r h c i.0, refl)

  -- the worker began again too
  reconnected : (x : Standing R) (c : Consumer Fields) (m : Machine) (r : R) → Is false m r c
      → x.machine ≡ begins_again m → x.history ≡ r → IsConsumer k x (reconnects c)
  reconnected x c m r i em er = record {
    machine = ap begins_again i.machine ∙ sym em;
    answer = refl;
    history = er ∙ i.history;
  }

  -- with another reply on the way
  answering : (calm : Bool) (m : Machine) (r : R) (c : Consumer Fields) (o : Option (Answer Fields)) → Is calm m r c
      → Is calm m r (record c { answer = o })
  answering calm m r c o i = record { phase = i.phase; machine = i.machine; same = i.same; history = i.history }

  module _ (law : LooksUp k) (s : Setting Fields) where
    -- ---- a commit

    commits_it : (calm : Bool) (r : R) (every : ℕ) (p q : Phase) (to_commit to_acknowledge : List Id) (c : Consumer Fields)
        (w : World Fields) → (calm ≡ true → q ≡ p) → r ≡ k.written c.lines c.file
        → Rests calm (at_request (machine_with every p to_commit to_acknowledge))
        (history_at_request k.with_commit (machine_with every p to_commit to_acknowledge) r)
        (run s (map Plain (committing (machine_with every p to_commit to_acknowledge)))
        (with_consumer w (record c { machine = machine_with every q to_commit to_acknowledge; answer = None }))).now.consumer
    commits_it calm r every p q [] [] c w same h =
        (record { phase = q; machine = refl; same = same; history = h }, refl)
    commits_it calm r every p q (i ∷ ids) [] c w same h =
        (record { phase = q; machine = refl; same = same; history = ap k.with_commit h ∙ law.commit c.lines c.file }, refl)
    commits_it calm r every p q ids (j ∷ js) c w same h =
        (record { phase = q; machine = refl; same = same; history = h }, refl)

    committed_is : (calm : Bool) (m : Machine) (r : R) (w : World Fields) → Rests calm m r w.now.consumer
        → Rests calm (at_request m) (history_at_request k.with_commit m r) (run s (map Plain (committing m)) w).now.consumer
    committed_is calm m r w i =
        let c : Consumer Fields = w.now.consumer in
        let q : Phase = i.0.phase in
        over (λ u. Rests calm (at_request m) (history_at_request k.with_commit m r)
        (run s (map Plain (committing m)) u).now.consumer) w (record c { machine = at_phase m q; answer = None })
        (as_consumer (at_phase m q) c i.0.machine i.1)
        (commits_it calm r m.every m.phase q m.to_commit m.to_acknowledge c w i.0.same i.0.history)

    -- ---- a request

    asked_keeps : (calm : Bool) (m : Machine) (r : R) (w : once.World Fields) (n : ℕ) (pick : Id → Bool) (next : Id)
        → Is calm m r w.consumer → Is calm m r (once.happens s w (once.Ask n pick next)).consumer
    asked_keeps calm m r w n pick next i =
        let there : once.World Fields = asked s.name n pick next w in
        whichever (Is calm m r) (is_idle w.consumer) there w
        (answering calm m r w.consumer there.consumer.answer i) i

    -- WAIT is confirmed, or the worker is to begin again
    waits_it : (P : Consumer Fields → Type 0) (calm b : Bool) (u v : once.World Fields) → (calm ≡ true → b ≡ true)
        → P u.consumer → (calm ≡ false → P v.consumer) → P (if b then u else v).consumer
    waits_it P calm true u v enough h g = h
    waits_it P calm false u v enough h g = g (not_true calm (λ t. false≢true (enough t)))

    asks_it : (calm : Bool) (m : Machine) (r : R) (wait : Option Wait) (n : ℕ) (fate : Fate) (ids : List Id)
        (w : World Fields) → (calm ≡ true → IsEnough wait fate) → Is calm m r w.now.consumer
        → Is calm m r (run s (question_events wait n fate ids) w).now.consumer
    asks_it calm m r None n (comes pick next said) [] w enough i = asked_keeps calm m r w.now n pick next i
    asks_it calm m r (Some a) n (comes pick next said) [] w enough i =
        let there : once.World Fields = once.happens s w.now (once.Ask n pick next) in
        let is : Is calm m r there.consumer = asked_keeps calm m r w.now n pick next i in
        waits_it (Is calm m r) calm (is_confirmed a.replicas said) there (once.happens s there once.Reconnect) enough is
        (λ h. again_is calm m r h there.consumer is)
    asks_it calm m r wait n (comes pick next said) (j ∷ js) w enough i =
        let there : once.World Fields = acknowledges s.name w.now in
        whichever (Is calm m r) (is_none w.now.consumer.answer) there w.now
        (answering calm m r w.now.consumer there.consumer.answer i) i
    asks_it calm m r wait n comes_not [] w enough i = i
    asks_it calm m r wait n comes_not (j ∷ js) w enough i = i

    module _ (wait : Option Wait) (settings : Settings) (v : Standing R) {calm : Bool} (m : Meantime calm) (w : World Fields)
        (i : IsConsumer k v w.now.consumer) (enough : calm ≡ true → IsEnough wait m.fate) where
      abbrev u : Standing R
      u = now_asking k wait settings v

      -- as the reply is there, or is known not to come
      pub replied_is : Is calm u.machine u.history (run s (until_replied k wait settings v m) w).now.consumer
      replied_is =
          let commit : List (Event Fields) = map Plain (committing v.machine) in
          let ask : List (Event Fields) = question k wait settings v m in
          let w1 : World Fields = run s m.before w in
          let w2 : World Fields = run s commit w1 in
          let w3 : World Fields = run s m.earlier w2 in
          let w4 : World Fields = run s ask w3 in
          let begun : run s (until_asked k wait settings v m) w ≡ w3 =
          run_on s m.before (commit ++ m.earlier) w ∙ run_on s commit m.earlier w1 in
          let same : run s (until_replied k wait settings v m) w ≡ run s m.later w4 =
          run_on s (until_asked k wait settings v m) (ask ++ m.later) w
          ∙ (ap (λ (z : World Fields). run s (ask ++ m.later) z) begun ∙ run_on s ask m.later w3) in
          let i1 : Rests calm v.machine v.history w1.now.consumer =
          all_keep s calm (Rests calm v.machine v.history) (rests_again calm v.machine v.history) m.before w m.before_besides
          (as_is calm v w.now.consumer i) in
          let i2 : Rests calm u.machine u.history w2.now.consumer = committed_is calm v.machine v.history w1 i1 in
          let i3 : Is calm u.machine u.history w3.now.consumer =
          all_keep s calm (Is calm u.machine u.history) (again_is calm u.machine u.history) m.earlier w2 m.earlier_besides
          i2.0 in
          let i4 : Is calm u.machine u.history w4.now.consumer =
          asks_it calm u.machine u.history wait (count_asked settings u.machine.phase) m.fate u.machine.to_acknowledge w3
          enough i3 in
          subst (λ (z : World Fields). Is calm u.machine u.history z.now.consumer) (sym same)
          (all_keep s calm (Is calm u.machine u.history) (again_is calm u.machine u.history) m.later w4 m.later_besides i4)

    -- ---- a reply

    taken : (calm : Bool) (a : Answer Fields) (vs : List Verdict) (m : Machine) (r : R) (c : Consumer Fields)
        → c.answer ≡ Some a → Is calm m r c
        → Is calm (after m a vs) (with_all k.with_verdict r (told_in (entries_in a) vs)) (looks_up vs c.answer c)
    taken calm a vs m r c e i =
        let now : R = with_all k.with_verdict r (told_in (entries_in a) vs) in
        let there : Consumer Fields = looks_up vs (Some a) c in
        subst (λ (o : Option (Answer Fields)). Is calm (after m a vs) now (looks_up vs o c)) (sym e)
        (record {
          phase = there.machine.phase;
          machine = taken_machine a vs m i.phase c i.machine;
          same = λ t. ap (λ (x : Machine). (after x a vs).phase) (i.machine ∙ ap (at_phase m) (i.same t));
          history = ap (λ (x : R). with_all k.with_verdict x (told_in (entries_in a) vs)) i.history
              ∙ law.reply c.lines c.file (entries_in a) vs;
        })
      where
        taken_machine : (a : Answer Fields) (vs : List Verdict) (m : Machine) (q : Phase) (c : Consumer Fields)
            → c.machine ≡ at_phase m q → after c.machine a vs ≡ at_phase (after m a vs) (after c.machine a vs).phase
        taken_machine a vs m q c e =
            let P : Machine → Type 0 = λ x. after x a vs ≡ at_phase (after m a vs) (after x a vs).phase in
            subst P (sym e) refl

    heard_is : (o : Option Heard) (vs : List Verdict) (p : Progress) (y : Standing R) (g : GroupState) (c : Consumer Fields)
        → EndsBy o vs p → IsHeard c.answer o → Is true y.machine y.history c
        → Is true (having_heard k.with_verdict y g o vs).machine (having_heard k.with_verdict y g o vs).history
        (looks_up vs c.answer c)
    heard_is None vs p y g c e h i = absurd e
    heard_is (Some (told a)) vs p y g c e h i = taken true a vs y.machine y.history c h i
    heard_is (Some no_group) vs p y g c e h i =
        subst (λ (o : Option (Answer Fields)). Is true y.machine y.history (looks_up vs o c)) (sym h) i
    heard_is (Some group_made) vs p y g c e h i =
        subst (λ (o : Option (Answer Fields)). Is true y.machine y.history (looks_up vs o c)) (sym h) i

    -- ---- a round that returns Ok

    turned_is : (wait : Option Wait) (settings : Settings) (old new : Link) (v x : Standing R) (asked : Asked) (p : Progress)
        (m : Meantime true) (w : World Fields)
        (t : Turned k.with_verdict k.with_commit settings old new v x asked p) → IsEnough wait m.fate
        → IsConsumer k v w.now.consumer → HearsTheReply k wait settings v m s w t.turn.answer
        → IsConsumer k x (run s (until_replied k wait settings v m ++ Plain (Take t.turn.verdicts) ∷ []) w).now.consumer
    turned_is wait settings old new v x asked p m w t enough i h =
        let u : Standing R = now_asking k wait settings v in
        let vs : List Verdict = t.turn.verdicts in
        let g : GroupState = group_after settings u.group u.asked t.turn.answer in
        let o : Option Heard = hears settings u.asked t.turn.answer in
        let y : Standing R = having_heard k.with_verdict u g o vs in
        let until : List (Event Fields) = until_replied k wait settings v m in
        let c : Consumer Fields = (run s until w).now.consumer in
        subst (λ (z : World Fields). IsConsumer k x z.now.consumer) (sym (run_on s until (Plain (Take vs) ∷ []) w))
        (subst (λ (z : Standing R). IsConsumer k z (looks_up vs c.answer c)) (sym t.stands)
        (is_one y (looks_up vs c.answer c)
        (heard_is o vs p u g c t.ends h (replied_is wait settings v m w i (λ e. enough)), quiet vs c c.answer refl)))

    pub round_is : (wait : Option Wait) (settings : Settings) (old new : Link) (v x : Standing R) (asked : Asked)
        (p : Progress) (m : Meantime true) (w : World Fields) (r : IsRound k settings v x wait old new asked p)
        → IsConsumer k v w.now.consumer → IsServed k s wait settings old new v x asked p m w r
        → IsConsumer k x (run s (round_events k s wait settings old new v x asked p m r) w).now.consumer
    round_is None settings old new v x asked p m w r i h =
        turned_is None settings old new v x asked p m w r tt i h.reply
    round_is (Some a) settings old new v x asked p m w r i h =
        turned_is (Some a) settings old r.link v x asked p m w r.turned (enough_of a m.fate r.confirmed.0 r.confirmed.2 h.heard) i
        h.reply

    -- ---- a round that fails

    also : (v y : Standing R) (w : World Fields)
        → Rests true (at_request v.machine) (history_at_request k.with_commit v.machine v.history)
        (run s (map Plain (committing v.machine)) w).now.consumer
        → y.machine ≡ at_request v.machine → y.history ≡ history_at_request k.with_commit v.machine v.history
        → IsConsumer k y (run s (map Plain (committing v.machine)) w).now.consumer
    also v y w is em er = record {
      machine = is.0.machine ∙ (ap (at_phase (at_request v.machine)) (is.0.same refl) ∙ sym em);
      answer = is.1;
      history = er ∙ is.0.history;
    }

    unasked_is : (v y : Standing R) (w : World Fields) → IsConsumer k v w.now.consumer → (e : RequestError)
        → Unasked k.with_commit v.machine y.machine v.history y.history e
        → IsConsumer k y (run s (map Plain (unasked_events v.machine e)) w).now.consumer
    unasked_is v y w i NotCommitted f = record {
      machine = i.machine ∙ sym f.1;
      answer = i.answer;
      history = f.2 ∙ i.history;
    }
    unasked_is v y w i TooLong f =
        let is = committed_is true v.machine v.history w (as_is true v w.now.consumer i) in
        also v y w is f.0 f.1
    unasked_is v y w i Memory f =
        let is = committed_is true v.machine v.history w (as_is true v w.now.consumer i) in
        also v y w is f.0 f.1

    module _ (wait : Option Wait) (settings : Settings) (v : Standing R) (m : Meantime false) (w : World Fields)
        (i : IsConsumer k v w.now.consumer) where
      abbrev now : Standing R
      now = now_asking k wait settings v

      abbrev until : List (Event Fields)
      until = until_replied k wait settings v m

      there_is : Is false now.machine now.history (run s until w).now.consumer
      there_is = replied_is wait settings v m w i (λ e. absurd (false≢true e))

      -- nothing was handled
      pub broke_off : (x : Standing R) → x.machine ≡ begins_again now.machine → x.history ≡ now.history
          → IsConsumer k x (run s (until ++ Plain Reconnect ∷ []) w).now.consumer
      broke_off x em er =
          subst (λ (z : World Fields). IsConsumer k x z.now.consumer) (sym (run_on s until (Plain Reconnect ∷ []) w))
          (reconnected x (run s until w).now.consumer now.machine now.history there_is em er)

      no_reply : (y : Standing R) → y ≡ now → IsConsumer k (again y) (run s (until ++ Plain Reconnect ∷ []) w).now.consumer
      no_reply y is = broke_off (again y) (ap (λ (z : Standing R). begins_again z.machine) is)
          (ap (λ (z : Standing R). z.history) is)

      pub unanswered_is : (old new : Link) (y : Standing R) (e : RunError)
          → IsUnanswered k.with_commit settings old new v y e
          → IsConsumer k (after_failure e y) (run s (events_by k wait settings v m e []) w).now.consumer
      unanswered_is old new y (causes.Request e) b = unasked_is v y w i e b.1
      unanswered_is old new y (causes.Send e) b = no_reply y b.0
      unanswered_is old new y (causes.Receive named e) b = no_reply y b.0
      unanswered_is old new y (causes.Answer e) b = absurd b

      memory : (y : Standing R) (a : wire.Answer) (t : Tree) → a ≡ wire.value t → HearsTheReply k wait settings v m s w a
          → (how : ((y.machine ≡ begins_again now.machine) × (y.history ≡ now.history))
          ⊎ WasCut k.with_verdict settings now.asked t now.machine y.machine now.history y.history)
          → IsConsumer k (again y) (run s (until ++ (cut_by k settings how ++ Plain Reconnect ∷ [])) w).now.consumer
      memory y a t is h (inl none) = broke_off (again y) (ap begins_again none.0) none.1
      memory y a t is h (inr some) =
          let there : World Fields = run s until w in
          let c : Consumer Fields = there.now.consumer in
          let vs : List Verdict = some.took.verdicts in
          let heard : c.answer ≡ Some some.answer =
          subst (λ (o : Option Heard). IsHeard c.answer o) (ap (hears settings now.asked) is ∙ some.said) h in
          subst (λ (z : World Fields). IsConsumer k (again y) z.now.consumer)
          (sym (run_on s until (Plain (Take vs) ∷ Plain Reconnect ∷ []) w))
          (reconnected (again y) (looks_up vs c.answer c) (after now.machine some.answer vs)
          (with_all k.with_verdict now.history (told_in (entries_in some.answer) vs))
          (taken false some.answer vs now.machine now.history c heard there_is)
          (ap begins_again some.took.machine) some.took.history)

      refused : (y : Standing R) (a : wire.Answer) → HearsTheReply k wait settings v m s w a → (e : WorkerError)
          → (f : Failed k.with_verdict settings now.asked a now.machine y.machine now.history y.history e)
          → IsConsumer k (again y) (run s (until
          ++ (handled_of k settings now.asked a now.machine y.machine now.history y.history e f
          ++ Plain Reconnect ∷ [])) w).now.consumer
      refused y a h faults.NotAsked f = broke_off (again y) (ap begins_again f.1) f.2
      refused y a h (faults.Server e) f = broke_off (again y) (ap begins_again f.4) f.5
      refused y a h (faults.GroupIsGone e) f = broke_off (again y) (ap begins_again f.3) f.4
      refused y a h faults.NotAnAnswer f = broke_off (again y) (ap begins_again f.2) f.3
      refused y a h (faults.Parsing e) f = broke_off (again y) (ap begins_again f.2) f.3
      refused y a h faults.OtherStream f = broke_off (again y) (ap begins_again f.2) f.3
      refused y a h (faults.NilFields id) f = broke_off (again y) (ap begins_again f.2) f.3
      refused y a h faults.Memory f = memory y a f.0 f.1 h f.2

      failed : (old new : Link) (x y : Standing R) (e : RunError)
          (b : Breaks k.with_verdict k.with_commit settings old new v y e) (is : x ≡ after_failure e y)
          → HearsIt k settings v x wait m s w old new e (y, b, is)
          → IsConsumer k (after_failure e y) (run s (events_of k settings v x wait m old new e (y, b, is)) w).now.consumer
      failed old new x y (causes.Request e) b is h = unanswered_is old new y (causes.Request e) b
      failed old new x y (causes.Send e) b is h = unanswered_is old new y (causes.Send e) b
      failed old new x y (causes.Receive named e) b is h = unanswered_is old new y (causes.Receive named e) b
      failed old new x y (causes.Answer e) b is h = refused y b.0 h e.error b.2

      fails_is : (old new : Link) (x : Standing R) (e : RunError)
          (f : Fails k.with_verdict k.with_commit settings old new v x e) → HearsIt k settings v x wait m s w old new e f
          → IsConsumer k x (run s (events_of k settings v x wait m old new e f) w).now.consumer
      fails_is old new x e f h =
          subst (λ (z : Standing R). IsConsumer k z (run s (events_of k settings v x wait m old new e f) w).now.consumer)
          (sym f.2) (failed old new x f.0 e f.1 f.2 h)

    pub failure_is : (wait : Option Wait) (settings : Settings) (old new : Link) (v x : Standing R) (e : RoundError)
        (m : Meantime false) (w : World Fields) (f : IsFailure k settings v x wait old new e)
        → IsConsumer k v w.now.consumer → FailsHearing k settings v x s w wait m old new e f
        → IsConsumer k x (run s (failure_events k settings v x wait m old new e f) w).now.consumer
    failure_is None settings old new v x (ends.Run e) m w f i h = fails_is None settings v m w i old new x e f h
    failure_is None settings old new v x (ends.Unconfirmed e) m w f i h = absurd f
    failure_is (Some a) settings old new v x (ends.Run e) m w (inl f) i h =
        subst (λ (z : Standing R). IsConsumer k z (run s (events_by k (Some a) settings v m e []) w).now.consumer)
        (sym f.2) (unanswered_is (Some a) settings v m w i old new f.0 e f.1)
    failure_is (Some a) settings old new v x (ends.Run e) m w (inr f) i h =
        fails_is (Some a) settings v m w i old f.link x e f.fails h
    failure_is (Some a) settings old new v x (ends.Unconfirmed e) m w f i h =
        let u : Standing R = now_asking k (Some a) settings v in
        let es : List (Event Fields) = until_replied k (Some a) settings v m ++ Plain Reconnect ∷ [] in
        subst (λ (z : Standing R). IsConsumer k z (run s es w).now.consumer) (sym f.stands)
        (broke_off (Some a) settings v m w i (record f.standing { machine = begins_again f.standing.machine })
        (ap (λ (z : Standing R). begins_again z.machine) f.asked.0) (ap (λ (z : Standing R). z.history) f.asked.0))

    -- ---- a break

    pub break_is : (others : List (Event Fields)) (v : Standing R) (w : World Fields) → AreBesides false others
        → IsConsumer k v w.now.consumer → IsConsumer k (again v) (run s (others ++ Plain Reconnect ∷ []) w).now.consumer
    break_is others v w h i =
        let is : Is false v.machine v.history (run s others w).now.consumer =
        all_keep s false (Is false v.machine v.history) (again_is false v.machine v.history) others w h
        (let j = as_is false v w.now.consumer i in j.0) in
        subst (λ (z : World Fields). IsConsumer k (again v) z.now.consumer) (sym (run_on s others (Plain Reconnect ∷ []) w))
        (reconnected (again v) (run s others w).now.consumer v.machine v.history is refl refl)

    -- ---- a start

    pub start_is : (settings : Settings) (w : World Fields) (x : Standing R) (t : StartsOver k settings w.now.consumer x)
        → IsConsumer k x (run s (start_events k settings w.now.consumer x t) w).now.consumer
    start_is settings w x t =
        let c : Consumer Fields = w.now.consumer in
        let added : ℕ = added_last c t.kept in
        let number : added + (t.number - added) ≡ t.number = omega (arith, t.enough) in
        subst (λ (z : Standing R). IsConsumer k z (run s (start_events k settings c x t) w).now.consumer) (sym t.stands)
        (record {
          machine = ap (λ n. begins_with settings.every (ids_of (last_lines n (file_left c t.kept)))) number
              ∙ sym t.started.machine;
          answer = refl;
          history = refl;
        })
