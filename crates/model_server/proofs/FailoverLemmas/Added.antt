-- Each record that the producer knows to be in is in each state that the server may return to.
use Rattle.std.proofs.Common.{◌≡◌, inl, inr, refl, sym, subst, ℕ, ◌≤◌, zero, suc, arith, Bool, true, false}
use Rattle.std.proofs.Common.{List, [], ◌∷◌, ◌++◌, map, length, take, Option}
use Rattle.std.proofs.Common.{Some, None, if◌then◌else◌}
use Rattle.std.specs.Option.{is_none}
use Rattle.model_server.specs.Group.Worker.{Id, Entry}
use Rattle.model_server.specs.Group.World.{item, empty_world}
use Rattle.model_server.specs.Group.World as group
use Rattle.model_server.specs.Group.Law.{Among}
use Rattle.model_server.proofs.GroupLemmas.Among.{among_item}
use Rattle.model_server.specs.Once.Feed.{as_entry, entries, Request, ask_last, batch, known_in}
use Rattle.model_server.specs.Once.Producer.{Producer, filled_by, arrived, breaks}
use Rattle.model_server.specs.Once.Consumer.{is_idle}
use Rattle.model_server.specs.Once.World.{Setting, Send, Arrive, Arrive_late, Hear, Break, Ask, Take, Sync}
use Rattle.model_server.specs.Once.World.{Acknowledge_now, Acknowledge_later, Reconnect, Restart, Else, asked, acknowledges}
use Rattle.model_server.specs.Once.World as once
use Rattle.model_server.specs.Once.Law.{Fit, NoOtherAdd, log}
use Rattle.model_server.proofs.OnceLemmas.Fill.{KeptOf, Fed, Inv, each, at_first, entries_split, log_length}
use Rattle.model_server.specs.Failover.World.{World, Event, Plain, Arrive_waits, Ask_waits, Failover, fails_over}
use Rattle.model_server.specs.Failover.World.{remembers, is_confirmed, plainly, happens, run, first_world}
use Rattle.model_server.specs.Failover.Law.{after, ProducerWaits, ProducerAlwaysWaits, Waits, AllWait, NoneAddedByOthers}
use Rattle.model_server.specs.Failover.Law.{NoOtherAdds, LogIsFirstRecords, KnownStaysIn}

module _ {F : Type 0} (s : Setting F) (fit : Fit s) where
  -- the log is the first m records, or more, and what the producer takes to be in is
  pub record In (m : ℕ) (k : group.World F) (p : Producer F) : Type 0 where
    pub kept : KeptOf s fit k
    pub fed : Fed s fit (length kept.added) p
    pub enough : m ≤ length kept.added

  abbrev inv : (m : ℕ) (w : once.World F) → In m w.stream w.producer → Inv s fit w
  inv m w i = record { kept = i.kept; fed = i.fed }

  fed_after : (m : ℕ) (w : once.World F) (e : once.Event F) → NoOtherAdd e → In m w.stream w.producer
      → In m (once.happens s w e).stream (once.happens s w e).producer
  fed_after m w e alone i =
      let n = each s fit w (inv m w i) e alone in
      record { kept = n.inv.kept; fed = n.inv.fed; enough = omega (arith, i.enough, n.grows) }

  -- the world, if the server were in this state
  abbrev at : once.World F → group.World F → once.World F
  at w k = record w { stream = k }

  not_filled : (k : group.World F) (o : Option (Request F)) → filled_by false k o ≡ k
  not_filled k None = refl
  not_filled k (Some ask_last) = refl
  not_filled k (Some (batch b)) = refl

  -- a request that arrived at the server in another state, and whose reply the producer does not get
  unheard : (m : ℕ) (k v : group.World F) (b : Bool) (p : Producer F) (o : Option (Request F))
      → In m (filled_by false k o) (breaks (arrived false k o p)) → In m k (breaks (arrived b v o p))
  unheard m k v b p None i = i
  unheard m k v b p (Some ask_last) i = i
  unheard m k v b p (Some (batch r)) i = i

  now_fed : (m : ℕ) (k : group.World F) (w : once.World F) (b : Bool) → In m k w.producer
      → In m k (if b then acknowledges s.name w else w).producer
  now_fed m k w true i = i
  now_fed m k w false i = i

  asked_fed : (m : ℕ) (k : group.World F) (n : ℕ) (pick : Id → Bool) (next : Id) (w : once.World F) (b : Bool)
      → In m k w.producer → In m k (if b then asked s.name n pick next w else w).producer
  asked_fed m k n pick next w true i = i
  asked_fed m k n pick next w false i = i

  -- the producer's side of an event, in a state that the server has not
  fed_apart : (m : ℕ) (w : once.World F) (e : once.Event F) → ProducerWaits (Plain e) → (k : group.World F)
      → In m k w.producer → In m k (plainly s w e).producer
  fed_apart m w (Send n) h k i = fed_after m (at w k) (Send n) tt i
  fed_apart m w (Arrive b) h k i = absurd h
  fed_apart m w (Arrive_late j b) h k i =
      let P : group.World F → Type 0 = λ k. In m k (plainly s w (Arrive_late j b)).producer in
      subst P (not_filled k (item w.producer.late j)) (fed_after m (at w k) (Arrive_late j false) tt i)
  fed_apart m w Hear h k i = fed_after m (at w k) Hear tt i
  fed_apart m w Break h k i = fed_after m (at w k) Break tt i
  fed_apart m w (Ask n pick next) h k i = asked_fed m k n pick next w (is_idle w.consumer) i
  fed_apart m w (Take vs) h k i = i
  fed_apart m w Sync h k i = i
  fed_apart m w Acknowledge_now h k i = now_fed m k w (is_none w.consumer.answer) i
  fed_apart m w Acknowledge_later h k i = i
  fed_apart m w Reconnect h k i = i
  fed_apart m w (Restart every kept n) h k i = i
  fed_apart m w (Else e) h k i = i

  -- the same in the state that it has
  fed_now : (m : ℕ) (w : once.World F) (e : once.Event F) → NoOtherAdd e → In m w.stream w.producer
      → In m (plainly s w e).stream (plainly s w e).producer
  fed_now m w (Send n) h i = fed_after m w (Send n) h i
  fed_now m w (Arrive b) h i = fed_after m w (Arrive b) h i
  fed_now m w (Arrive_late j b) h i = fed_after m w (Arrive_late j b) h i
  fed_now m w Hear h i = fed_after m w Hear h i
  fed_now m w Break h i = fed_after m w Break h i
  fed_now m w (Ask n pick next) h i = fed_after m w (Ask n pick next) h i
  fed_now m w (Take vs) h i = i
  fed_now m w Sync h i = i
  fed_now m w Acknowledge_now h i = fed_after m w Acknowledge_now h i
  fed_now m w Acknowledge_later h i = fed_after m w Acknowledge_later h i
  fed_now m w Reconnect h i = i
  fed_now m w (Restart every kept n) h i = i
  fed_now m w (Else e) h i = fed_after m w (Else e) h i

  pub record Logs (m : ℕ) (w : World F) : Type 0 where
    pub now : In m w.now.stream w.now.producer
    pub each : (k : group.World F) → Among k w.kept → In m k w.now.producer

  -- of the present state, and of those that are kept with it
  remembered : (m : ℕ) (kept : List (group.World F)) (w : once.World F) → In m w.stream w.producer
      → ((k : group.World F) → Among k kept → In m k w.producer) → Logs m (remembers kept w)
  remembered m kept w i f = record {
    now = i;
    each = λ k h. elim h [
      | inl e ↦ (let P : group.World F → Type 0 = λ k. In m k w.producer in subst P e i)
      | inr a ↦ f k a
    ];
  }

  -- after a WAIT that was confirmed, or not
  waiting : (m : ℕ) (kept : List (group.World F)) (v cut : once.World F) (b : Bool) → In m v.stream v.producer
      → In m cut.stream cut.producer → ((k : group.World F) → Among k kept → In m k cut.producer)
      → Logs m (remembers (if b then [] else kept) (if b then v else cut))
  waiting m kept v cut true i j f = remembered m [] v i (λ k h. absurd h)
  waiting m kept v cut false i j f = remembered m kept cut j f

  fails : (m : ℕ) (w : World F) (j : ℕ) (o : Option (group.World F)) → item w.kept j ≡ o → Logs m w
      → Logs m (fails_over w o)
  fails m w j None q i = i
  fails m w j (Some k) q i =
      let c = fed_after m (at w.now k) Break tt (i.each k (among_item w.kept j k q)) in
      record {
        now = record { kept = c.kept; fed = c.fed; enough = c.enough };
        each = λ k h. fed_after m (at w.now k) Break tt (i.each k h);
      }

  logs_after : (m : ℕ) (w : World F) (e : Event F) → NoneAddedByOthers e → ProducerWaits e → Logs m w
      → Logs m (happens s w e)
  logs_after m w (Plain e) alone h i =
      remembered m w.kept (plainly s w.now e) (fed_now m w.now e alone i.now) (λ k a. fed_apart m w.now e h k (i.each k a))
  logs_after m w (Arrive_waits b asked said) alone h i =
      let v : once.World F = once.happens s w.now (Arrive b) in
      let fed = fed_after m w.now (Arrive b) tt i.now in
      waiting m w.kept v (once.happens s v Break) (is_confirmed asked said) fed (fed_after m v Break tt fed)
      (λ k a. let u : once.World F = once.happens s (at w.now k) (Arrive false) in
      unheard m k w.now.stream b w.now.producer w.now.producer.sent
      (fed_after m u Break tt (fed_after m (at w.now k) (Arrive false) tt (i.each k a))))
  logs_after m w (Ask_waits n pick next asked said) alone h i =
      let v : once.World F = once.happens s w.now (Ask n pick next) in
      let fed = fed_after m w.now (Ask n pick next) tt i.now in
      waiting m w.kept v (once.happens s v Reconnect) (is_confirmed asked said) fed fed
      (λ k a. asked_fed m k n pick next w.now (is_idle w.now.consumer) (i.each k a))
  logs_after m w (Failover j) alone h i = fails m w j (item w.kept j) refl i

  logs_over : (m : ℕ) (es : List (Event F)) (w : World F) → NoOtherAdds es → ProducerAlwaysWaits es → Logs m w
      → Logs m (run s es w)
  logs_over m [] w alone h i = i
  logs_over m (e ∷ es) w alone h i = logs_over m es (happens s w e) alone.1 h.1 (logs_after m w e alone.0 h.0 i)

  first_logs : Logs 0 first_world
  first_logs =
      let f = at_first s fit in
      let fed : In 0 empty_world first_world.now.producer =
      record { kept = f.kept; fed = f.fed; enough = omega arith } in
      remembered 0 [] first_world.now fed (λ k h. absurd h)

  -- it is so of what the producer takes to be in at any time
  raised : (w : World F) → Logs 0 w → Logs (known_in w.now.producer.stage) w
  raised w i =
      let up : (k : group.World F) → In 0 k w.now.producer → In (known_in w.now.producer.stage) k w.now.producer
      = λ k j. record { kept = j.kept; fed = j.fed; enough = j.fed.so } in
      record { now = up w.now.stream i.now; each = λ k h. up k (i.each k h) }

  -- of what the producer took to be in at some time, this is so for ever
  pub known_logs : (es more : List (Event F)) → NoOtherAdds es → NoOtherAdds more
      → ProducerAlwaysWaits es → ProducerAlwaysWaits more
      → Logs (known_in (after s es).now.producer.stage) (run s more (after s es))
  known_logs es more alone still h k =
      let w : World F = after s es in
      logs_over (known_in w.now.producer.stage) more w still k (raised w (logs_over 0 es first_world alone h first_logs))

  pub known_in_log : (m : ℕ) (w : World F) → Logs m w → m ≤ length (log w.now)
  known_in_log m w i = omega (arith, i.now.enough, log_length s fit w.now (inv m w.now i.now))

  pub split : (m : ℕ) (w : World F) → Logs m w
      → (rest : List (Entry F)) × (log w.now ++ rest ≡ entries s.base s.records)
  split m w i = (map as_entry i.now.kept.rest, sym (entries_split s fit w.now (inv m w.now i.now)))

among_front : {A : Type 0} (m : ℕ) (xs ys : List A) (e : A) → m ≤ length xs → Among e (take m (xs ++ ys)) → Among e xs
among_front zero xs ys e l h = absurd h
among_front (suc m) [] ys e l h = absurd (omega (arith, l))
among_front (suc m) (x ∷ xs) ys e l (inl q) = inl q
among_front (suc m) (x ∷ xs) ys e l (inr h) = inr (among_front m xs ys e (omega (arith, l)) h)

-- this number of the records is in the log
pub first_in_log : {F : Type 0} (s : Setting F) (fit : Fit s) (m : ℕ) (w : World F) → Logs s fit m w → (e : Entry F)
    → Among e (take m (entries s.base s.records)) → Among e (log w.now)
first_in_log {F} s fit m w i e h =
    let r = split s fit m w i in
    let P : List (Entry F) → Type 0 = λ l. Among e (take m l) in
    among_front m (log w.now) r.0 e (known_in_log s fit m w i) (subst P (sym r.1) h)

module _ {F : Type 0} where
  -- who waits, waits with what the producer sent
  plain_waits : (e : once.Event F) → Waits (Plain e) → ProducerWaits (Plain e)
  plain_waits (Send n) h = tt
  plain_waits (Arrive b) h = h
  plain_waits (Arrive_late j b) h = tt
  plain_waits Hear h = tt
  plain_waits Break h = tt
  plain_waits (Ask n pick next) h = tt
  plain_waits (Take vs) h = tt
  plain_waits Sync h = tt
  plain_waits Acknowledge_now h = tt
  plain_waits Acknowledge_later h = tt
  plain_waits Reconnect h = tt
  plain_waits (Restart every kept n) h = tt
  plain_waits (Else e) h = tt

  producer_waits : (e : Event F) → Waits e → ProducerWaits e
  producer_waits (Plain e) h = plain_waits e h
  producer_waits (Arrive_waits b asked said) h = tt
  producer_waits (Ask_waits n pick next asked said) h = tt
  producer_waits (Failover j) h = tt

  pub producer_always_waits : (es : List (Event F)) → AllWait es → ProducerAlwaysWaits es
  producer_always_waits [] h = tt
  producer_always_waits (e ∷ es) h = (producer_waits e h.0, producer_always_waits es h.1)

pub log_is_first_records : {F : Type 0} → LogIsFirstRecords F
log_is_first_records s fit es alone h =
    split s fit 0 (after s es) (logs_over s fit 0 es first_world alone h (first_logs s fit))

pub known_stays_in : {F : Type 0} → KnownStaysIn F
known_stays_in s fit es more alone still h k =
    known_in_log s fit (known_in (after s es).now.producer.stage) (run s more (after s es))
    (known_logs s fit es more alone still h k)
