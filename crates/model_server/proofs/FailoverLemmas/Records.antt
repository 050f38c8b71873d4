-- Each entry of the log or of the file is one of the records, with or without WAIT.
use Rattle.std.proofs.Common.{◌≡◌, inl, inr, refl, sym, ap, subst, ℕ, ◌+◌, ◌<◌, ◌≤◌, ◌^◌, zero, suc, arith, nat_lt}
use Rattle.std.proofs.Common.{Bool, true, false, ◌&&◌, List, [], ◌∷◌, ◌++◌, length, take, drop, append_assoc}
use Rattle.std.proofs.Common.{Option, Some, None, if◌then◌else◌}
use Rattle.std.specs.Option.{is_none}
use Rattle.std.proofs.lemmas.Bool.{lt-ltb}
use Rattle.model_server.specs.Group.Worker.{Id, Entry, Phase}
use Rattle.model_server.specs.Group.Group.{Numbers, id_text, is_below, fits, ids_of}
use Rattle.model_server.specs.Group.World.{item, but, appended, log_of, empty_world}
use Rattle.model_server.specs.Group.World as group
use Rattle.model_server.specs.Group.Law.{Among}
use Rattle.model_server.proofs.GroupLemmas.Among.{among_left, among_split, among_map, among_item, among_but}
use Rattle.model_server.proofs.GroupLemmas.Numbers.{id_text_injective}
use Rattle.model_server.specs.Once.Feed.{Numbered, numbered, as_entry, entries, Stage, asking, knows, waits, Request, ask_last}
use Rattle.model_server.specs.Once.Feed.{batch, adding, request, requested, next_batch}
use Rattle.model_server.specs.Once.Producer.{Producer, add_all, filled_by, arrived, hears, overdue, breaks}
use Rattle.model_server.specs.Once.Consumer.{is_empty, is_idle, after_asking}
use Rattle.model_server.specs.Once.World.{Setting, Send, Arrive, Arrive_late, Hear, Break, Ask, Take, Sync}
use Rattle.model_server.specs.Once.World.{Acknowledge_now, Acknowledge_later, Reconnect, Restart, Else, asked, acknowledges}
use Rattle.model_server.specs.Once.World as once
use Rattle.model_server.specs.Once.Law.{Once, NoOtherAdd}
use Rattle.model_server.proofs.OnceLemmas.Lasts.{same_entry}
use Rattle.model_server.proofs.OnceLemmas.Same.{same_else, same_asked}
use Rattle.model_server.specs.Failover.World.{World, Event, Plain, Arrive_waits, Ask_waits, Failover, fails_over, remembers}
use Rattle.model_server.specs.Failover.World.{is_confirmed, plainly, happens, run, first_world}
use Rattle.model_server.specs.Failover.Law.{after, NoneAddedByOthers, NoOtherAdds, LogIsOfRecords, FileIsOfRecords}
use Rattle.model_server.specs.Failover.Law.{ComesAsWritten}
use Rattle.model_server.proofs.FailoverLemmas.Lines.{Lines, taken, synced, restarted, cut_off, answered}
use Rattle.model_server.proofs.FailoverLemmas.Stays.{handed}

among_taken : {A : Type 0} (n : ℕ) (xs : List A) (x : A) → Among x (take n xs) → Among x xs
among_taken zero xs x h = absurd h
among_taken (suc n) [] x h = absurd h
among_taken (suc n) (y ∷ xs) x (inl e) = inl e
among_taken (suc n) (y ∷ xs) x (inr h) = inr (among_taken n xs x h)

among_dropped : {A : Type 0} (n : ℕ) (xs : List A) (x : A) → Among x (drop n xs) → Among x xs
among_dropped zero xs x h = h
among_dropped (suc n) [] x h = absurd h
among_dropped (suc n) (y ∷ xs) x h = inr (among_dropped n xs x h)

-- the ids of the records are numbers in a row
record Number (base n : ℕ) (id : Id) : Type 0 where
  k : ℕ
  above : base < k
  within : k ≤ base + n
  is : id_text (k, 0) ≡ id

fits_low : (k : ℕ) → k < 2 ^ 64 → fits (k, 0) ≡ true
fits_low k h = ap (λ b. b && nat_lt 0 (2 ^ 64)) (lt-ltb k (2 ^ 64) h)

module _ {F : Type 0} where
  numbers_of : (base : ℕ) (rs : List F) (id : Id) → Among id (ids_of (entries base rs)) → Number base (length rs) id
  numbers_of base [] id h = absurd h
  numbers_of base (r ∷ rs) id (inl e) = record { k = base + 1; above = omega arith; within = omega arith; is = e }
  numbers_of base (r ∷ rs) id (inr h) =
      let n = numbers_of (base + 1) rs id h in
      record { k = n.k; above = omega (arith, n.above); within = omega (arith, n.within); is = n.is }

  -- so none is twice among them
  pub once_entries : (base : ℕ) (rs : List F) → base + length rs < 2 ^ 64 → Once (ids_of (entries base rs))
  once_entries base [] h = tt
  once_entries base (r ∷ rs) h = (
    λ a.
        let n = numbers_of (base + 1) rs (id_text (base + 1, 0)) a in
        let e : (n.k, 0) ≡ (base + 1, 0) =
        id_text_injective (n.k, 0) (base + 1, 0) (fits_low n.k (omega (arith, h, n.within)))
        (fits_low (base + 1) (omega (arith, h))) n.is in
        let k : n.k ≡ base + 1 = ap (λ (z : Numbers). z.0) e in
        absurd (omega (arith, k, n.above)),
    once_entries (base + 1) rs (omega (arith, h)),
  )

module _ {F : Type 0} (s : Setting F) where
  abbrev N : List (Numbered F)
  N = numbered s.base s.records

  -- it is of the records
  abbrev Of : Entry F → Type 0
  Of e = Among e (entries s.base s.records)

  abbrev LogOf : group.World F → Type 0
  LogOf k = (e : Entry F) → Among e (log_of k) → Of e

  -- a request adds none but records
  abbrev Adds : Request F → Type 0
  Adds ask_last = Unit {0}
  Adds (batch b) = (x : Numbered F) → Among x b → Among x N

  abbrev MayAdd : Option (Request F) → Type 0
  MayAdd None = Unit {0}
  MayAdd (Some r) = Adds r

  record Sends (p : Producer F) : Type 0 where
    sent : MayAdd p.sent
    late : (r : Request F) → Among r p.late → Adds r

  adding_of : (b : List (Numbered F)) → ((x : Numbered F) → Among x b → Among x N) → MayAdd (adding b)
  adding_of [] f = tt
  adding_of (x ∷ b) f = f

  request_of : (n : ℕ) (st : Stage) → MayAdd (request n N st)
  request_of n asking = tt
  request_of n (knows m) =
      adding_of (next_batch n m N) (λ x h. among_dropped m N x (among_taken n (drop m N) x h))
  request_of n (waits m k) = tt

  sending : (n : ℕ) (p : Producer F) (b : Bool) → Sends p
      → Sends (if b then record p { stage = requested n N p.stage; sent = request n N p.stage } else p)
  sending n p true i = record { sent = request_of n p.stage; late = i.late }
  sending n p false i = i

  hearing : (p : Producer F) (o : Option _) → Sends p → Sends (hears s.base o p)
  hearing p None i = i
  hearing p (Some a) i = record { sent = i.sent; late = i.late }

  arriving : (b : Bool) (k : group.World F) (o : Option (Request F)) (p : Producer F) → Sends p → Sends (arrived b k o p)
  arriving b k None p i = i
  arriving b k (Some r) p i = record { sent = tt; late = i.late }

  overdue_of : (o : Option (Request F)) (late : List (Request F)) → MayAdd o → ((r : Request F) → Among r late → Adds r)
      → (r : Request F) → Among r (overdue o late) → Adds r
  overdue_of None late m f r h = f r h
  overdue_of (Some q) late m f r (inl e) = let P : Request F → Type 0 = λ y. Adds y in subst P e m
  overdue_of (Some q) late m f r (inr h) = f r h

  breaking : (p : Producer F) → Sends p → Sends (breaks p)
  breaking p i = record { sent = tt; late = overdue_of p.sent p.late i.sent i.late }

  of_item : (late : List (Request F)) (j : ℕ) → ((r : Request F) → Among r late → Adds r) → MayAdd (item late j)
  of_item late j f =
      let case : (o : Option (Request F)) → item late j ≡ o → MayAdd o
      = λ o. elim o as (λ o. item late j ≡ o → MayAdd o)
      [ None ↦ λ q. tt | Some r ↦ λ q. f r (among_item late j r q) ] in
      case (item late j) refl

  -- the log with more
  added : (k : group.World F) (x : Numbered F) (b : Bool) → Among x N → LogOf k
      → LogOf (if b then record k { fresh = k.fresh ++ (id_text x.0, x.1) ∷ []; last = x.0 } else k)
  added k x false m i = i
  added k x true m i = λ e h.
      let new : List (Entry F) = (id_text x.0, x.1) ∷ [] in
      let P : List (Entry F) → Type 0 = λ l. Among e l in
      elim (among_split e (log_of k) new (subst P (sym (append_assoc k.seen k.fresh new)) h)) [
        | inl a ↦ i e a
        | inr a ↦ elim a [
          | inl q ↦ (let Q : Entry F → Type 0 = λ e. Of e in subst Q q (among_map as_entry x N m))
          | inr z ↦ absurd z
        ]
      ]

  batch_of : (b : List (Numbered F)) (k : group.World F) → ((x : Numbered F) → Among x b → Among x N) → LogOf k
      → LogOf (add_all k b)
  batch_of [] k f i = i
  batch_of (x ∷ b) k f i =
      batch_of b (appended k x.0 x.1) (λ y h. f y (inr h))
      (added k x (is_below k.last x.0 && fits x.0) (f x (inl refl)) i)

  filled_of : (b : Bool) (k : group.World F) (o : Option (Request F)) → MayAdd o → LogOf k → LogOf (filled_by b k o)
  filled_of b k None m i = i
  filled_of b k (Some ask_last) m i = i
  filled_of true k (Some (batch r)) m i = batch_of r k m i
  filled_of false k (Some (batch r)) m i = i

  -- of all that is in the server, and on the way
  record All (w : once.World F) : Type 0 where
    log : LogOf w.stream
    sends : Sends w.producer
    lines : Lines Of w.consumer

  asking_all : (n : ℕ) (pick : Id → Bool) (next : Id) (w : once.World F) (b : Bool) → All w
      → All (if b then asked s.name n pick next w else w)
  asking_all n pick next w false i = i
  asking_all n pick next w true i =
      let p : Phase = w.consumer.machine.phase in
      let v : group.World F = after_asking s.name n pick next p w.stream in
      let P : Entry F → List (Entry F) → Type 0 = λ e l. Among e l in
      let log : LogOf v = λ e h. i.log e (subst (λ l. P e l) (same_asked s.name n pick next p w.stream).0 h) in
      record {
        log = log;
        sends = i.sends;
        lines = record {
          lines = i.lines.lines;
          coming = λ e h. log e (among_left e v.seen v.fresh (handed s.name n pick next p w.stream e h));
        };
      }

  acking_all : (w : once.World F) (b : Bool) → All w → All (if b then acknowledges s.name w else w)
  acking_all w false i = i
  acking_all w true i = record { log = i.log; sends = i.sends; lines = answered Of w.consumer i.lines }

  plain_all : (w : once.World F) (e : once.Event F) → NoOtherAdd e → All w → All (plainly s w e)
  plain_all w (Send n) alone i = record {
    log = i.log;
    sends = sending n w.producer (is_none w.producer.sent && is_none w.producer.answer) i.sends;
    lines = i.lines;
  }
  plain_all w (Arrive b) alone i = record {
    log = filled_of b w.stream w.producer.sent i.sends.sent i.log;
    sends = arriving b w.stream w.producer.sent w.producer i.sends;
    lines = i.lines;
  }
  plain_all w (Arrive_late j b) alone i = record {
    log = filled_of b w.stream (item w.producer.late j) (of_item w.producer.late j i.sends.late) i.log;
    sends = record { sent = i.sends.sent; late = λ r h. i.sends.late r (among_but w.producer.late j r h) };
    lines = i.lines;
  }
  plain_all w Hear alone i =
      record { log = i.log; sends = hearing w.producer w.producer.answer i.sends; lines = i.lines }
  plain_all w Break alone i = record { log = i.log; sends = breaking w.producer i.sends; lines = i.lines }
  plain_all w (Ask n pick next) alone i = asking_all n pick next w (is_idle w.consumer) i
  plain_all w (Take vs) alone i =
      record { log = i.log; sends = i.sends; lines = taken Of w.consumer vs w.consumer.answer refl i.lines }
  plain_all w Sync alone i = record {
    log = i.log;
    sends = i.sends;
    lines = synced Of w.consumer (is_none w.consumer.answer && is_empty w.consumer.machine.to_acknowledge) i.lines;
  }
  plain_all w Acknowledge_now alone i = acking_all w (is_none w.consumer.answer) i
  plain_all w Acknowledge_later alone i = record { log = i.log; sends = i.sends; lines = i.lines }
  plain_all w Reconnect alone i = record { log = i.log; sends = i.sends; lines = cut_off Of w.consumer i.lines }
  plain_all w (Restart every kept n) alone i =
      record { log = i.log; sends = i.sends; lines = restarted Of w.consumer every kept n i.lines }
  plain_all w (Else e) alone i = record {
    log = λ x h.
        let P : List (Entry F) → Type 0 = λ l. Among x l in i.log x (subst P (same_else w.stream e alone).0 h);
    sends = i.sends;
    lines = i.lines;
  }

  record Kept (w : World F) : Type 0 where
    now : All w.now
    each : (k : group.World F) → Among k w.kept → LogOf k

  remembered : (kept : List (group.World F)) (w : once.World F) → All w
      → ((k : group.World F) → Among k kept → LogOf k) → Kept (remembers kept w)
  remembered kept w i f = record {
    now = i;
    each = λ k h. elim h [
      | inl e ↦ (let P : group.World F → Type 0 = λ k. LogOf k in subst P e i.log)
      | inr a ↦ f k a
    ];
  }

  -- after a WAIT that was confirmed, or not
  waiting : (kept : List (group.World F)) (v cut : once.World F) (b : Bool) → All v → All cut
      → ((k : group.World F) → Among k kept → LogOf k)
      → Kept (remembers (if b then [] else kept) (if b then v else cut))
  waiting kept v cut true i j f = remembered [] v i (λ k h. absurd h)
  waiting kept v cut false i j f = remembered kept cut j f

  failing : (w : World F) (j : ℕ) (o : Option (group.World F)) → item w.kept j ≡ o → Kept w → Kept (fails_over w o)
  failing w j None q i = i
  failing w j (Some k) q i = record {
    now = record {
      log = i.each k (among_item w.kept j k q);
      sends = breaking w.now.producer i.now.sends;
      lines = cut_off Of w.now.consumer i.now.lines;
    };
    each = i.each;
  }

  step : (w : World F) (e : Event F) → NoneAddedByOthers e → Kept w → Kept (happens s w e)
  step w (Plain e) alone i = remembered w.kept (plainly s w.now e) (plain_all w.now e alone i.now) i.each
  step w (Arrive_waits b asked said) alone i =
      let v : once.World F = once.happens s w.now (Arrive b) in
      let j = plain_all w.now (Arrive b) tt i.now in
      waiting w.kept v (once.happens s v Break) (is_confirmed asked said) j (plain_all v Break tt j) i.each
  step w (Ask_waits n pick next asked said) alone i =
      let v : once.World F = once.happens s w.now (Ask n pick next) in
      let j = plain_all w.now (Ask n pick next) tt i.now in
      waiting w.kept v (once.happens s v Reconnect) (is_confirmed asked said) j (plain_all v Reconnect tt j) i.each
  step w (Failover j) alone i = failing w j (item w.kept j) refl i

  steps : (es : List (Event F)) (w : World F) → NoOtherAdds es → Kept w → Kept (run s es w)
  steps [] w alone i = i
  steps (e ∷ es) w alone i = steps es (happens s w e) alone.1 (step w e alone.0 i)

  always : (es : List (Event F)) → NoOtherAdds es → Kept (after s es)
  always es alone =
      let start : All (first_world {F = F}).now = record {
        log = λ e h. absurd h;
        sends = record { sent = tt; late = λ r h. absurd h };
        lines = record { lines = λ e h. absurd h; coming = λ e h. absurd h };
      } in
      steps es first_world alone (remembered [] first_world.now start (λ k h. absurd h))

pub log_is_of_records : {F : Type 0} → LogIsOfRecords F
log_is_of_records s es alone e h = (always s es alone).now.log e h

pub file_is_of_records : {F : Type 0} → FileIsOfRecords F
file_is_of_records s es alone e h =
    let c = (after s es).now.consumer in (always s es alone).now.lines.lines e (among_left e c.file c.lines h)

pub comes_as_written : {F : Type 0} → ComesAsWritten F
comes_as_written {F} s fit es alone e fields a b =
    let c = (after s es).now.consumer in
    let i = (always s es alone).now.lines in
    let d : Entry F = (e.0, fields) in
    let q : d ≡ e = same_entry (entries s.base s.records) (once_entries s.base s.records fit) d e (i.coming d b)
    (i.lines e (among_left e c.file c.lines a)) refl in
    ap (λ (y : Entry F). y.1) q
