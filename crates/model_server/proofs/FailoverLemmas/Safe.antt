-- Each record that is confirmed is undelivered, or pending, or in the file, or deleted.
use Rattle.std.proofs.Common.{◌≡◌, ◌⊎◌, inl, inr, refl, sym, ap, subst, ◌∙◌, ℕ, ◌+◌, ◌-◌, ◌≤◌, arith, Bool}
use Rattle.std.proofs.Common.{true, false, ◌&&◌, List, [], ◌∷◌, ◌++◌, length, take, append_assoc, Option, Some}
use Rattle.std.proofs.Common.{None, if◌then◌else◌}
use Rattle.std.specs.Option.{is_none}
use Rattle.std.proofs.lemmas.List.{length-append, length-map}
use Rattle.model_server.specs.Group.Worker.{Id, Entry, Verdict, Phase, own, claiming, reading, Answer, acknowledged, entries_in, handled_in, acks_in}
use Rattle.model_server.specs.Group.Group.{Name, Pending, Numbers, id_text, is_below, fits, listed, ids_of, pending_ids}
use Rattle.model_server.specs.Group.World.{item, ack_comes, log_of, Append, Delete, Read, Reread, Claim, Claim_ids, Comes}
use Rattle.model_server.specs.Group.World.{Commit, Acknowledge, Ack_comes, Go_back, Crash, appended}
use Rattle.model_server.specs.Group.World as group
use Rattle.model_server.specs.Group.Law.{Among}
use Rattle.model_server.proofs.GroupLemmas.Among.{among_left, among_split, among_of_map, among_item}
use Rattle.model_server.proofs.GroupLemmas.Steps.{acknowledged_keeps}
use Rattle.model_server.specs.Once.Feed.{Numbered, as_entry, numbered, entries, Request, ask_last, batch, known_in}
use Rattle.model_server.specs.Once.Producer.{add_all, filled_by}
use Rattle.model_server.specs.Once.Consumer.{Consumer, is_empty, is_idle, after_asking, syncs, restarts, reconnects, last_added}
use Rattle.model_server.specs.Once.World.{Setting, Send, Arrive, Arrive_late, Hear, Break, Ask, Take, Sync}
use Rattle.model_server.specs.Once.World.{Acknowledge_now, Acknowledge_later, Reconnect, Restart, Else, asked, acknowledges}
use Rattle.model_server.specs.Once.World as once
use Rattle.model_server.specs.Once.Law.{Fit, log, NoOtherAck, IsKept}
use Rattle.model_server.proofs.OnceLemmas.Apart.{id_among}
use Rattle.model_server.proofs.OnceLemmas.Batch.{length_numbered}
use Rattle.model_server.proofs.OnceLemmas.Fill.{append_nil}
use Rattle.model_server.proofs.OnceLemmas.Lasts.{Done, Told, Step, done_more, told_more, settled, still_in, into_file, onto_file}
use Rattle.model_server.proofs.OnceLemmas.Lasts.{dropped_in, serves_told, same_entry, step_read, step_again, step_claim, step_claim_ids}
use Rattle.model_server.proofs.OnceLemmas.Lasts.{step_served, step_deleted, step_comes}
use Rattle.model_server.specs.Failover.Lookup.{unwritten, lines_of, looks_up}
use Rattle.model_server.specs.Failover.World.{World, Event, Plain, Arrive_waits, Ask_waits, Failover, fails_over}
use Rattle.model_server.specs.Failover.World.{remembers, is_confirmed, plainly, happens, run, first_world}
use Rattle.model_server.specs.Failover.Law.{after, Waits, AllWait, NoneByOthers, NoOtherAcks, NothingConfirmedIsLost}
use Rattle.model_server.specs.Failover.Law.{EachComesOutOnce}
use Rattle.model_server.proofs.FailoverLemmas.Looked.{unwritten_covers, once_on}
use Rattle.model_server.proofs.FailoverLemmas.Added.{Logs, known_logs, known_in_log, split, first_in_log, producer_always_waits}
use Rattle.model_server.proofs.FailoverLemmas.Distinct.{once_in_log}
use Rattle.model_server.proofs.FailoverLemmas.Stays.{Holds, always_on, file_in_seen}

-- each of the first is one of the others
abbrev Fewer : List (Name × List Id) → List (Name × List Id) → Type 0
Fewer bs acks = (a : Name × List Id) → Among a bs → Among a acks

module _ {F : Type 0} where
  -- in this state of the server, with these acknowledgements on the way to it
  pub record Safe (acks : List (Name × List Id)) (k : group.World F) (c : Consumer F) : Type 0 where
    pub lost : (id : Id) → Among id (ids_of k.seen) → Among id (pending_ids k.pending) ⊎ Done k.deleted c.file id
    pub told : Told k.deleted c.answer
    pub to_commit : (id : Id) → Among id c.machine.to_commit → Done k.deleted (lines_of c) id
    pub to_ack : (id : Id) → Among id c.machine.to_acknowledge → Done k.deleted c.file id
    pub sent : (a : Name × List Id) → Among a acks → (id : Id) → Among id a.1 → Done k.deleted c.file id

  fewer : (acks bs : List (Name × List Id)) (k : group.World F) (c : Consumer F) → Fewer bs acks → Safe acks k c → Safe bs k c
  fewer acks bs k c f i = record {
    lost = i.lost;
    told = i.told;
    to_commit = i.to_commit;
    to_ack = i.to_ack;
    sent = λ a h id m. i.sent a (f a h) id m;
  }

  -- the server does something
  served : (v w : group.World F) (c : Consumer F) → Step v w → Safe w.acks w c → Safe v.acks v c
  served v w c s i =
      let more : (es : List (Entry F)) (id : Id) → Done w.deleted es id → Done v.deleted es id
      = λ es. done_more w.deleted v.deleted es es s.deleted (λ id h. h) in
      record {
        lost = λ id h. elim (s.seen id h) [
          | inl a ↦ elim (i.lost id a) [
            | inl p ↦ elim (s.pending id p) [ inl b ↦ inl b | inr d ↦ inr (inr d) ]
            | inr d ↦ inr (more c.file id d)
          ]
          | inr a ↦ elim a [ inl p ↦ inl p | inr d ↦ inr (inr d) ]
        ];
        told = told_more w.deleted v.deleted s.deleted c.answer i.told;
        to_commit = λ id h. more (lines_of c) id (i.to_commit id h);
        to_ack = λ id h. more c.file id (i.to_ack id h);
        sent = λ a h id m. more c.file id (i.sent a (s.acks a h) id m);
      }

  acked : (w : group.World F) (c : Consumer F) (a : Name × List Id)
      → ((id : Id) → Among id a.1 → Done w.deleted c.file id) → Safe w.acks w c
      → Safe w.acks (ack_comes w (Some a)) c
  acked w c a h i = record {
    lost = λ id m. elim (i.lost id m) [
      | inl p ↦ elim (acknowledged_keeps a.1 w.pending id p) [ inl b ↦ inl b | inr b ↦ inr (h id b) ]
      | inr d ↦ inr d
    ];
    told = i.told;
    to_commit = i.to_commit;
    to_ack = i.to_ack;
    sent = i.sent;
  }

  same : (w : group.World F) → Step w w
  same w = record { seen = λ id h. inl h; pending = λ id h. inl h; deleted = λ id h. h; acks = λ a h. h }

  further : (u v w : group.World F) → Step u v → Step v w → Step u w
  further u v w s t = record {
    seen = λ id h. elim (s.seen id h) [
      | inl a ↦ elim (t.seen id a) [
        | inl b ↦ inl b
        | inr b ↦ elim b [
          | inl p ↦ inr (s.pending id p)
          | inr d ↦ inr (inr (s.deleted id d))
        ]
      ]
      | inr a ↦ inr a
    ];
    pending = λ id h. elim (t.pending id h) [ inl p ↦ s.pending id p | inr d ↦ inr (s.deleted id d) ];
    deleted = λ id h. s.deleted id (t.deleted id h);
    acks = λ a h. t.acks a (s.acks a h);
  }

  step_appended : (w : group.World F) (n : Numbers) (f : F) (b : Bool)
      → Step (if b then record w { fresh = w.fresh ++ (id_text n, f) ∷ []; last = n } else w) w
  step_appended w n f true = record {
    seen = λ id h. inl h;
    pending = λ id h. inl h;
    deleted = λ id h. h;
    acks = λ a h. h;
  }
  step_appended w n f false = same w

  step_batch : (b : List (Numbered F)) (w : group.World F) → Step (add_all w b) w
  step_batch [] w = same w
  step_batch (x ∷ b) w =
      further (add_all (appended w x.0 x.1) b) (appended w x.0 x.1) w (step_batch b (appended w x.0 x.1))
      (step_appended w x.0 x.1 (is_below w.last x.0 && fits x.0))

  step_filled : (executes : Bool) (w : group.World F) (o : Option (Request F)) → Step (filled_by executes w o) w
  step_filled executes w None = same w
  step_filled executes w (Some ask_last) = same w
  step_filled true w (Some (batch b)) = step_batch b w
  step_filled false w (Some (batch b)) = same w

  -- what the consumer does, in one state of the server
  looked : (acks : List (Name × List Id)) (k : group.World F) (c : Consumer F) (vs : List Verdict) (o : Option (Answer F))
      → Told k.deleted o → Safe acks k c → Safe acks k (looks_up vs o c)
  looked acks k c vs None t i = i
  looked acks k c vs (Some a) t i =
      let ids : List Id = ids_of (lines_of c) in
      let all : List (Entry F) = handled_in (entries_in a) vs in
      let new : List (Entry F) = unwritten ids all in
      let into : (id : Id) → Among id ids ⊎ Among id (ids_of new) → Among id (ids_of (c.file ++ (c.lines ++ new)))
      = λ id h. (let P : List (Entry F) → Type 0 = λ l. Among id (ids_of l) in
      subst P (append_assoc c.file c.lines new) (elim h [
        | inl b ↦ into_file (lines_of c) new id b
        | inr b ↦ onto_file (lines_of c) new id b
      ])) in
      record {
        lost = i.lost;
        told = tt;
        to_commit = λ id h. elim (among_split id c.machine.to_commit (acks_in (entries_in a) vs) h) [
          | inl b ↦ elim (i.to_commit id b) [ inl d ↦ inl (into id (inl d)) | inr d ↦ inr d ]
          | inr b ↦ elim (settled (entries_in a) vs id b) [
            | inl d ↦ inl (into id (unwritten_covers ids all id d))
            | inr d ↦ inr (t id d)
          ]
        ];
        to_ack = λ id h. i.to_ack id (still_in c.machine.to_acknowledge a id h);
        sent = i.sent;
      }

  synced : (acks : List (Name × List Id)) (k : group.World F) (c : Consumer F) (b : Bool) → Safe acks k c
      → Safe acks k (if b then syncs c else c)
  synced acks k c false i = i
  synced acks k c true i =
      let more : (id : Id) → Done k.deleted c.file id → Done k.deleted (lines_of c) id
      = done_more k.deleted k.deleted c.file (lines_of c) (λ id h. h) (into_file c.file c.lines) in
      record {
        lost = λ id h. elim (i.lost id h) [ inl p ↦ inl p | inr d ↦ inr (more id d) ];
        told = i.told;
        to_commit = λ id h. absurd h;
        to_ack = λ id h. elim (among_split id c.machine.to_acknowledge c.machine.to_commit h) [
          | inl b ↦ more id (i.to_ack id b)
          | inr b ↦ i.to_commit id b
        ];
        sent = λ a h id m. more id (i.sent a h id m);
      }

  restarted : (acks : List (Name × List Id)) (k : group.World F) (c : Consumer F) (every kept n : ℕ) → Safe acks k c
      → Safe acks k (restarts every kept n c)
  restarted acks k c every kept n i =
      let some : List (Entry F) = take kept c.lines in
      let more : (id : Id) → Done k.deleted c.file id → Done k.deleted (c.file ++ some) id
      = done_more k.deleted k.deleted c.file (c.file ++ some) (λ id h. h) (into_file c.file some) in
      record {
        lost = λ id h. elim (i.lost id h) [ inl p ↦ inl p | inr d ↦ inr (more id d) ];
        told = tt;
        to_commit = λ id h. absurd h;
        to_ack = λ id h.
            inl (dropped_in (length (c.file ++ some) - (last_added c.last_commit some + n)) (c.file ++ some) id h);
        sent = λ a h id m. more id (i.sent a h id m);
      }

  cut_off : (acks : List (Name × List Id)) (k : group.World F) (c : Consumer F) → Safe acks k c → Safe acks k (reconnects c)
  cut_off acks k c i = record { lost = i.lost; told = tt; to_commit = i.to_commit; to_ack = i.to_ack; sent = i.sent }

  answered : (acks : List (Name × List Id)) (k : group.World F) (c : Consumer F) → Safe acks k c
      → Safe acks k (record c { answer = Some acknowledged })
  answered acks k c i = record {
    lost = i.lost;
    told = λ id h. absurd h;
    to_commit = i.to_commit;
    to_ack = i.to_ack;
    sent = i.sent;
  }

  -- an acknowledgement is on the way of what is in the file, or was deleted
  sent_later : (acks : List (Name × List Id)) (k : group.World F) (c : Consumer F) (name : Name) → Safe acks k c
      → Safe ((name, c.machine.to_acknowledge) ∷ acks) k c
  sent_later acks k c name i = record {
    lost = i.lost;
    told = i.told;
    to_commit = i.to_commit;
    to_ack = i.to_ack;
    sent = λ a h id m. elim h [
      | inl e ↦ i.to_ack id (let P : Name × List Id → Type 0 = λ x. Among id x.1 in subst P (sym e) m)
      | inr b ↦ i.sent a b id m
    ];
  }

  comes_acks : (w : group.World F) (o : Option (Name × List Id)) → Fewer (ack_comes w o).acks w.acks
  comes_acks w None = λ a h. h
  comes_acks w (Some b) = λ a h. h

  late : (w : group.World F) (c : Consumer F) (j : ℕ) (o : Option (Name × List Id)) → item w.acks j ≡ o
      → Safe w.acks w c → Safe (ack_comes w o).acks (ack_comes w o) c
  late w c j None q i = i
  late w c j (Some a) q i = acked w c a (i.sent a (among_item w.acks j a q)) i

  else_now : (w : group.World F) (c : Consumer F) (e : group.Event F) → NoOtherAck (Else e) → Safe w.acks w c
      → Safe (group.happens w e).acks (group.happens w e) c
  else_now w c (Append n f) h i =
      served (group.happens w (Append n f)) w c (step_appended w n f (is_below w.last n && fits n)) i
  else_now w c (Delete id) h i =
      served (group.happens w (Delete id)) w c (step_deleted w id (listed (ids_of (log_of w)) id)) i
  else_now w c (Read d n) h i = served (group.happens w (Read d n)) w c (step_read w d n) i
  else_now w c (Reread d pick) h i = served (group.happens w (Reread d pick)) w c (step_again w d pick) i
  else_now w c (Claim d pick next) h i = served (group.happens w (Claim d pick next)) w c (step_claim w d pick next) i
  else_now w c (Claim_ids d pick) h i = served (group.happens w (Claim_ids d pick)) w c (step_claim_ids w d pick) i
  else_now w c (Comes j vs) h i = served (group.happens w (Comes j vs)) w c (step_comes w j (item w.replies j) vs) i
  else_now w c (Commit d) h i =
      record { lost = i.lost; told = i.told; to_commit = i.to_commit; to_ack = i.to_ack; sent = i.sent }
  else_now w c (Acknowledge d) h i = absurd h
  else_now w c (Ack_comes j) h i = late w c j (item w.acks j) refl i
  else_now w c (Go_back d) h i =
      record { lost = i.lost; told = i.told; to_commit = i.to_commit; to_ack = i.to_ack; sent = i.sent }
  else_now w c (Crash d every keeps ids) h i =
      record { lost = i.lost; told = i.told; to_commit = i.to_commit; to_ack = i.to_ack; sent = i.sent }

  -- nothing else acknowledges
  else_acks : (w : group.World F) (e : group.Event F) → NoOtherAck (Else e) → Fewer (group.happens w e).acks w.acks
  else_acks w (Append n f) h = (step_appended w n f (is_below w.last n && fits n)).acks
  else_acks w (Delete id) h = (step_deleted w id (listed (ids_of (log_of w)) id)).acks
  else_acks w (Read d n) h = λ a m. m
  else_acks w (Reread d pick) h = λ a m. m
  else_acks w (Claim d pick next) h = λ a m. m
  else_acks w (Claim_ids d pick) h = λ a m. m
  else_acks w (Comes j vs) h = (step_comes w j (item w.replies j) vs).acks
  else_acks w (Commit d) h = λ a m. m
  else_acks w (Acknowledge d) h = absurd h
  else_acks w (Ack_comes j) h = comes_acks w (item w.acks j)
  else_acks w (Go_back d) h = λ a m. m
  else_acks w (Crash d every keeps ids) h = λ a m. m

  acked_now : (name : Name) (w : once.World F) (b : Bool) → Safe w.stream.acks w.stream w.consumer
      → Safe (if b then acknowledges name w else w).stream.acks (if b then acknowledges name w else w).stream
      (if b then acknowledges name w else w).consumer
  acked_now name w false i = i
  acked_now name w true i =
      answered w.stream.acks (acknowledges name w).stream w.consumer
      (acked w.stream w.consumer (name, w.consumer.machine.to_acknowledge) i.to_ack i)

  acked_apart : (name : Name) (w : once.World F) (b : Bool) (k : group.World F) → Safe w.stream.acks k w.consumer
      → Safe (if b then acknowledges name w else w).stream.acks k (if b then acknowledges name w else w).consumer
  acked_apart name w false k i = i
  acked_apart name w true k i = answered w.stream.acks k w.consumer i

  asked_now : (s : Setting F) (n : ℕ) (pick : Id → Bool) (next : Id) (w : once.World F) (b : Bool)
      → Safe w.stream.acks w.stream w.consumer
      → Safe (if b then asked s.name n pick next w else w).stream.acks
      (if b then asked s.name n pick next w else w).stream (if b then asked s.name n pick next w else w).consumer
  asked_now s n pick next w false i = i
  asked_now s n pick next w true i =
      let p : Phase = w.consumer.machine.phase in
      let v : group.World F = after_asking s.name n pick next p w.stream in
      let j = served v w.stream w.consumer (step_served s.name n pick next p w.stream) i in
      record {
        lost = j.lost;
        told = serves_told s.name n pick next p w.stream;
        to_commit = j.to_commit;
        to_ack = j.to_ack;
        sent = j.sent;
      }

  pub after_deleted : (name : Name) (n : ℕ) (pick : Id → Bool) (next : Id) (p : Phase) (w : group.World F)
      → (after_asking name n pick next p w).deleted ≡ w.deleted
  after_deleted name n pick next (own from) w = refl
  after_deleted name n pick next (claiming from) w = refl
  after_deleted name n pick next (reading rounds) w = refl

  -- a read that is not confirmed, while nothing is deleted
  asked_loose : (s : Setting F) (n : ℕ) (pick : Id → Bool) (next : Id) (w : once.World F) (b : Bool)
      → w.stream.deleted ≡ [] → (k : group.World F) → Safe w.stream.acks k w.consumer
      → Safe (if b then asked s.name n pick next w else w).stream.acks k
      (if b then asked s.name n pick next w else w).consumer
  asked_loose s n pick next w false q k i = i
  asked_loose s n pick next w true q k i =
      let p : Phase = w.consumer.machine.phase in
      let v : group.World F = after_asking s.name n pick next p w.stream in
      let j = fewer w.stream.acks v.acks k w.consumer (step_served s.name n pick next p w.stream).acks i in
      record {
        lost = j.lost;
        told = λ id h.
            let P : List Id → Type 0 = λ l. Among id l in
            absurd (subst P (after_deleted s.name n pick next p w.stream ∙ q)
            (serves_told s.name n pick next p w.stream id h));
        to_commit = j.to_commit;
        to_ack = j.to_ack;
        sent = j.sent;
      }

  -- a read without WAIT is while nothing is deleted
  abbrev pub MayAsk : once.World F → once.Event F → Type 0
  MayAsk w (Ask n pick next) = w.stream.deleted ≡ []
  MayAsk w event = Unit {0}

  abbrev pub May : World F → Event F → Type 0
  May w (Plain event) = MayAsk w.now event
  May w event = Unit {0}

  -- an event, in the state that the server has
  safe_now : (s : Setting F) (w : once.World F) (e : once.Event F) → MayAsk w e → NoOtherAck e
      → Safe w.stream.acks w.stream w.consumer
      → Safe (plainly s w e).stream.acks (plainly s w e).stream (plainly s w e).consumer
  safe_now s w (Send n) h a i = i
  safe_now s w (Arrive b) h a i =
      let o : Option (Request F) = w.producer.sent in
      served (filled_by b w.stream o) w.stream w.consumer (step_filled b w.stream o) i
  safe_now s w (Arrive_late j b) h a i =
      let o : Option (Request F) = item w.producer.late j in
      served (filled_by b w.stream o) w.stream w.consumer (step_filled b w.stream o) i
  safe_now s w Hear h a i = i
  safe_now s w Break h a i = i
  safe_now s w (Ask n pick next) h a i = asked_now s n pick next w (is_idle w.consumer) i
  safe_now s w (Take vs) h a i = looked w.stream.acks w.stream w.consumer vs w.consumer.answer i.told i
  safe_now s w Sync h a i =
      synced w.stream.acks w.stream w.consumer
      (is_none w.consumer.answer && is_empty w.consumer.machine.to_acknowledge) i
  safe_now s w Acknowledge_now h a i = acked_now s.name w (is_none w.consumer.answer) i
  safe_now s w Acknowledge_later h a i =
      let j = sent_later w.stream.acks w.stream w.consumer s.name i in
      record { lost = j.lost; told = j.told; to_commit = j.to_commit; to_ack = j.to_ack; sent = j.sent }
  safe_now s w Reconnect h a i = cut_off w.stream.acks w.stream w.consumer i
  safe_now s w (Restart every kept n) h a i = restarted w.stream.acks w.stream w.consumer every kept n i
  safe_now s w (Else e) h a i = else_now w.stream w.consumer e a i

  -- the same in a state that it has not
  safe_apart : (s : Setting F) (w : once.World F) (e : once.Event F) → MayAsk w e → NoOtherAck e
      → (k : group.World F) → Safe w.stream.acks k w.consumer
      → Safe (plainly s w e).stream.acks k (plainly s w e).consumer
  safe_apart s w (Send n) h a k i = i
  safe_apart s w (Arrive b) h a k i =
      let o : Option (Request F) = w.producer.sent in
      fewer w.stream.acks (filled_by b w.stream o).acks k w.consumer (step_filled b w.stream o).acks i
  safe_apart s w (Arrive_late j b) h a k i =
      let o : Option (Request F) = item w.producer.late j in
      fewer w.stream.acks (filled_by b w.stream o).acks k w.consumer (step_filled b w.stream o).acks i
  safe_apart s w Hear h a k i = i
  safe_apart s w Break h a k i = i
  safe_apart s w (Ask n pick next) h a k i = asked_loose s n pick next w (is_idle w.consumer) h k i
  safe_apart s w (Take vs) h a k i = looked w.stream.acks k w.consumer vs w.consumer.answer i.told i
  safe_apart s w Sync h a k i =
      synced w.stream.acks k w.consumer (is_none w.consumer.answer && is_empty w.consumer.machine.to_acknowledge) i
  safe_apart s w Acknowledge_now h a k i = acked_apart s.name w (is_none w.consumer.answer) k i
  safe_apart s w Acknowledge_later h a k i = sent_later w.stream.acks k w.consumer s.name i
  safe_apart s w Reconnect h a k i = cut_off w.stream.acks k w.consumer i
  safe_apart s w (Restart every kept n) h a k i = restarted w.stream.acks k w.consumer every kept n i
  safe_apart s w (Else e) h a k i =
      fewer w.stream.acks (group.happens w.stream e).acks k w.consumer (else_acks w.stream e a) i

  pub record AllSafe (w : World F) : Type 0 where
    pub now : Safe w.now.stream.acks w.now.stream w.now.consumer
    pub each : (k : group.World F) → Among k w.kept → Safe w.now.stream.acks k w.now.consumer

  remembered : (kept : List (group.World F)) (w : once.World F) → Safe w.stream.acks w.stream w.consumer
      → ((k : group.World F) → Among k kept → Safe w.stream.acks k w.consumer) → AllSafe (remembers kept w)
  remembered kept w i f = record {
    now = i;
    each = λ k h. elim h [
      | inl e ↦ (let P : group.World F → Type 0 = λ k. Safe w.stream.acks k w.consumer in subst P e i)
      | inr a ↦ f k a
    ];
  }

  arrives : (s : Setting F) (w : World F) (b : Bool) (asked said : ℕ) → AllSafe w
      → AllSafe (happens s w (Arrive_waits b asked said))
  arrives s w b asked said i =
      let o : Option (Request F) = w.now.producer.sent in
      let v : once.World F = once.happens s w.now (Arrive b) in
      let t = step_filled b w.now.stream o in
      let here : Safe v.stream.acks v.stream v.consumer = served v.stream w.now.stream w.now.consumer t i.now in
      let cut : once.World F = once.happens s v Break in
      let case : (c : Bool) → AllSafe (remembers (if c then [] else w.kept) (if c then v else cut))
      = λ c. elim c as (λ c. AllSafe (remembers (if c then [] else w.kept) (if c then v else cut))) [
        | true ↦ remembered [] v here (λ k h. absurd h)
        | false ↦ remembered w.kept cut here
            (λ k h. fewer w.now.stream.acks v.stream.acks k w.now.consumer t.acks (i.each k h))
      ] in
      case (is_confirmed asked said)

  asked_apart : (s : Setting F) (n : ℕ) (pick : Id → Bool) (next : Id) (w : once.World F) (b : Bool)
      (k : group.World F) → Safe w.stream.acks k w.consumer
      → Safe (if b then asked s.name n pick next w else w).stream.acks k
      (reconnects (if b then asked s.name n pick next w else w).consumer)
  asked_apart s n pick next w false k i = cut_off w.stream.acks k w.consumer i
  asked_apart s n pick next w true k i =
      let p : Phase = w.consumer.machine.phase in
      let v : group.World F = after_asking s.name n pick next p w.stream in
      fewer w.stream.acks v.acks k (reconnects w.consumer) (step_served s.name n pick next p w.stream).acks
      (cut_off w.stream.acks k w.consumer i)

  asks : (s : Setting F) (w : World F) (n : ℕ) (pick : Id → Bool) (next : Id) (asked said : ℕ) → AllSafe w
      → AllSafe (happens s w (Ask_waits n pick next asked said))
  asks s w n pick next asked said i =
      let v : once.World F = once.happens s w.now (Ask n pick next) in
      let here : Safe v.stream.acks v.stream v.consumer =
      asked_now s n pick next w.now (is_idle w.now.consumer) i.now in
      let cut : once.World F = once.happens s v Reconnect in
      let case : (c : Bool) → AllSafe (remembers (if c then [] else w.kept) (if c then v else cut))
      = λ c. elim c as (λ c. AllSafe (remembers (if c then [] else w.kept) (if c then v else cut))) [
        | true ↦ remembered [] v here (λ k h. absurd h)
        | false ↦ remembered w.kept cut (cut_off v.stream.acks v.stream v.consumer here)
            (λ k h. asked_apart s n pick next w.now (is_idle w.now.consumer) k (i.each k h))
      ] in
      case (is_confirmed asked said)

  fails : (w : World F) (j : ℕ) (o : Option (group.World F)) → item w.kept j ≡ o → AllSafe w → AllSafe (fails_over w o)
  fails w j None q i = i
  fails w j (Some k) q i =
      let acks : List (Name × List Id) = w.now.stream.acks in
      let c = cut_off acks k w.now.consumer (i.each k (among_item w.kept j k q)) in
      record {
        now = record { lost = c.lost; told = c.told; to_commit = c.to_commit; to_ack = c.to_ack; sent = c.sent };
        each = λ k h. cut_off acks k w.now.consumer (i.each k h);
      }

  pub step : (s : Setting F) (w : World F) (e : Event F) → May w e → NoneByOthers e → AllSafe w → AllSafe (happens s w e)
  step s w (Plain e) h a i =
      remembered w.kept (plainly s w.now e) (safe_now s w.now e h a i.now)
      (λ k m. safe_apart s w.now e h a k (i.each k m))
  step s w (Arrive_waits b asked said) h a i = arrives s w b asked said i
  step s w (Ask_waits n pick next asked said) h a i = asks s w n pick next asked said i
  step s w (Failover j) h a i = fails w j (item w.kept j) refl i

  -- who waits need not know that nothing is deleted
  waits_plain : (w : once.World F) (e : once.Event F) → Waits (Plain e) → MayAsk w e
  waits_plain w (Send n) h = tt
  waits_plain w (Arrive b) h = tt
  waits_plain w (Arrive_late j b) h = tt
  waits_plain w Hear h = tt
  waits_plain w Break h = tt
  waits_plain w (Ask n pick next) h = absurd h
  waits_plain w (Take vs) h = tt
  waits_plain w Sync h = tt
  waits_plain w Acknowledge_now h = tt
  waits_plain w Acknowledge_later h = tt
  waits_plain w Reconnect h = tt
  waits_plain w (Restart every kept n) h = tt
  waits_plain w (Else e) h = tt

  waits_may : (w : World F) (e : Event F) → Waits e → May w e
  waits_may w (Plain e) h = waits_plain w.now e h
  waits_may w (Arrive_waits b asked said) h = tt
  waits_may w (Ask_waits n pick next asked said) h = tt
  waits_may w (Failover j) h = tt

  steps : (s : Setting F) (es : List (Event F)) (w : World F) → AllWait es → NoOtherAcks es → AllSafe w
      → AllSafe (run s es w)
  steps s [] w h a i = i
  steps s (e ∷ es) w h a i = steps s es (happens s w e) h.1 a.1 (step s w e (waits_may w e h.0) a.0 i)

  pub start : AllSafe first_world
  start =
      let i : Safe [] (first_world {F = F}).now.stream (first_world {F = F}).now.consumer = record {
        lost = λ id h. absurd h;
        told = tt;
        to_commit = λ id h. absurd h;
        to_ack = λ id h. absurd h;
        sent = λ a h id m. absurd h;
      } in
      remembered [] first_world.now i (λ k h. absurd h)

  -- what is in the log is kept
  is_kept : (w : World F) → Holds w → AllSafe w → (e : Entry F) → Among e (log w.now) → IsKept w.now e
  is_kept w i j e h =
      let k : group.World F = w.now.stream in
      elim (among_split e k.seen k.fresh h) [
        | inr b ↦ inl b
        | inl b ↦ elim (j.now.lost e.0 (id_among e k.seen b)) [
          | inl p ↦ inr (inl p)
          | inr d ↦ elim d [
            | inl f ↦
                (let t = among_of_map (λ (x : Entry F). x.0) e.0 w.now.consumer.file f in
                let P : Entry F → Type 0 = λ x. Among x w.now.consumer.file in
                inr (inr (inl (subst P (same_entry (log w.now) (once_in_log w i.distinct) t.x e
                (among_left t.x k.seen k.fresh (file_in_seen w i t.x t.within)) h t.is) t.within))))
            | inr g ↦ inr (inr (inr g))
          ]
        ]
      ]

  -- a log of this number of entries is all records
  whole_log : (s : Setting F) (fit : Fit s) (m : ℕ) (w : World F) → Logs s fit m w → m ≡ length s.records
      → log w.now ≡ entries s.base s.records
  whole_log s fit m w i q =
      let r = split s fit m w i in
      let many : length (entries s.base s.records) ≡ length s.records =
      length-map (numbered s.base s.records) as_entry ∙ length_numbered s.base s.records in
      let sum : length (log w.now) + length r.0 ≡ length s.records =
      sym (length-append (log w.now) r.0) ∙ (ap length r.1 ∙ many) in
      let none : (l : List (Entry F)) → length l ≤ 0 → log w.now ++ l ≡ log w.now
      = λ l. elim l as (λ l. length l ≤ 0 → log w.now ++ l ≡ log w.now)
      [ [] ↦ λ h. append_nil (log w.now) | x ∷ xs ↦ λ h. absurd (omega (arith, h)) ] in
      sym (none r.0 (omega (arith, sum, q, known_in_log s fit m w i))) ∙ r.1

pub nothing_confirmed_is_lost : {F : Type 0} → NothingConfirmedIsLost F
nothing_confirmed_is_lost {F} s fit es more alone still h k a b e m =
    let w : World F = after s es in
    let v : World F = run s more w in
    let known =
    known_logs s fit es more alone still (producer_always_waits es h) (producer_always_waits more k) in
    is_kept v (always_on s es more h k) (steps s more w k b (steps s es first_world h a start)) e
    (first_in_log s fit (known_in w.now.producer.stage) v known e m)

pub each_comes_out_once : {F : Type 0} → EachComesOutOnce F
each_comes_out_once {F} s fit es more alone still h k a b all_in drained none =
    let w : World F = after s es in
    let v : World F = run s more w in
    let known =
    known_logs s fit es more alone still (producer_always_waits es h) (producer_always_waits more k) in
    let i = always_on s es more h k in
    let safe = steps s more w k b (steps s es first_world h a start) in
    let all : log v.now ≡ entries s.base s.records =
    whole_log s fit (known_in w.now.producer.stage) v known (ap known_in all_in) in
    let P : Entry F → List (Entry F) → Type 0 = λ e l. Among e l in (
      λ e m. elim (is_kept v i safe e (subst (λ l. P e l) (sym all) m)) [
        | inl x ↦ absurd (subst (λ l. P e l) drained.1 x)
        | inr x ↦ elim x [
          | inl y ↦ absurd (let Q : List Pending → Type 0 = λ l. Among e.0 (pending_ids l) in subst Q drained.0 y)
          | inr y ↦ elim y [
            | inl z ↦ z
            | inr z ↦ absurd (let Q : List Id → Type 0 = λ l. Among e.0 l in subst Q none z)
          ]
        ]
      ],
      (
        λ e m. subst (λ l. P e l) all
            (among_left e v.now.stream.seen v.now.stream.fresh (file_in_seen v i e m)),
        once_on s es more,
      ),
    )
