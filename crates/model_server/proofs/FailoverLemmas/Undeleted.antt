-- Without WAIT too no entry of the log is lost, if there are no deletions.
use Rattle.std.proofs.Common.{◌≡◌, inl, inr, refl, subst, ◌∙◌, ℕ, Bool, true, false, ◌&&◌, List, [], ◌∷◌, ◌++◌}
use Rattle.std.proofs.Common.{Option, Some, None, if◌then◌else◌}
use Rattle.std.specs.Option.{is_none}
use Rattle.model_server.specs.Group.Worker.{Id, Entry, Verdict}
use Rattle.model_server.specs.Group.Group.{Name, Numbers, id_text, is_below, fits}
use Rattle.model_server.specs.Group.World.{Reply, item, appended, comes, ack_comes, empty_world, Append, Delete, Read, Reread}
use Rattle.model_server.specs.Group.World.{Claim, Claim_ids, Comes, Commit, Acknowledge, Ack_comes, Go_back, Crash}
use Rattle.model_server.specs.Group.World as group
use Rattle.model_server.specs.Group.Law.{Among}
use Rattle.model_server.proofs.GroupLemmas.Among.{among_split, among_of_map, among_item}
use Rattle.model_server.specs.Once.Feed.{Numbered, entries, Request, ask_last, batch, known_in}
use Rattle.model_server.specs.Once.Law.{log, IsKept}
use Rattle.model_server.specs.Once.Producer.{add_all, filled_by}
use Rattle.model_server.specs.Once.Consumer.{is_idle}
use Rattle.model_server.specs.Once.World.{Setting, Send, Arrive, Arrive_late, Hear, Break, Ask, Take, Sync}
use Rattle.model_server.specs.Once.World.{Acknowledge_now, Acknowledge_later, Reconnect, Restart, Else, asked, acknowledges}
use Rattle.model_server.specs.Once.World as once
use Rattle.model_server.proofs.OnceLemmas.Apart.{id_among}
use Rattle.model_server.proofs.OnceLemmas.Lasts.{same_entry}
use Rattle.model_server.specs.Failover.World.{World, Event, Plain, Arrive_waits, Ask_waits, Failover, fails_over, remembers}
use Rattle.model_server.specs.Failover.World.{is_confirmed, plainly, happens, run, first_world}
use Rattle.model_server.specs.Failover.Law.{after, NoOtherAdds, NoOtherAcks, NoDelete, NoDeletes, LogIsKept}
use Rattle.model_server.specs.Failover.Law.{ProducerLosesNothing}
use Rattle.model_server.proofs.FailoverLemmas.Added.{known_logs, first_in_log}
use Rattle.model_server.proofs.FailoverLemmas.Records.{once_entries, log_is_of_records, file_is_of_records}
use Rattle.model_server.proofs.FailoverLemmas.Safe.{after_deleted, MayAsk, May, AllSafe, step, start}

module _ {F : Type 0} where
  -- the deleted ones are the same
  abbrev Same : group.World F → group.World F → Type 0
  Same v w = v.deleted ≡ w.deleted

  same_appended : (w : group.World F) (n : Numbers) (f : F) (b : Bool)
      → Same (if b then record w { fresh = w.fresh ++ (id_text n, f) ∷ []; last = n } else w) w
  same_appended w n f true = refl
  same_appended w n f false = refl

  same_batch : (b : List (Numbered F)) (w : group.World F) → Same (add_all w b) w
  same_batch [] w = refl
  same_batch (x ∷ b) w =
      same_batch b (appended w x.0 x.1) ∙ same_appended w x.0 x.1 (is_below w.last x.0 && fits x.0)

  same_filled : (b : Bool) (w : group.World F) (o : Option (Request F)) → Same (filled_by b w o) w
  same_filled b w None = refl
  same_filled b w (Some ask_last) = refl
  same_filled true w (Some (batch r)) = same_batch r w
  same_filled false w (Some (batch r)) = refl

  same_comes : (w : group.World F) (k : ℕ) (o : Option (Reply F)) (vs : List Verdict) → Same (comes w k o vs) w
  same_comes w k None vs = refl
  same_comes w k (Some r) vs = refl

  same_acked : (w : group.World F) (o : Option (Name × List Id)) → Same (ack_comes w o) w
  same_acked w None = refl
  same_acked w (Some a) = refl

  same_else : (w : group.World F) (e : group.Event F) → NoDelete (Plain (Else e)) → Same (group.happens w e) w
  same_else w (Append n f) h = same_appended w n f (is_below w.last n && fits n)
  same_else w (Delete id) h = absurd h
  same_else w (Read c n) h = refl
  same_else w (Reread c pick) h = refl
  same_else w (Claim c pick next) h = refl
  same_else w (Claim_ids c pick) h = refl
  same_else w (Comes k vs) h = same_comes w k (item w.replies k) vs
  same_else w (Commit c) h = refl
  same_else w (Acknowledge c) h = refl
  same_else w (Ack_comes k) h = same_acked w (item w.acks k)
  same_else w (Go_back c) h = refl
  same_else w (Crash c every keeps ids) h = refl

  same_asked : (s : Setting F) (n : ℕ) (pick : Id → Bool) (next : Id) (w : once.World F) (b : Bool)
      → Same (if b then asked s.name n pick next w else w).stream w.stream
  same_asked s n pick next w false = refl
  same_asked s n pick next w true = after_deleted s.name n pick next w.consumer.machine.phase w.stream

  same_now : (name : Name) (w : once.World F) (b : Bool) → Same (if b then acknowledges name w else w).stream w.stream
  same_now name w false = refl
  same_now name w true = refl

  same_plain : (s : Setting F) (w : once.World F) (e : once.Event F) → NoDelete (Plain e)
      → Same (plainly s w e).stream w.stream
  same_plain s w (Send n) h = refl
  same_plain s w (Arrive b) h = same_filled b w.stream w.producer.sent
  same_plain s w (Arrive_late j b) h = same_filled b w.stream (item w.producer.late j)
  same_plain s w Hear h = refl
  same_plain s w Break h = refl
  same_plain s w (Ask n pick next) h = same_asked s n pick next w (is_idle w.consumer)
  same_plain s w (Take vs) h = refl
  same_plain s w Sync h = refl
  same_plain s w Acknowledge_now h = same_now s.name w (is_none w.consumer.answer)
  same_plain s w Acknowledge_later h = refl
  same_plain s w Reconnect h = refl
  same_plain s w (Restart every kept n) h = refl
  same_plain s w (Else e) h = same_else w.stream e h

  -- nothing is deleted, in each state that the server may return to
  record Whole (w : World F) : Type 0 where
    now : w.now.stream.deleted ≡ []
    each : (k : group.World F) → Among k w.kept → k.deleted ≡ []

  remembered : (kept : List (group.World F)) (w : once.World F) → w.stream.deleted ≡ []
      → ((k : group.World F) → Among k kept → k.deleted ≡ []) → Whole (remembers kept w)
  remembered kept w q f = record {
    now = q;
    each = λ k h. elim h [
      | inl e ↦ (let P : group.World F → Type 0 = λ k. k.deleted ≡ [] in subst P e q)
      | inr a ↦ f k a
    ];
  }

  waiting : (kept : List (group.World F)) (v cut : once.World F) (b : Bool) → v.stream.deleted ≡ []
      → cut.stream.deleted ≡ [] → ((k : group.World F) → Among k kept → k.deleted ≡ [])
      → Whole (remembers (if b then [] else kept) (if b then v else cut))
  waiting kept v cut true q r f = remembered [] v q (λ k h. absurd h)
  waiting kept v cut false q r f = remembered kept cut r f

  failing : (w : World F) (j : ℕ) (o : Option (group.World F)) → item w.kept j ≡ o → Whole w → Whole (fails_over w o)
  failing w j None q i = i
  failing w j (Some k) q i = record { now = i.each k (among_item w.kept j k q); each = i.each }

  whole_after : (s : Setting F) (w : World F) (e : Event F) → NoDelete e → Whole w → Whole (happens s w e)
  whole_after s w (Plain e) h i =
      remembered w.kept (plainly s w.now e) (same_plain s w.now e h ∙ i.now) i.each
  whole_after s w (Arrive_waits b asked said) h i =
      let v : once.World F = once.happens s w.now (Arrive b) in
      let q : v.stream.deleted ≡ [] = same_filled b w.now.stream w.now.producer.sent ∙ i.now in
      waiting w.kept v (once.happens s v Break) (is_confirmed asked said) q q i.each
  whole_after s w (Ask_waits n pick next asked said) h i =
      let v : once.World F = once.happens s w.now (Ask n pick next) in
      let q : v.stream.deleted ≡ [] = same_asked s n pick next w.now (is_idle w.now.consumer) ∙ i.now in
      waiting w.kept v (once.happens s v Reconnect) (is_confirmed asked said) q q i.each
  whole_after s w (Failover j) h i = failing w j (item w.kept j) refl i

  plain_may : (w : once.World F) (e : once.Event F) → w.stream.deleted ≡ [] → MayAsk w e
  plain_may w (Send n) q = tt
  plain_may w (Arrive b) q = tt
  plain_may w (Arrive_late j b) q = tt
  plain_may w Hear q = tt
  plain_may w Break q = tt
  plain_may w (Ask n pick next) q = q
  plain_may w (Take vs) q = tt
  plain_may w Sync q = tt
  plain_may w Acknowledge_now q = tt
  plain_may w Acknowledge_later q = tt
  plain_may w Reconnect q = tt
  plain_may w (Restart every kept n) q = tt
  plain_may w (Else e) q = tt

  may : (w : World F) (e : Event F) → Whole w → May w e
  may w (Plain e) i = plain_may w.now e i.now
  may w (Arrive_waits b asked said) i = tt
  may w (Ask_waits n pick next asked said) i = tt
  may w (Failover j) i = tt

  steps : (s : Setting F) (es : List (Event F)) (w : World F) → NoOtherAcks es → NoDeletes es → Whole w → AllSafe w
      → AllSafe (run s es w)
  steps s [] w a d i j = j
  steps s (e ∷ es) w a d i j =
      steps s es (happens s w e) a.1 d.1 (whole_after s w e d.0 i) (step s w e (may w e i) a.0 j)

pub log_is_kept : {F : Type 0} → LogIsKept F
log_is_kept {F} s fit es alone single none e h =
    let w : World F = after s es in
    let k : group.World F = w.now.stream in
    let first : Whole {F = F} first_world = remembered [] first_world.now refl (λ k h. absurd h) in
    let i = steps s es first_world single none first start in
    elim (among_split e k.seen k.fresh h) [
      | inr b ↦ inl b
      | inl b ↦ elim (i.now.lost e.0 (id_among e k.seen b)) [
        | inl p ↦ inr (inl p)
        | inr d ↦ elim d [
          | inl f ↦
              (let t = among_of_map (λ (x : Entry F). x.0) e.0 w.now.consumer.file f in
              let P : Entry F → Type 0 = λ x. Among x w.now.consumer.file in
              inr (inr (inl (subst P (same_entry (entries s.base s.records) (once_entries s.base s.records fit) t.x e
              (file_is_of_records s es alone t.x t.within) (log_is_of_records s es alone e h) t.is) t.within))))
          | inr g ↦ inr (inr (inr g))
        ]
      ]
    ]

module _ {F : Type 0} where
  run_both : (s : Setting F) (es more : List (Event F)) (w : World F) → run s (es ++ more) w ≡ run s more (run s es w)
  run_both s [] more w = refl
  run_both s (e ∷ es) more w = run_both s es more (happens s w e)

  no_adds_both : (es more : List (Event F)) → NoOtherAdds es → NoOtherAdds more → NoOtherAdds (es ++ more)
  no_adds_both [] more h k = k
  no_adds_both (e ∷ es) more h k = (h.0, no_adds_both es more h.1 k)

  no_acks_both : (es more : List (Event F)) → NoOtherAcks es → NoOtherAcks more → NoOtherAcks (es ++ more)
  no_acks_both [] more h k = k
  no_acks_both (e ∷ es) more h k = (h.0, no_acks_both es more h.1 k)

  no_deletes_both : (es more : List (Event F)) → NoDeletes es → NoDeletes more → NoDeletes (es ++ more)
  no_deletes_both [] more h k = k
  no_deletes_both (e ∷ es) more h k = (h.0, no_deletes_both es more h.1 k)

pub producer_loses_nothing : {F : Type 0} → ProducerLosesNothing F
producer_loses_nothing {F} s fit es more alone still h k a b d g e m =
    let v : World F = run s more (after s es) in
    let n : ℕ = known_in (after s es).now.producer.stage in
    let both : after s (es ++ more) ≡ v = run_both s es more first_world in
    let in_log : Among e (log v.now) = first_in_log s fit n v (known_logs s fit es more alone still h k) e m in
    let P : World F → Type 0 = λ w. Among e (log w.now) → IsKept w.now e in
    subst P both
    (λ l. log_is_kept s fit (es ++ more) (no_adds_both es more alone still) (no_acks_both es more a b)
    (no_deletes_both es more d g) e l)
    in_log
