-- What is in the file was delivered in each state that the server may return to.
use Rattle.std.proofs.Common.{◌≡◌, inl, inr, refl, ap, subst, ◌∙◌, ℕ, Bool, true, false}
use Rattle.std.proofs.Common.{not, ◌&&◌, List, [], ◌∷◌, map, filter, Option}
use Rattle.std.proofs.Common.{Some, None, if◌then◌else◌}
use Rattle.std.specs.Option.{is_none}
use Rattle.model_server.specs.Group.Worker.{Id, Entry, Delivered, Phase, own, claiming, reading}
use Rattle.model_server.specs.Group.Worker.{entries_in}
use Rattle.model_server.specs.Group.Group.{Name, listed, given, passed, whole, as_it_is, pending_ids}
use Rattle.model_server.specs.Group.Group.{own as own_ids}
use Rattle.model_server.specs.Group.World.{item, empty_world}
use Rattle.model_server.specs.Group.World as group
use Rattle.model_server.specs.Group.Law.{Among}
use Rattle.model_server.proofs.GroupLemmas.Among.{among_left, among_right, among_filtered, among_item}
use Rattle.model_server.proofs.GroupLemmas.Steps.{given_passed}
use Rattle.model_server.specs.Once.Feed.{Request}
use Rattle.model_server.specs.Once.Producer.{filled_by}
use Rattle.model_server.specs.Once.Consumer.{Consumer, is_empty, is_idle, after_asking, answer_for, reconnects}
use Rattle.model_server.specs.Once.World.{Setting, Send, Arrive, Arrive_late, Hear, Break, Ask, Take, Sync}
use Rattle.model_server.specs.Once.World.{Acknowledge_now, Acknowledge_later, Reconnect, Restart, Else, asked, acknowledges}
use Rattle.model_server.specs.Once.World as once
use Rattle.model_server.proofs.OnceLemmas.Apart.{id_among}
use Rattle.model_server.proofs.OnceLemmas.Ids.{AddedIn}
use Rattle.model_server.proofs.OnceLemmas.Write.{calm_else, calm_filled, calm_served, not_fresh}
use Rattle.model_server.specs.Failover.World.{World, Event, Plain, Arrive_waits, Ask_waits, Failover, fails_over}
use Rattle.model_server.specs.Failover.World.{remembers, is_confirmed, plainly, happens, run, first_world}
use Rattle.model_server.specs.Failover.Law.{after, Waits, AllWait, FileIsOfLog}
use Rattle.model_server.specs.Failover.Law.{HandledIsNotNew}
use Rattle.model_server.proofs.FailoverLemmas.Distinct.{Distinct, distinct_after, first_distinct, once_in_log}
use Rattle.model_server.proofs.FailoverLemmas.Lines.{Lines, more, taken, synced, restarted, cut_off, answered}

module _ {F : Type 0} where
  -- an entry delivered with its fields is one of the entries
  nil_or_whole : (deleted : List Id) (es : List (Entry F)) (e : Entry F)
      → Among (e.0, Some e.1) (map (as_it_is deleted) es) → Among e es
  nil_or_whole deleted [] e h = absurd h
  nil_or_whole deleted (x ∷ es) e (inr h) = inr (nil_or_whole deleted es e h)
  nil_or_whole deleted (x ∷ es) e (inl q) =
      let case : (b : Bool) → ◌≡◌ {A = Delivered F} (x.0, if b then None else Some x.1) (e.0, Some e.1) → x ≡ e
      = λ b. elim b as (λ b. ◌≡◌ {A = Delivered F} (x.0, if b then None else Some x.1) (e.0, Some e.1) → x ≡ e) [
        | true ↦ λ q. absurd (let t : None ≡ Some e.1 = ap (λ (d : Delivered F). d.1) q in cc)
        | false ↦ λ q.
            (let a : x.0 ≡ e.0 = ap (λ (d : Delivered F). d.0) q in
            let t : Some x.1 ≡ Some e.1 = ap (λ (d : Delivered F). d.1) q in
            let b : x.1 ≡ e.1 = cc in
            ap (λ (i : Id). let y : Entry F = (i, x.1) in y) a ∙ ap (λ f. let y : Entry F = (e.0, f) in y) b)
      ] in
      inl (case (listed deleted x.0) q)

  whole_is : (es : List (Entry F)) → map whole es ≡ map (as_it_is []) es
  whole_is [] = refl
  whole_is (x ∷ es) = ap (λ l. let d : Delivered F = (x.0, Some x.1) in d ∷ l) (whole_is es)

  whole_from : (es : List (Entry F)) (e : Entry F) → Among (e.0, Some e.1) (map whole es) → Among e es
  whole_from es e h =
      let P : List (Delivered F) → Type 0 = λ l. Among (e.0, Some e.1) l in
      nil_or_whole [] es e (subst P (whole_is es) h)

  -- an entry that the server delivers is in its log, and is not undelivered
  pub handed : (name : Name) (n : ℕ) (pick : Id → Bool) (next : Id) (p : Phase) (k : group.World F) (e : Entry F)
      → Among (e.0, Some e.1) (entries_in (answer_for name n pick next p k))
      → Among e (after_asking name n pick next p k).seen
  handed name n pick next (own behind) k e h =
      let p : Entry F → Bool = λ e. pick e.0 && listed (own_ids name k.pending) e.0 in
      among_filtered p e k.seen (nil_or_whole k.deleted (filter p k.seen) e h)
  handed name n pick next (claiming from) k e h =
      let p : Entry F → Bool = λ e. pick e.0 && (listed (pending_ids k.pending) e.0 && not (listed k.deleted e.0)) in
      among_filtered p e k.seen (whole_from (filter p k.seen) e h)
  handed name n pick next (reading rounds) k e h =
      among_right e k.seen (passed k.deleted n k.fresh)
      (given_passed k.deleted n k.fresh e (whole_from (given k.deleted n k.fresh) e h))

  -- an entry that the server delivered in this state, or skipped
  abbrev pub Seen : group.World F → Entry F → Type 0
  Seen k e = Among e k.seen

  -- the lines are of these, and what is on the way to get one
  abbrev pub Read : group.World F → Consumer F → Type 0
  Read k c = Lines (Seen k) c

  -- in the present state, and in those that are kept with it
  pub record Reads (w : World F) : Type 0 where
    pub now : Read w.now.stream w.now.consumer
    pub each : (k : group.World F) → Among k w.kept → Read k w.now.consumer

  -- no id is twice in the log either
  pub record Holds (w : World F) : Type 0 where
    pub distinct : Distinct w
    pub reads : Reads w

module _ {F : Type 0} (s : Setting F) where
  acked_apart : (k : group.World F) (w : once.World F) (b : Bool) → Read k w.consumer
      → Read k (if b then acknowledges s.name w else w).consumer
  acked_apart k w true r = answered (Seen k) w.consumer r
  acked_apart k w false r = r

  -- the consumer's side of an event, in a state that the server has not
  read_apart : (w : once.World F) (e : once.Event F) → Waits (Plain e) → (k : group.World F) → Read k w.consumer
      → Read k (plainly s w e).consumer
  read_apart w (Send n) h k r = r
  read_apart w (Arrive b) h k r = absurd h
  read_apart w (Arrive_late j b) h k r = r
  read_apart w Hear h k r = r
  read_apart w Break h k r = r
  read_apart w (Ask n pick next) h k r = absurd h
  read_apart w (Take vs) h k r = taken (Seen k) w.consumer vs w.consumer.answer refl r
  read_apart w Sync h k r =
      synced (Seen k) w.consumer (is_none w.consumer.answer && is_empty w.consumer.machine.to_acknowledge) r
  read_apart w Acknowledge_now h k r = acked_apart k w (is_none w.consumer.answer) r
  read_apart w Acknowledge_later h k r = r
  read_apart w Reconnect h k r = cut_off (Seen k) w.consumer r
  read_apart w (Restart every kept n) h k r = restarted (Seen k) w.consumer every kept n r
  read_apart w (Else e) h k r = r

  acked_now : (w : once.World F) (b : Bool) → Read w.stream w.consumer
      → Read (if b then acknowledges s.name w else w).stream (if b then acknowledges s.name w else w).consumer
  acked_now w true r =
      more (Seen w.stream) (Seen (acknowledges s.name w).stream) (acknowledges s.name w).consumer (λ e h. h)
      (answered (Seen w.stream) w.consumer r)
  acked_now w false r = r

  read_now : (w : once.World F) (e : once.Event F) → Waits (Plain e) → AddedIn w.stream
      → Read w.stream w.consumer → Read (plainly s w e).stream (plainly s w e).consumer
  read_now w (Send n) h i r = r
  read_now w (Arrive b) h i r = absurd h
  read_now w (Arrive_late j b) h i r =
      more (Seen w.stream) (Seen (filled_by b w.stream (item w.producer.late j))) w.consumer
      (calm_filled b w.stream (item w.producer.late j)).0 r
  read_now w Hear h i r = r
  read_now w Break h i r = r
  read_now w (Ask n pick next) h i r = absurd h
  read_now w (Take vs) h i r = taken (Seen w.stream) w.consumer vs w.consumer.answer refl r
  read_now w Sync h i r =
      synced (Seen w.stream) w.consumer (is_none w.consumer.answer && is_empty w.consumer.machine.to_acknowledge) r
  read_now w Acknowledge_now h i r = acked_now w (is_none w.consumer.answer) r
  read_now w Acknowledge_later h i r =
      more (Seen w.stream) (Seen (plainly s w Acknowledge_later).stream) w.consumer (λ e h. h) r
  read_now w Reconnect h i r = cut_off (Seen w.stream) w.consumer r
  read_now w (Restart every kept n) h i r = restarted (Seen w.stream) w.consumer every kept n r
  read_now w (Else e) h i r =
      more (Seen w.stream) (Seen (group.happens w.stream e)) w.consumer (calm_else w.stream i.once e).0 r

  asked_read : (n : ℕ) (pick : Id → Bool) (next : Id) (w : once.World F) (b : Bool) → AddedIn w.stream
      → Read w.stream w.consumer
      → Read (if b then asked s.name n pick next w else w).stream (if b then asked s.name n pick next w else w).consumer
  asked_read n pick next w false i r = r
  asked_read n pick next w true i r =
      let p : Phase = w.consumer.machine.phase in
      let v : group.World F = after_asking s.name n pick next p w.stream in
      let grown = more (Seen w.stream) (Seen v) w.consumer
      (calm_served s.name n pick next p w.stream i.once).0 r in
      record { lines = grown.lines; coming = λ e h. handed s.name n pick next p w.stream e h }

  asked_apart : (k : group.World F) (n : ℕ) (pick : Id → Bool) (next : Id) (w : once.World F) (b : Bool)
      → Read k w.consumer → Read k (reconnects (if b then asked s.name n pick next w else w).consumer)
  asked_apart k n pick next w true r = record { lines = r.lines; coming = λ e h. absurd h }
  asked_apart k n pick next w false r = record { lines = r.lines; coming = λ e h. absurd h }

  remembered : (kept : List (group.World F)) (w : once.World F) → Read w.stream w.consumer
      → ((k : group.World F) → Among k kept → Read k w.consumer) → Reads (remembers kept w)
  remembered kept w r f = record {
    now = r;
    each = λ k h. elim h [
      | inl e ↦ (let P : group.World F → Type 0 = λ k. Read k w.consumer in subst P e r)
      | inr a ↦ f k a
    ];
  }

  -- after a WAIT that was confirmed, or not
  waiting : (kept : List (group.World F)) (v cut : once.World F) (b : Bool) → Read v.stream v.consumer
      → Read cut.stream cut.consumer → ((k : group.World F) → Among k kept → Read k cut.consumer)
      → Reads (remembers (if b then [] else kept) (if b then v else cut))
  waiting kept v cut true r q f = remembered [] v r (λ k h. absurd h)
  waiting kept v cut false r q f = remembered kept cut q f

  fails : (w : World F) (j : ℕ) (o : Option (group.World F)) → item w.kept j ≡ o → Reads w → Reads (fails_over w o)
  fails w j None q r = r
  fails w j (Some k) q r = record {
    now = cut_off (Seen k) w.now.consumer (r.each k (among_item w.kept j k q));
    each = λ k h. cut_off (Seen k) w.now.consumer (r.each k h);
  }

  reads_after : (w : World F) (e : Event F) → Waits e → Distinct w → Reads w → Reads (happens s w e)
  reads_after w (Plain e) h i r =
      remembered w.kept (plainly s w.now e) (read_now w.now e h i.now r.now)
      (λ k a. read_apart w.now e h k (r.each k a))
  reads_after w (Arrive_waits b asked said) h i r =
      let o : Option (Request F) = w.now.producer.sent in
      let v : once.World F = once.happens s w.now (Arrive b) in
      let read : Read v.stream v.consumer =
      more (Seen w.now.stream) (Seen (filled_by b w.now.stream o)) w.now.consumer (calm_filled b w.now.stream o).0 r.now in
      waiting w.kept v (once.happens s v Break) (is_confirmed asked said) read read r.each
  reads_after w (Ask_waits n pick next asked said) h i r =
      let v : once.World F = once.happens s w.now (Ask n pick next) in
      let read : Read v.stream v.consumer = asked_read n pick next w.now (is_idle w.now.consumer) i.now r.now in
      waiting w.kept v (once.happens s v Reconnect) (is_confirmed asked said) read
      (cut_off (Seen v.stream) v.consumer read)
      (λ k a. asked_apart k n pick next w.now (is_idle w.now.consumer) (r.each k a))
  reads_after w (Failover j) h i r = fails w j (item w.kept j) refl r

  steps : (es : List (Event F)) (w : World F) → AllWait es → Holds w → Holds (run s es w)
  steps [] w h i = i
  steps (e ∷ es) w h i =
      steps es (happens s w e) h.1
      (record { distinct = distinct_after s w e i.distinct; reads = reads_after w e h.0 i.distinct i.reads })

  always : (es : List (Event F)) → AllWait es → Holds (after s es)
  always es h =
      let read : Read {F = F} empty_world first_world.now.consumer =
      record { lines = λ e h. absurd h; coming = λ e h. absurd h } in
      steps es first_world h
      (record { distinct = first_distinct; reads = remembered [] first_world.now read (λ k h. absurd h) })

  pub always_on : (es more : List (Event F)) → AllWait es → AllWait more → Holds (run s more (after s es))
  always_on es more h k = steps more (after s es) k (always es h)

pub file_in_seen : {F : Type 0} (w : World F) → Holds w → (e : Entry F)
    → Among e w.now.consumer.file → Among e w.now.stream.seen
file_in_seen w i e h = i.reads.now.lines e (among_left e w.now.consumer.file w.now.consumer.lines h)

pub file_is_of_log : {F : Type 0} → FileIsOfLog F
file_is_of_log s es h e a =
    let w = after s es in
    among_left e w.now.stream.seen w.now.stream.fresh (file_in_seen w (always s es h) e a)

pub handled_is_not_new : {F : Type 0} → HandledIsNotNew F
handled_is_not_new s es h e a b =
    let w = after s es in
    let i = always s es h in
    not_fresh w.now.stream (once_in_log w i.distinct) e.0
    (id_among e w.now.stream.seen (file_in_seen w i e a)) (id_among e w.now.stream.fresh b)
