-- Each record that was added is undelivered, or pending, or in the file, or deleted.
use Rattle.std.proofs.Common.{◌≡◌, ◌⊎◌, inl, inr, refl, sym, ap, subst, ◌∙◌, ℕ, ◌+◌, ◌-◌, zero, suc, Bool, true, false}
use Rattle.std.proofs.Common.{◌&&◌, List, [], ◌∷◌, ◌++◌, map, length, take, drop, Option, Some}
use Rattle.std.proofs.Common.{None, if◌then◌else◌}
use Rattle.std.specs.Option.{is_none}
use Rattle.model_server.specs.Group.Worker.{Id, Entry, Delivered, Verdict, done, left_pending, stop, follows, Phase, own, claiming}
use Rattle.model_server.specs.Group.Worker.{reading, Answer, acknowledged, own_pending, taken_over, news, entries_in, handled_one}
use Rattle.model_server.specs.Group.Worker.{handled_in, acks_one, acks_in, still}
use Rattle.model_server.specs.Group.Group.{Name, Pending, Numbers, is_below, fits, id_text, listed, ids_of, given, passed}
use Rattle.model_server.specs.Group.Group.{newly_pending, whole, as_it_is, pending_ids}
use Rattle.model_server.specs.Group.World.{log_of, item, appended, comes, ack_comes, read, Reply, Append, Delete, Read, Reread}
use Rattle.model_server.specs.Group.World.{Claim, Claim_ids, Comes, Commit, Acknowledge, Ack_comes, Go_back, Crash}
use Rattle.model_server.specs.Group.World as group
use Rattle.model_server.specs.Group.Law.{Among}
use Rattle.model_server.proofs.GroupLemmas.Among.{among_left, among_right, among_split, among_of_map, among_item}
use Rattle.model_server.proofs.GroupLemmas.Among.{listed_among}
use Rattle.model_server.proofs.GroupLemmas.Steps.{passed_given, claimed_keeps, acknowledged_keeps, raised_ids, ids_append}
use Rattle.model_server.specs.Once.Feed.{Numbered, entries, Request, ask_last, batch}
use Rattle.model_server.specs.Once.Producer.{add_all, filled, filled_by}
use Rattle.model_server.specs.Once.Consumer.{Consumer, is_empty, is_idle, after_asking, answer_for, takes, syncs, last_added}
use Rattle.model_server.specs.Once.Consumer.{restarts}
use Rattle.model_server.specs.Once.World.{Setting, World, first_world, Event, Send, Arrive, Arrive_late, Hear, Break}
use Rattle.model_server.specs.Once.World.{Ask, Take, Sync, Acknowledge_now, Acknowledge_later, Reconnect, Restart, Else, asked}
use Rattle.model_server.specs.Once.World.{acknowledges, happens, run}
use Rattle.model_server.specs.Once.Law.{log, after, Once, NoOtherAck, NoOtherAcks, EachIsKept, EachComesOutOnce}
use Rattle.model_server.proofs.OnceLemmas.Apart.{ids_both, id_among}
use Rattle.model_server.proofs.OnceLemmas.Fill.{done_is_all}
use Rattle.model_server.proofs.OnceLemmas.Write.{always_good, new_ids, file_once, file_of_log}

-- what is acknowledged of entries was handled, or came without fields
one_settled : {F : Type 0} (id : Id) (o : Option F) (v : Verdict) (x : Id) → Among x (acks_one id o v)
    → Among x (ids_of (handled_one id o v)) ⊎ (◌≡◌ {A = Delivered F} (id, o) (x, None))
one_settled {F} id None v x (inl e) = inr (ap (λ (i : Id). let d : Delivered F = (i, None) in d) e)
one_settled id None v x (inr h) = absurd h
one_settled id (Some f) done x h = inl h
one_settled id (Some f) left_pending x h = absurd h
one_settled id (Some f) stop x h = absurd h

pub settled : {F : Type 0} (ds : List (Delivered F)) (vs : List Verdict) (x : Id) → Among x (acks_in ds vs)
    → Among x (ids_of (handled_in ds vs)) ⊎ Among (x, None) ds
settled [] vs x h = absurd h
settled (d ∷ ds) [] x h = absurd h
settled (d ∷ ds) (v ∷ vs) x h =
    let rest : (b : Bool) → Among x (if b then acks_in ds vs else [])
    → Among x (ids_of (if b then handled_in ds vs else [])) ⊎ Among (x, None) ds
    = λ b. elim b as (λ b. Among x (if b then acks_in ds vs else [])
    → Among x (ids_of (if b then handled_in ds vs else [])) ⊎ Among (x, None) ds)
    [ true ↦ λ a. settled ds vs x a | false ↦ λ a. absurd a ] in
    let one = handled_one d.0 d.1 v in
    let more = if follows d.1 v then handled_in ds vs else [] in
    let P : List Id → Type 0 = λ l. Among x l in
    elim (among_split x (acks_one d.0 d.1 v) (if follows d.1 v then acks_in ds vs else []) h) [
      | inl a ↦ elim (one_settled d.0 d.1 v x a) [
        | inl b ↦ inl (subst P (sym (ids_both one more)) (among_left x (ids_of one) (ids_of more) b))
        | inr q ↦ inr (inl q)
      ]
      | inr a ↦ elim (rest (follows d.1 v) a) [
        | inl b ↦ inl (subst P (sym (ids_both one more)) (among_right x (ids_of one) (ids_of more) b))
        | inr m ↦ inr (inr m)
      ]
    ]

module _ {F : Type 0} where
  -- the entry of this id is in the file, or was deleted
  abbrev pub Done : List Id → List (Entry F) → Id → Type 0
  Done deleted file id = Among id (ids_of file) ⊎ Among id deleted

  -- what comes without fields was deleted
  abbrev pub Told : List Id → Option (Answer F) → Type 0
  Told deleted None = Unit {0}
  Told deleted (Some a) = (id : Id) → Among (id, None) (entries_in a) → Among id deleted

  pub record Safe (w : group.World F) (r : Consumer F) : Type 0 where
    pub lost : (id : Id) → Among id (ids_of w.seen) → Among id (pending_ids w.pending) ⊎ Done w.deleted r.file id
    pub told : Told w.deleted r.answer
    pub to_commit : (id : Id) → Among id r.machine.to_commit → Done w.deleted r.lines id
    pub to_ack : (id : Id) → Among id r.machine.to_acknowledge → Done w.deleted r.file id
    pub sent : (a : Name × List Id) → Among a w.acks → (id : Id) → Among id a.1 → Done w.deleted r.file id

  pub done_more : (deleted more : List Id) (es fs : List (Entry F)) → ((id : Id) → Among id deleted → Among id more)
      → ((id : Id) → Among id (ids_of es) → Among id (ids_of fs)) → (id : Id) → Done deleted es id → Done more fs id
  done_more deleted more es fs d f id (inl a) = inl (f id a)
  done_more deleted more es fs d f id (inr a) = inr (d id a)

  pub told_more : (deleted more : List Id) → ((id : Id) → Among id deleted → Among id more) → (o : Option (Answer F))
      → Told deleted o → Told more o
  told_more deleted more d None h = tt
  told_more deleted more d (Some a) h = λ id m. d id (h id m)

  -- what the server does, but for acknowledgements, takes none away
  pub record Step (v w : group.World F) : Type 0 where
    pub seen : (id : Id) → Among id (ids_of v.seen)
        → Among id (ids_of w.seen) ⊎ (Among id (pending_ids v.pending) ⊎ Among id v.deleted)
    pub pending : (id : Id) → Among id (pending_ids w.pending) → Among id (pending_ids v.pending) ⊎ Among id v.deleted
    pub deleted : (id : Id) → Among id w.deleted → Among id v.deleted
    pub acks : (a : Name × List Id) → Among a v.acks → Among a w.acks

  abbrev same : (w : group.World F) → Step w w
  same w = record {
    seen = λ id h. inl h;
    pending = λ id h. inl h;
    deleted = λ id h. h;
    acks = λ a h. h;
  }

  moved : (v w : group.World F) (r : Consumer F) → Step v w → Safe w r → Safe v r
  moved v w r s i =
      let more : (es : List (Entry F)) (id : Id) → Done w.deleted es id → Done v.deleted es id
      = λ es. done_more w.deleted v.deleted es es s.deleted (λ id h. h) in
      record {
        lost = λ id h. elim (s.seen id h) [
          | inl a ↦ elim (i.lost id a) [
            | inl p ↦ elim (s.pending id p) [ inl b ↦ inl b | inr d ↦ inr (inr d) ]
            | inr d ↦ inr (more r.file id d)
          ]
          | inr a ↦ elim a [ inl p ↦ inl p | inr d ↦ inr (inr d) ]
        ];
        told = told_more w.deleted v.deleted s.deleted r.answer i.told;
        to_commit = λ id h. more r.lines id (i.to_commit id h);
        to_ack = λ id h. more r.file id (i.to_ack id h);
        sent = λ a h id m. more r.file id (i.sent a (s.acks a h) id m);
      }

  pub step_read : (w : group.World F) (me : Name) (n : ℕ) → Step (read w me n) w
  step_read w me n =
      let es : List (Entry F) = given w.deleted n w.fresh in
      let ids : pending_ids (w.pending ++ newly_pending me es) ≡ pending_ids w.pending ++ ids_of es =
      ids_append w.pending (newly_pending me es) ∙ ap (λ x. pending_ids w.pending ++ x) (new_ids me es) in
      record {
        seen = λ id h.
            let P : List Id → Type 0 = λ l. Among id l in
            elim (among_split id (ids_of w.seen) (ids_of (passed w.deleted n w.fresh))
            (subst P (ids_both w.seen (passed w.deleted n w.fresh)) h)) [
              | inl a ↦ inl a
              | inr a ↦
                  (let s = among_of_map (λ (e : Entry F). e.0) id (passed w.deleted n w.fresh) a in
                  let Q : Id → Type 0 = λ i. Among i (pending_ids (w.pending ++ newly_pending me es)) in
                  let R : Id → Type 0 = λ i. Among i w.deleted in
                  elim (passed_given w.deleted n w.fresh s.x s.within) [
                    | inl g ↦ inr (inl (subst Q s.is (let T : List Id → Type 0 = λ l. Among s.x.0 l in
                        subst T (sym ids) (among_right s.x.0 (pending_ids w.pending) (ids_of es) (id_among s.x es g)))))
                    | inr d ↦ inr (inr (subst R s.is d))
                  ])
            ];
        pending = λ id h. inl (let P : List Id → Type 0 = λ l. Among id l in
            subst P (sym ids) (among_left id (pending_ids w.pending) (ids_of es) h));
        deleted = λ id h. h;
        acks = λ a h. h;
      }

  pub step_again : (w : group.World F) (me : Name) (pick : Id → Bool) → Step (group.read_again w me pick) w
  step_again w me pick = record {
    seen = λ id h. inl h;
    pending = λ id h. inl (let P : List Id → Type 0 = λ l. Among id l in
        subst P (sym (raised_ids pick me w.deleted w.pending)) h);
    deleted = λ id h. h;
    acks = λ a h. h;
  }

  pub step_claim : (w : group.World F) (me : Name) (pick : Id → Bool) (next : Id) → Step (group.claim w me pick next) w
  step_claim w me pick next = record {
    seen = λ id h. inl h;
    pending = λ id h. claimed_keeps 1 pick me w.deleted w.pending id h;
    deleted = λ id h. h;
    acks = λ a h. h;
  }

  pub step_claim_ids : (w : group.World F) (me : Name) (pick : Id → Bool) → Step (group.happens w (Claim_ids me pick)) w
  step_claim_ids w me pick = record {
    seen = λ id h. inl h;
    pending = λ id h. claimed_keeps 0 pick me w.deleted w.pending id h;
    deleted = λ id h. h;
    acks = λ a h. h;
  }

  pub step_served : (me : Name) (n : ℕ) (pick : Id → Bool) (next : Id) (p : Phase) (w : group.World F)
      → Step (after_asking me n pick next p w) w
  step_served me n pick next (own behind) w = step_again w me pick
  step_served me n pick next (claiming from) w = step_claim w me pick next
  step_served me n pick next (reading rounds) w = step_read w me n

  pub step_deleted : (w : group.World F) (id : Id) (b : Bool) → Step (if b then record w { deleted = id ∷ w.deleted } else w) w
  step_deleted w id false = same w
  step_deleted w id true = record {
    seen = λ i h. inl h;
    pending = λ i h. inl h;
    deleted = λ i h. inr h;
    acks = λ a h. h;
  }

  pub step_comes : (w : group.World F) (k : ℕ) (o : Option (Reply F)) (vs : List Verdict) → Step (comes w k o vs) w
  step_comes w k None vs = same w
  step_comes w k (Some r) vs = record {
    seen = λ id h. inl h;
    pending = λ id h. inl h;
    deleted = λ id h. h;
    acks = λ a h. h;
  }

  appended_safe : (w : group.World F) (r : Consumer F) → Safe w r → (n : Numbers) (f : F) (b : Bool)
      → Safe (if b then record w { fresh = w.fresh ++ (id_text n, f) ∷ []; last = n } else w) r
  appended_safe w r i n f false = i
  appended_safe w r i n f true = record {
    lost = i.lost;
    told = i.told;
    to_commit = i.to_commit;
    to_ack = i.to_ack;
    sent = i.sent;
  }

  batch_safe : (b : List (Numbered F)) (w : group.World F) (r : Consumer F) → Safe w r → Safe (add_all w b) r
  batch_safe [] w r i = i
  batch_safe (x ∷ b) w r i =
      batch_safe b (appended w x.0 x.1) r (appended_safe w r i x.0 x.1 (is_below w.last x.0 && fits x.0))

  request_safe : (executes : Bool) (q : Request F) (w : group.World F) (r : Consumer F) → Safe w r
      → Safe (filled executes w q) r
  request_safe executes ask_last w r i = i
  request_safe true (batch b) w r i = batch_safe b w r i
  request_safe false (batch b) w r i = i

  filled_safe : (executes : Bool) (o : Option (Request F)) (w : group.World F) (r : Consumer F) → Safe w r
      → Safe (filled_by executes w o) r
  filled_safe executes None w r i = i
  filled_safe executes (Some q) w r i = request_safe executes q w r i

  -- an acknowledgement of what is done
  abbrev acked_safe : (w : group.World F) (r : Consumer F) → Safe w r → (a : Name × List Id)
      → ((id : Id) → Among id a.1 → Done w.deleted r.file id) → Safe (ack_comes w (Some a)) r
  acked_safe w r i a h = record {
    lost = λ id m. elim (i.lost id m) [
      | inl p ↦ elim (acknowledged_keeps a.1 w.pending id p) [ inl b ↦ inl b | inr b ↦ inr (h id b) ]
      | inr d ↦ inr d
    ];
    told = i.told;
    to_commit = i.to_commit;
    to_ack = i.to_ack;
    sent = i.sent;
  }

  late_safe : (w : group.World F) (r : Consumer F) → Safe w r → (k : ℕ) (o : Option (Name × List Id)) → item w.acks k ≡ o
      → Safe (ack_comes w o) r
  late_safe w r i k None q = i
  late_safe w r i k (Some a) q = acked_safe w r i a (i.sent a (among_item w.acks k a q))

  else_safe : (w : group.World F) (r : Consumer F) → Safe w r → (e : group.Event F) → NoOtherAck (Else e)
      → Safe (group.happens w e) r
  else_safe w r i (Append n f) h = appended_safe w r i n f (is_below w.last n && fits n)
  else_safe w r i (Delete id) h =
      moved (group.happens w (Delete id)) w r (step_deleted w id (listed (ids_of (log_of w)) id)) i
  else_safe w r i (Read c n) h = moved (group.happens w (Read c n)) w r (step_read w c n) i
  else_safe w r i (Reread c pick) h = moved (group.happens w (Reread c pick)) w r (step_again w c pick) i
  else_safe w r i (Claim c pick next) h = moved (group.happens w (Claim c pick next)) w r (step_claim w c pick next) i
  else_safe w r i (Claim_ids c pick) h = moved (group.happens w (Claim_ids c pick)) w r (step_claim_ids w c pick) i
  else_safe w r i (Comes k vs) h = moved (group.happens w (Comes k vs)) w r (step_comes w k (item w.replies k) vs) i
  else_safe w r i (Commit c) h =
      record { lost = i.lost; told = i.told; to_commit = i.to_commit; to_ack = i.to_ack; sent = i.sent }
  else_safe w r i (Acknowledge c) h = absurd h
  else_safe w r i (Ack_comes k) h = late_safe w r i k (item w.acks k) refl
  else_safe w r i (Go_back c) h =
      record { lost = i.lost; told = i.told; to_commit = i.to_commit; to_ack = i.to_ack; sent = i.sent }
  else_safe w r i (Crash c every keeps ids) h =
      record { lost = i.lost; told = i.told; to_commit = i.to_commit; to_ack = i.to_ack; sent = i.sent }

  -- an entry delivered without fields was deleted
  nil_deleted : (deleted : List Id) (es : List (Entry F)) (id : Id) → Among (id, None) (map (as_it_is deleted) es)
      → Among id deleted
  nil_deleted deleted [] id h = absurd h
  nil_deleted deleted (x ∷ es) id (inr h) = nil_deleted deleted es id h
  nil_deleted deleted (x ∷ es) id (inl q) =
      let case : (b : Bool) → listed deleted x.0 ≡ b → ◌≡◌ {A = Delivered F} (x.0, if b then None else Some x.1) (id, None)
      → Among id deleted
      = λ b. elim b as (λ b. listed deleted x.0 ≡ b
      → ◌≡◌ {A = Delivered F} (x.0, if b then None else Some x.1) (id, None) → Among id deleted) [
        | true ↦ λ l e. (let P : Id → Type 0 = λ i. Among i deleted in
            subst P (ap (λ (d : Delivered F). d.0) e) (listed_among deleted x.0 l))
        | false ↦ λ l e. absurd (let t : Some x.1 ≡ None = ap (λ (d : Delivered F). d.1) e in cc)
      ] in
      case (listed deleted x.0) refl q

  no_nil : (es : List (Entry F)) (id : Id) → Among (id, None) (map whole es) → ⊥
  no_nil [] id h = h
  no_nil (x ∷ es) id (inr h) = no_nil es id h
  no_nil (x ∷ es) id (inl q) = absurd (let t : Some x.1 ≡ None = ap (λ (d : Delivered F). d.1) q in cc)

  pub serves_told : (me : Name) (n : ℕ) (pick : Id → Bool) (next : Id) (p : Phase) (w : group.World F)
      → Told (after_asking me n pick next p w).deleted (Some (answer_for me n pick next p w))
  serves_told me n pick next (own behind) w = λ id h. nil_deleted w.deleted _ id h
  serves_told me n pick next (claiming from) w = λ id h. absurd (no_nil _ id h)
  serves_told me n pick next (reading rounds) w = λ id h. absurd (no_nil _ id h)

  ask_safe : (me : Name) (n : ℕ) (pick : Id → Bool) (next : Id) (w : World F) → Safe w.stream w.consumer → (b : Bool)
      → Safe (if b then asked me n pick next w else w).stream (if b then asked me n pick next w else w).consumer
  ask_safe me n pick next w i false = i
  ask_safe me n pick next w i true =
      let p : Phase = w.consumer.machine.phase in
      let j = moved (after_asking me n pick next p w.stream) w.stream w.consumer (step_served me n pick next p w.stream) i in
      record {
        lost = j.lost;
        told = serves_told me n pick next p w.stream;
        to_commit = j.to_commit;
        to_ack = j.to_ack;
        sent = j.sent;
      }

  ack_safe : (me : Name) (w : World F) → Safe w.stream w.consumer → (b : Bool)
      → Safe (if b then acknowledges me w else w).stream (if b then acknowledges me w else w).consumer
  ack_safe me w i false = i
  ack_safe me w i true =
      let j = acked_safe w.stream w.consumer i (me, w.consumer.machine.to_acknowledge) i.to_ack in
      record { lost = j.lost; told = λ id h. absurd h; to_commit = j.to_commit; to_ack = j.to_ack; sent = j.sent }

  pub still_in : (ids : List Id) (a : Answer F) (id : Id) → Among id (still ids a) → Among id ids
  still_in ids acknowledged id h = absurd h
  still_in ids (own_pending es) id h = h
  still_in ids (taken_over next es) id h = h
  still_in ids (news es) id h = h

  take_safe : (w : group.World F) (r : Consumer F) (vs : List Verdict) → Safe w r → (o : Option (Answer F))
      → Told w.deleted o → Safe w (takes vs o r)
  take_safe w r vs i None t = i
  take_safe w r vs i (Some a) t =
      let new : List (Entry F) = handled_in (entries_in a) vs in
      let into : (id : Id) → Among id (ids_of r.lines) ⊎ Among id (ids_of new) → Among id (ids_of (r.lines ++ new))
      = λ id h. (let P : List Id → Type 0 = λ l. Among id l in
      subst P (sym (ids_both r.lines new)) (elim h [
        | inl b ↦ among_left id (ids_of r.lines) (ids_of new) b
        | inr b ↦ among_right id (ids_of r.lines) (ids_of new) b
      ])) in
      record {
        lost = i.lost;
        told = tt;
        to_commit = λ id h. elim (among_split id r.machine.to_commit (acks_in (entries_in a) vs) h) [
          | inl b ↦ elim (i.to_commit id b) [ inl c ↦ inl (into id (inl c)) | inr d ↦ inr d ]
          | inr b ↦ elim (settled (entries_in a) vs id b) [ inl c ↦ inl (into id (inr c)) | inr d ↦ inr (t id d) ]
        ];
        to_ack = λ id h. i.to_ack id (still_in r.machine.to_acknowledge a id h);
        sent = i.sent;
      }

  pub into_file : (file more : List (Entry F)) (id : Id) → Among id (ids_of file) → Among id (ids_of (file ++ more))
  into_file file more id h =
      let P : List Id → Type 0 = λ l. Among id l in
      subst P (sym (ids_both file more)) (among_left id (ids_of file) (ids_of more) h)

  pub onto_file : (file more : List (Entry F)) (id : Id) → Among id (ids_of more) → Among id (ids_of (file ++ more))
  onto_file file more id h =
      let P : List Id → Type 0 = λ l. Among id l in
      subst P (sym (ids_both file more)) (among_right id (ids_of file) (ids_of more) h)

  sync_safe : (w : group.World F) (r : Consumer F) → Safe w r → (b : Bool) → Safe w (if b then syncs r else r)
  sync_safe w r i false = i
  sync_safe w r i true =
      let more : (id : Id) → Done w.deleted r.file id → Done w.deleted (r.file ++ r.lines) id
      = done_more w.deleted w.deleted r.file (r.file ++ r.lines) (λ id h. h) (into_file r.file r.lines) in
      record {
        lost = λ id h. elim (i.lost id h) [ inl p ↦ inl p | inr d ↦ inr (more id d) ];
        told = i.told;
        to_commit = λ id h. absurd h;
        to_ack = λ id h. elim (among_split id r.machine.to_acknowledge r.machine.to_commit h) [
          | inl b ↦ more id (i.to_ack id b)
          | inr b ↦ elim (i.to_commit id b) [ inl c ↦ inl (onto_file r.file r.lines id c) | inr d ↦ inr d ]
        ];
        sent = λ a h id m. more id (i.sent a h id m);
      }

  pub dropped_in : (k : ℕ) (es : List (Entry F)) (id : Id) → Among id (ids_of (drop k es)) → Among id (ids_of es)
  dropped_in zero es id h = h
  dropped_in (suc k) [] id h = h
  dropped_in (suc k) (x ∷ es) id h = inr (dropped_in k es id h)

  restart_safe : (w : group.World F) (r : Consumer F) (every kept more : ℕ) → Safe w r → Safe w (restarts every kept more r)
  restart_safe w r every kept more i =
      let some : List (Entry F) = take kept r.lines in
      let further : (id : Id) → Done w.deleted r.file id → Done w.deleted (r.file ++ some) id
      = done_more w.deleted w.deleted r.file (r.file ++ some) (λ id h. h) (into_file r.file some) in
      record {
        lost = λ id h. elim (i.lost id h) [ inl p ↦ inl p | inr d ↦ inr (further id d) ];
        told = tt;
        to_commit = λ id h. absurd h;
        to_ack = λ id h. inl (dropped_in (length (r.file ++ some) - (last_added r.last_commit some + more)) (r.file ++ some) id h);
        sent = λ a h id m. further id (i.sent a h id m);
      }

  each_safe : (s : Setting F) (w : World F) → Safe w.stream w.consumer → (e : Event F) → NoOtherAck e
      → Safe (happens s w e).stream (happens s w e).consumer
  each_safe s w i (Send n) h = i
  each_safe s w i (Arrive b) h = filled_safe b w.producer.sent w.stream w.consumer i
  each_safe s w i (Arrive_late k b) h = filled_safe b (item w.producer.late k) w.stream w.consumer i
  each_safe s w i Hear h = i
  each_safe s w i Break h = i
  each_safe s w i (Ask n pick next) h = ask_safe s.name n pick next w i (is_idle w.consumer)
  each_safe s w i (Take vs) h = take_safe w.stream w.consumer vs i w.consumer.answer i.told
  each_safe s w i Sync h =
      sync_safe w.stream w.consumer i (is_none w.consumer.answer && is_empty w.consumer.machine.to_acknowledge)
  each_safe s w i Acknowledge_now h = ack_safe s.name w i (is_none w.consumer.answer)
  each_safe s w i Acknowledge_later h = record {
    lost = i.lost;
    told = i.told;
    to_commit = i.to_commit;
    to_ack = i.to_ack;
    sent = λ a h id m. elim h [
      | inl e ↦ i.to_ack id (let P : Name × List Id → Type 0 = λ x. Among id x.1 in subst P (sym e) m)
      | inr b ↦ i.sent a b id m
    ];
  }
  each_safe s w i Reconnect h =
      record { lost = i.lost; told = tt; to_commit = i.to_commit; to_ack = i.to_ack; sent = i.sent }
  each_safe s w i (Restart every kept more) h = restart_safe w.stream w.consumer every kept more i
  each_safe s w i (Else e) h = else_safe w.stream w.consumer i e h

  safe_over : (s : Setting F) (es : List (Event F)) (w : World F) → Safe w.stream w.consumer → NoOtherAcks es
      → Safe (run s es w).stream (run s es w).consumer
  safe_over s [] w i h = i
  safe_over s (e ∷ es) w i h = safe_over s es (happens s w e) (each_safe s w i e h.0) h.1

  -- two entries of one id are the same, if no id is twice
  pub same_entry : (es : List (Entry F)) → Once (ids_of es) → (d e : Entry F) → Among d es → Among e es → d.0 ≡ e.0 → d ≡ e
  same_entry [] o d e h k q = absurd h
  same_entry (x ∷ es) o d e (inl p) (inl t) q = sym p ∙ t
  same_entry (x ∷ es) o d e (inl p) (inr k) q =
      let P : Id → Type 0 = λ i. Among i (ids_of es) in
      absurd (o.0 (subst P (sym (ap (λ (y : Entry F). y.0) p ∙ q)) (id_among e es k)))
  same_entry (x ∷ es) o d e (inr h) (inl t) q =
      let P : Id → Type 0 = λ i. Among i (ids_of es) in
      absurd (o.0 (subst P (q ∙ sym (ap (λ (y : Entry F). y.0) t)) (id_among d es h)))
  same_entry (x ∷ es) o d e (inr h) (inr k) q = same_entry es o.1 d e h k q

pub each_is_kept : {F : Type 0} → EachIsKept F
each_is_kept {F} s es alone e h =
    let w : World F = after s es in
    let start : Safe {F = F} first_world.stream first_world.consumer = record {
      lost = λ id h. absurd h;
      told = tt;
      to_commit = λ id h. absurd h;
      to_ack = λ id h. absurd h;
      sent = λ a h id m. absurd h;
    } in
    let i = safe_over s es first_world start alone in
    elim (among_split e w.stream.seen w.stream.fresh h) [
      | inr b ↦ inl b
      | inl b ↦ elim (i.lost e.0 (id_among e w.stream.seen b)) [
        | inl p ↦ inr (inl p)
        | inr d ↦ elim d [
          | inl f ↦
              (let t = among_of_map (λ (x : Entry F). x.0) e.0 w.consumer.file f in
              let P : Entry F → Type 0 = λ x. Among x w.consumer.file in
              inr (inr (inl (subst P (same_entry (log w) (always_good s es).0.once t.x e
              (file_of_log s es t.x t.within) h t.is) t.within))))
          | inr g ↦ inr (inr (inr g))
        ]
      ]
    ]

pub each_comes_out_once : {F : Type 0} → EachComesOutOnce F
each_comes_out_once {F} s fit es none_else alone all_in drained none =
    let w : World F = after s es in
    let all : log w ≡ entries s.base s.records = done_is_all s fit es none_else all_in in
    let P : List (Entry F) → Entry F → Type 0 = λ l e. Among e l in (
      λ e h. elim (each_is_kept s es alone e (subst (λ l. P l e) (sym all) h)) [
        | inl a ↦ absurd (subst (λ l. P l e) drained.1 a)
        | inr b ↦ elim b [
          | inl a ↦ absurd (let Q : List Pending → Type 0 = λ l. Among e.0 (pending_ids l) in subst Q drained.0 a)
          | inr c ↦ elim c [
            | inl a ↦ a
            | inr a ↦ absurd (let Q : List Id → Type 0 = λ l. Among e.0 l in subst Q none a)
          ]
        ]
      ],
      (λ e h. subst (λ l. P l e) all (file_of_log s es e h), file_once s es),
    )
