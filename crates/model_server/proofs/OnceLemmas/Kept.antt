-- Of several consumers one has each record that was added in its file, or it is undelivered, or pending, or deleted.
use Rattle.std.proofs.Common.{◌≡◌, ◌⊎◌, inl, inr, refl, sym, subst, ◌∙◌, ℕ, ◌+◌, ◌-◌, Bool, true, false, ◌&&◌, List, []}
use Rattle.std.proofs.Common.{◌∷◌, ◌++◌, map, length, take, Option, Some, None, if◌then◌else◌}
use Rattle.std.specs.Option.{is_none}
use Rattle.std.specs.Str.{bytes_eq}
use Rattle.std.proofs.lemmas.Slice.Eq.{bytes_eq-Decides}
use Rattle.model_server.specs.Group.Worker.{Id, Entry, Verdict, Answer, entries_in, handled_in, acks_in}
use Rattle.model_server.specs.Group.Group.{Name, Pending, Numbers, is_below, fits, id_text, listed, ids_of, pending_ids}
use Rattle.model_server.specs.Group.Group.{pending_after}
use Rattle.model_server.specs.Group.World.{log_of, item, appended, ack_comes, with_one, Append, Delete, Read, Reread, Claim}
use Rattle.model_server.specs.Group.World.{Claim_ids, Comes, Commit, Acknowledge, Ack_comes, Go_back, Crash}
use Rattle.model_server.specs.Group.World as group
use Rattle.model_server.specs.Group.Law.{Among}
use Rattle.model_server.proofs.GroupLemmas.Among.{among_left, among_right, among_split, among_of_map, among_item}
use Rattle.model_server.proofs.GroupLemmas.Steps.{acknowledged_keeps}
use Rattle.model_server.specs.Once.Feed.{Numbered, entries, Request, ask_last, batch}
use Rattle.model_server.specs.Once.Producer.{add_all, filled_by}
use Rattle.model_server.specs.Once.Consumer.{Consumer, is_empty, is_idle, after_asking, takes, syncs, last_added}
use Rattle.model_server.specs.Once.Consumer.{restarts, reconnects}
use Rattle.model_server.specs.Once.World.{Setting, Event, Send, Arrive, Arrive_late, Hear, Break, Ask, Take, Sync}
use Rattle.model_server.specs.Once.World.{Acknowledge_now, Acknowledge_later, Reconnect, Restart, Else, asked, acknowledges}
use Rattle.model_server.specs.Once.Law.{NoOtherAck, NoOtherAcks}
use Rattle.model_server.specs.Once.Many.{Many, first_many, world_of, happens_to, run_many, EachIsKeptByOne}
use Rattle.model_server.specs.Once.Many.{setting_of, EachComesOutInOneFile}
use Rattle.model_server.proofs.OnceLemmas.Fill.{done_in}
use Rattle.model_server.proofs.OnceLemmas.Apart.{ids_both, id_among}
use Rattle.model_server.proofs.OnceLemmas.Lasts.{Done, Told, Step, done_more, told_more, settled, step_read, step_again, step_claim}
use Rattle.model_server.proofs.OnceLemmas.Lasts.{step_claim_ids, step_served, step_deleted, step_comes, serves_told, still_in}
use Rattle.model_server.proofs.OnceLemmas.Lasts.{into_file, onto_file, dropped_in, same_entry}
use Rattle.model_server.proofs.OnceLemmas.Many.{always, always_filled, distinct, each_file_of_log, none_in_two_files}

module _ {F : Type 0} where
  -- the id is in one of the files
  abbrev InSome : (Name → Consumer F) → Id → Type 0
  InSome cs id = (name : Name) × Among id (ids_of (cs name).file)

  abbrev DoneBy : List Id → (Name → Consumer F) → Id → Type 0
  DoneBy deleted cs id = InSome cs id ⊎ Among id deleted

  -- what one of the consumers may be sure of
  record Each (deleted : List Id) (cs : Name → Consumer F) (c : Consumer F) : Type 0 where
    told : Told deleted c.answer
    to_commit : (id : Id) → Among id c.machine.to_commit → Done deleted c.lines id
    to_ack : (id : Id) → Among id c.machine.to_acknowledge → DoneBy deleted cs id

  record All (seen : List (Entry F)) (ps : List Pending) (deleted : List Id) (acks : List (Name × List Id))
      (cs : Name → Consumer F) : Type 0 where
    lost : (id : Id) → Among id (ids_of seen) → Among id (pending_ids ps) ⊎ DoneBy deleted cs id
    sent : (a : Name × List Id) → Among a acks → (id : Id) → Among id a.1 → DoneBy deleted cs id
    each : (name : Name) → Each deleted cs (cs name)

  abbrev AllIn : group.World F → (Name → Consumer F) → Type 0
  AllIn w cs = All w.seen w.pending w.deleted w.acks cs

  by_more : (deleted more : List Id) (cs ds : Name → Consumer F) → ((id : Id) → Among id deleted → Among id more)
      → ((id : Id) → InSome cs id → InSome ds id) → (id : Id) → DoneBy deleted cs id → DoneBy more ds id
  by_more deleted more cs ds d f id (inl a) = inl (f id a)
  by_more deleted more cs ds d f id (inr a) = inr (d id a)

  moved_all : (v w : group.World F) (cs : Name → Consumer F) → Step v w → AllIn w cs → AllIn v cs
  moved_all v w cs s i =
      let more : (id : Id) → DoneBy w.deleted cs id → DoneBy v.deleted cs id
      = by_more w.deleted v.deleted cs cs s.deleted (λ id h. h) in
      record {
        lost = λ id h. elim (s.seen id h) [
          | inl a ↦ elim (i.lost id a) [
            | inl p ↦ elim (s.pending id p) [ inl b ↦ inl b | inr d ↦ inr (inr d) ]
            | inr d ↦ inr (more id d)
          ]
          | inr a ↦ elim a [ inl p ↦ inl p | inr d ↦ inr (inr d) ]
        ];
        sent = λ a h id m. more id (i.sent a (s.acks a h) id m);
        each = λ name. record {
          told = told_more w.deleted v.deleted s.deleted (cs name).answer (i.each name).told;
          to_commit = λ id h. done_more w.deleted v.deleted (cs name).lines (cs name).lines s.deleted (λ id h. h) id
              ((i.each name).to_commit id h);
          to_ack = λ id h. more id ((i.each name).to_ack id h);
        };
      }

  acked_all : (w : group.World F) (cs : Name → Consumer F) (a : Name × List Id)
      → ((id : Id) → Among id a.1 → DoneBy w.deleted cs id) → AllIn w cs
      → All w.seen (pending_after a.1 w.pending) w.deleted w.acks cs
  acked_all w cs a h i = record {
    lost = λ id m. elim (i.lost id m) [
      | inl p ↦ elim (acknowledged_keeps a.1 w.pending id p) [ inl b ↦ inl b | inr b ↦ inr (h id b) ]
      | inr d ↦ inr d
    ];
    sent = i.sent;
    each = i.each;
  }

  -- what a consumer with this name then has in its file
  own_file : (cs : Name → Consumer F) (c : Name) (k : Consumer F) (id : Id) → Among id (ids_of k.file)
      → InSome (with_one cs c k) id
  own_file cs c k id h =
      let case : (b : Bool) → bytes_eq c c ≡ b → Among id (ids_of (if b then k else cs c).file)
      = λ b. elim b as (λ b. bytes_eq c c ≡ b → Among id (ids_of (if b then k else cs c).file)) [
        | true ↦ λ q. h
        | false ↦ λ q. absurd (let t : bytes_eq c c ≡ true = (bytes_eq-Decides c c).1 refl in
            let u : false ≡ true = sym q ∙ t in cc)
      ] in
      (c, case (bytes_eq c c) refl)

  grown : (cs : Name → Consumer F) (c : Name) (k : Consumer F)
      → ((id : Id) → Among id (ids_of (cs c).file) → Among id (ids_of k.file)) → (id : Id) → InSome cs id
      → InSome (with_one cs c k) id
  grown cs c k f id h =
      let name : Name = h.0 in
      let case : (b : Bool) → bytes_eq c name ≡ b → Among id (ids_of (if b then k else cs name).file)
      = λ b. elim b as (λ b. bytes_eq c name ≡ b → Among id (ids_of (if b then k else cs name).file)) [
        | true ↦ λ q. (let P : Name → Type 0 = λ n. Among id (ids_of (cs n).file) in
            f id (subst P (sym ((bytes_eq-Decides c name).0 q)) h.1))
        | false ↦ λ q. h.1
      ] in
      (name, case (bytes_eq c name) refl)

  -- one of the consumers changes, and its file only grows
  put : (seen : List (Entry F)) (ps : List Pending) (deleted : List Id) (acks : List (Name × List Id))
      (cs : Name → Consumer F) (c : Name) (k : Consumer F)
      → ((id : Id) → Among id (ids_of (cs c).file) → Among id (ids_of k.file)) → Told deleted k.answer
      → ((id : Id) → Among id k.machine.to_commit → Done deleted k.lines id)
      → ((id : Id) → Among id k.machine.to_acknowledge → DoneBy deleted cs id ⊎ Among id (ids_of k.file))
      → All seen ps deleted acks cs → All seen ps deleted acks (with_one cs c k)
  put seen ps deleted acks cs c k f told commit ack i =
      let more : (id : Id) → DoneBy deleted cs id → DoneBy deleted (with_one cs c k) id
      = by_more deleted deleted cs (with_one cs c k) (λ id h. h) (grown cs c k f) in
      let one : Each deleted (with_one cs c k) k = record {
        told = told;
        to_commit = commit;
        to_ack = λ id h. elim (ack id h) [ inl d ↦ more id d | inr d ↦ inl (own_file cs c k id d) ];
      } in
      let others : (name : Name) → Each deleted (with_one cs c k) (cs name) = λ name. record {
        told = (i.each name).told;
        to_commit = (i.each name).to_commit;
        to_ack = λ id h. more id ((i.each name).to_ack id h);
      } in
      record {
        lost = λ id h. elim (i.lost id h) [ inl p ↦ inl p | inr d ↦ inr (more id d) ];
        sent = λ a h id m. more id (i.sent a h id m);
        each = λ name.
            let case : (b : Bool) → Each deleted (with_one cs c k) (if b then k else cs name)
            = λ b. elim b as (λ b. Each deleted (with_one cs c k) (if b then k else cs name))
            [ true ↦ one | false ↦ others name ] in
            case (bytes_eq c name);
      }

  as_it_was : (w : group.World F) (cs : Name → Consumer F) (c : Name) → AllIn w cs → AllIn w (with_one cs c (cs c))
  as_it_was w cs c i =
      put w.seen w.pending w.deleted w.acks cs c (cs c) (λ id h. h) (i.each c).told (i.each c).to_commit
      (λ id h. inl ((i.each c).to_ack id h)) i

  ask_all : (m : Many F) (c : Name) (n : ℕ) (pick : Id → Bool) (next : Id) (b : Bool) → AllIn m.stream m.consumers
      → AllIn (if b then asked c n pick next (world_of m c) else world_of m c).stream
      (with_one m.consumers c (if b then asked c n pick next (world_of m c) else world_of m c).consumer)
  ask_all m c n pick next false i = as_it_was m.stream m.consumers c i
  ask_all m c n pick next true i =
      let w : group.World F = m.stream in
      let p = (m.consumers c).machine.phase in
      let v : group.World F = after_asking c n pick next p w in
      let j = moved_all v w m.consumers (step_served c n pick next p w) i in
      put v.seen v.pending v.deleted v.acks m.consumers c (asked c n pick next (world_of m c)).consumer (λ id h. h)
      (serves_told c n pick next p w) (j.each c).to_commit (λ id h. inl ((j.each c).to_ack id h)) j

  take_all : (w : group.World F) (cs : Name → Consumer F) (c : Name) (vs : List Verdict) (o : Option (Answer F))
      → Told w.deleted o → AllIn w cs → AllIn w (with_one cs c (takes vs o (cs c)))
  take_all w cs c vs None t i = as_it_was w cs c i
  take_all w cs c vs (Some a) t i =
      let r : Consumer F = cs c in
      let new : List (Entry F) = handled_in (entries_in a) vs in
      let into : (id : Id) → Among id (ids_of r.lines) ⊎ Among id (ids_of new) → Among id (ids_of (r.lines ++ new))
      = λ id h. (let P : List Id → Type 0 = λ l. Among id l in
      subst P (sym (ids_both r.lines new)) (elim h [
        | inl b ↦ among_left id (ids_of r.lines) (ids_of new) b
        | inr b ↦ among_right id (ids_of r.lines) (ids_of new) b
      ])) in
      put w.seen w.pending w.deleted w.acks cs c (takes vs (Some a) r) (λ id h. h) tt
      (λ id h. elim (among_split id r.machine.to_commit (acks_in (entries_in a) vs) h) [
        | inl b ↦ elim ((i.each c).to_commit id b) [ inl x ↦ inl (into id (inl x)) | inr d ↦ inr d ]
        | inr b ↦ elim (settled (entries_in a) vs id b) [ inl x ↦ inl (into id (inr x)) | inr d ↦ inr (t id d) ]
      ])
      (λ id h. inl ((i.each c).to_ack id (still_in r.machine.to_acknowledge a id h)))
      i

  sync_all : (w : group.World F) (cs : Name → Consumer F) (c : Name) (b : Bool) → AllIn w cs
      → AllIn w (with_one cs c (if b then syncs (cs c) else cs c))
  sync_all w cs c false i = as_it_was w cs c i
  sync_all w cs c true i =
      let r : Consumer F = cs c in
      put w.seen w.pending w.deleted w.acks cs c (syncs r) (into_file r.file r.lines) (i.each c).told
      (λ id h. absurd h)
      (λ id h. elim (among_split id r.machine.to_acknowledge r.machine.to_commit h) [
        | inl b ↦ inl ((i.each c).to_ack id b)
        | inr b ↦ elim ((i.each c).to_commit id b) [ inl x ↦ inr (onto_file r.file r.lines id x) | inr d ↦ inl (inr d) ]
      ])
      i

  restart_all : (w : group.World F) (cs : Name → Consumer F) (c : Name) (every kept more : ℕ) → AllIn w cs
      → AllIn w (with_one cs c (restarts every kept more (cs c)))
  restart_all w cs c every kept more i =
      let r : Consumer F = cs c in
      let some : List (Entry F) = take kept r.lines in
      put w.seen w.pending w.deleted w.acks cs c (restarts every kept more r) (into_file r.file some) tt (λ id h. absurd h)
      (λ id h. inr (dropped_in (length (r.file ++ some) - (last_added r.last_commit some + more)) (r.file ++ some) id h))
      i

  now_all : (m : Many F) (c : Name) (b : Bool) → AllIn m.stream m.consumers
      → AllIn (if b then acknowledges c (world_of m c) else world_of m c).stream
      (with_one m.consumers c (if b then acknowledges c (world_of m c) else world_of m c).consumer)
  now_all m c false i = as_it_was m.stream m.consumers c i
  now_all m c true i =
      let w : group.World F = m.stream in
      let ids : List Id = (m.consumers c).machine.to_acknowledge in
      let j = acked_all w m.consumers (c, ids) (i.each c).to_ack i in
      put w.seen (pending_after ids w.pending) w.deleted w.acks m.consumers c (acknowledges c (world_of m c)).consumer
      (λ id h. h) (λ id h. absurd h) (j.each c).to_commit (λ id h. inl ((j.each c).to_ack id h)) j

  appended_all : (w : group.World F) (cs : Name → Consumer F) (n : Numbers) (f : F) (b : Bool) → AllIn w cs
      → AllIn (if b then record w { fresh = w.fresh ++ (id_text n, f) ∷ []; last = n } else w) cs
  appended_all w cs n f true i = i
  appended_all w cs n f false i = i

  batch_all : (b : List (Numbered F)) (w : group.World F) (cs : Name → Consumer F) → AllIn w cs
      → AllIn (add_all w b) cs
  batch_all [] w cs i = i
  batch_all (r ∷ rs) w cs i =
      batch_all rs (appended w r.0 r.1) cs (appended_all w cs r.0 r.1 (is_below w.last r.0 && fits r.0) i)

  filled_all : (executes : Bool) (w : group.World F) (o : Option (Request F)) (cs : Name → Consumer F) → AllIn w cs
      → AllIn (filled_by executes w o) cs
  filled_all executes w None cs i = i
  filled_all executes w (Some ask_last) cs i = i
  filled_all true w (Some (batch b)) cs i = batch_all b w cs i
  filled_all false w (Some (batch b)) cs i = i

  late_all : (w : group.World F) (cs : Name → Consumer F) (k : ℕ) (o : Option (Name × List Id)) → item w.acks k ≡ o
      → AllIn w cs → AllIn (ack_comes w o) cs
  late_all w cs k None q i = i
  late_all w cs k (Some a) q i = acked_all w cs a (i.sent a (among_item w.acks k a q)) i

  else_all : (w : group.World F) (cs : Name → Consumer F) (e : group.Event F) → NoOtherAck (Else e) → AllIn w cs
      → AllIn (group.happens w e) cs
  else_all w cs (Append n f) h i = appended_all w cs n f (is_below w.last n && fits n) i
  else_all w cs (Delete id) h i =
      moved_all (group.happens w (Delete id)) w cs (step_deleted w id (listed (ids_of (log_of w)) id)) i
  else_all w cs (Read c n) h i = moved_all (group.happens w (Read c n)) w cs (step_read w c n) i
  else_all w cs (Reread c pick) h i = moved_all (group.happens w (Reread c pick)) w cs (step_again w c pick) i
  else_all w cs (Claim c pick next) h i =
      moved_all (group.happens w (Claim c pick next)) w cs (step_claim w c pick next) i
  else_all w cs (Claim_ids c pick) h i =
      moved_all (group.happens w (Claim_ids c pick)) w cs (step_claim_ids w c pick) i
  else_all w cs (Comes k vs) h i =
      moved_all (group.happens w (Comes k vs)) w cs (step_comes w k (item w.replies k) vs) i
  else_all w cs (Commit c) h i = i
  else_all w cs (Acknowledge c) h i = absurd h
  else_all w cs (Ack_comes k) h i = late_all w cs k (item w.acks k) refl i
  else_all w cs (Go_back c) h i = i
  else_all w cs (Crash c every keeps ids) h i = i

  abbrev AllOf : Many F → Type 0
  AllOf m = AllIn m.stream m.consumers

  all_after : (s : Setting F) (m : Many F) (c : Name) (e : Event F) → NoOtherAck e → AllOf m → AllOf (happens_to s m c e)
  all_after s m c (Send n) h i = as_it_was m.stream m.consumers c i
  all_after s m c (Arrive b) h i =
      as_it_was (filled_by b m.stream m.producer.sent) m.consumers c (filled_all b m.stream m.producer.sent m.consumers i)
  all_after s m c (Arrive_late k b) h i =
      as_it_was (filled_by b m.stream (item m.producer.late k)) m.consumers c
      (filled_all b m.stream (item m.producer.late k) m.consumers i)
  all_after s m c Hear h i = as_it_was m.stream m.consumers c i
  all_after s m c Break h i = as_it_was m.stream m.consumers c i
  all_after s m c (Ask n pick next) h i = ask_all m c n pick next (is_idle (m.consumers c)) i
  all_after s m c (Take vs) h i = take_all m.stream m.consumers c vs (m.consumers c).answer (i.each c).told i
  all_after s m c Sync h i =
      sync_all m.stream m.consumers c
      (is_none (m.consumers c).answer && is_empty (m.consumers c).machine.to_acknowledge) i
  all_after s m c Acknowledge_now h i = now_all m c (is_none (m.consumers c).answer) i
  all_after s m c Acknowledge_later h i =
      let w : group.World F = m.stream in
      let v : group.World F = record w { acks = (c, (m.consumers c).machine.to_acknowledge) ∷ w.acks } in
      as_it_was v m.consumers c (record {
        lost = i.lost;
        sent = λ a k id n. elim k [
          | inl e ↦ (i.each c).to_ack id (let P : Name × List Id → Type 0 = λ x. Among id x.1 in subst P (sym e) n)
          | inr b ↦ i.sent a b id n
        ];
        each = i.each;
      })
  all_after s m c Reconnect h i =
      put m.stream.seen m.stream.pending m.stream.deleted m.stream.acks m.consumers c (reconnects (m.consumers c))
      (λ id k. k) tt (i.each c).to_commit (λ id k. inl ((i.each c).to_ack id k)) i
  all_after s m c (Restart every kept more) h i = restart_all m.stream m.consumers c every kept more i
  all_after s m c (Else e) h i = as_it_was (group.happens m.stream e) m.consumers c (else_all m.stream m.consumers e h i)

  all_over : (s : Setting F) (es : List (Name × Event F)) (m : Many F) → NoOtherAcks (map (λ e. e.1) es) → AllOf m
      → AllOf (run_many s es m)
  all_over s [] m h i = i
  all_over s (e ∷ es) m h i = all_over s es (happens_to s m e.0 e.1) h.1 (all_after s m e.0 e.1 h.0 i)

  all_first : AllOf first_many
  all_first = record {
    lost = λ id h. absurd h;
    sent = λ a h id m. absurd h;
    each = λ name. record { told = tt; to_commit = λ id h. absurd h; to_ack = λ id h. absurd h };
  }

pub each_is_kept_by_one : {F : Type 0} → EachIsKeptByOne F
each_is_kept_by_one {F} s es alone e h =
    let m : Many F = run_many s es first_many in
    let w : group.World F = m.stream in
    let i : AllOf m = all_over s es first_many alone all_first in
    elim (among_split e w.seen w.fresh h) [
      | inr b ↦ inl b
      | inl b ↦ elim (i.lost e.0 (id_among e w.seen b)) [
        | inl p ↦ inr (inl p)
        | inr d ↦ elim d [
          | inl f ↦
              (let t = among_of_map (λ (x : Entry F). x.0) e.0 (m.consumers f.0).file f.1 in
              let P : Entry F → Type 0 = λ x. Among x (m.consumers f.0).file in
              inr (inr (inl (
                f.0,
                subst P (same_entry (log_of w) (distinct s m f.0 (always s es)) t.x e
                    (each_file_of_log s es f.0 t.x t.within) h t.is) t.within,
              ))))
          | inr g ↦ inr (inr (inr g))
        ]
      ]
    ]

pub each_comes_out_in_one_file : {F : Type 0} → EachComesOutInOneFile F
each_comes_out_in_one_file {F} s fit es none_else alone fair all_in drained none e h =
    let m : Many F = run_many s es first_many in
    let all : log_of m.stream ≡ entries s.base s.records =
    done_in (setting_of s s.name) fit (world_of m s.name) (always_filled s fit es none_else s.name) all_in in
    let P : List (Entry F) → Type 0 = λ l. Among e l in
    let Q : List Id → Type 0 = λ l. Among e.0 l in
    elim (each_is_kept_by_one s es alone e (subst P (sym all) h)) [
      | inl a ↦ absurd (subst P drained.1 a)
      | inr b ↦ elim b [
        | inl a ↦ absurd (let R : List Pending → Type 0 = λ l. Among e.0 (pending_ids l) in subst R drained.0 a)
        | inr c ↦ elim c [
          | inl f ↦ (
            f.0,
            (
              f.1,
              λ other k. none_in_two_files s es fair e.0 f.0 other (id_among e (m.consumers f.0).file f.1) k,
            ),
          )
          | inr a ↦ absurd (subst Q none a)
        ]
      ]
    ]
