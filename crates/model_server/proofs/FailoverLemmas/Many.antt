-- Of several consumers no two files have the same.
use Rattle.std.proofs.Common.{◌≡◌, inl, inr, refl, sym, ap, subst, ◌∙◌, ℕ, Bool, true, false, ◌&&◌, List, [], ◌∷◌, ◌++◌}
use Rattle.std.proofs.Common.{map, take, drop, append_assoc, Option, Some, None, if◌then◌else◌}
use Rattle.std.specs.Option.{is_none}
use Rattle.std.specs.Str.{bytes_eq}
use Rattle.std.proofs.lemmas.Slice.Eq.{bytes_eq-Decides}
use Rattle.std.proofs.lemmas.List.{take-append-drop}
use Rattle.model_server.specs.Group.Worker.{Id, Entry, Verdict, Answer, entries_in, handled_in}
use Rattle.model_server.specs.Group.Group.{Name, Pending, ids_of}
use Rattle.model_server.specs.Group.World.{item, with_one, empty_world}
use Rattle.model_server.specs.Group.World as group
use Rattle.model_server.specs.Group.Law.{Among}
use Rattle.model_server.proofs.GroupLemmas.Among.{among_left, among_split, among_item, among_of_map}
use Rattle.model_server.specs.Once.Consumer.{Consumer, is_empty, is_idle, syncs, restarts, reconnects}
use Rattle.model_server.specs.Once.World.{Setting, Send, Arrive, Arrive_late, Hear, Break, Ask, Take, Sync}
use Rattle.model_server.specs.Once.World.{Acknowledge_now, Acknowledge_later, Reconnect, Restart, Else, asked, acknowledges}
use Rattle.model_server.specs.Once.World as world
use Rattle.model_server.specs.Once.Many.{setting_of, on_the_way, Has}
use Rattle.model_server.specs.Once.Many as once
use Rattle.model_server.proofs.OnceLemmas.Apart.{ids_both, id_among, handled_out}
use Rattle.model_server.proofs.OnceLemmas.Fill.{append_nil}
use Rattle.model_server.proofs.OnceLemmas.Held.{Held, holds}
use Rattle.model_server.specs.Failover.Lookup.{unwritten, lines_of, looks_up}
use Rattle.model_server.specs.Failover.World.{World, Event, Plain, Arrive_waits, Ask_waits, Failover, fails_over}
use Rattle.model_server.specs.Failover.World.{remembers, is_confirmed, plainly, happens}
use Rattle.model_server.specs.Failover.Law.{Waits, AllWait}
use Rattle.model_server.specs.Failover.Many.{Many, first_many, world_of, with_world, happens_to, run_many, IsFair, AllFair}
use Rattle.model_server.specs.Failover.Many.{EachFileOnce, NoneInTwoFiles}
use Rattle.model_server.proofs.FailoverLemmas.Distinct.{Distinct, distinct_after, first_distinct, once_in_log}
use Rattle.model_server.proofs.FailoverLemmas.Looked.{Single, in_file, step, unwritten_within}

module _ {F : Type 0} where
  -- a consumer has no more than another
  abbrev NoMore : Consumer F → Consumer F → Type 0
  NoMore k c = (id : Id) → Has k id → Has c id

  lines_less : (xs ys : List (Entry F)) (id : Id) → ((e : Entry F) → Among e xs → Among e ys) → Among id (ids_of xs)
      → Among id (ids_of ys)
  lines_less xs ys id f h =
      let t = among_of_map (λ (e : Entry F). e.0) id xs h in
      let P : Id → Type 0 = λ i. Among i (ids_of ys) in
      subst P t.is (id_among t.x ys (f t.x t.within))

  taken : (c : Consumer F) (vs : List Verdict) (o : Option (Answer F)) → c.answer ≡ o → NoMore (looks_up vs o c) c
  taken c vs None q = λ id h. h
  taken c vs (Some a) q = λ id h.
      let all : List (Entry F) = handled_in (entries_in a) vs in
      let new : List (Entry F) = unwritten (ids_of (lines_of c)) all in
      let P : List Id → Type 0 = λ l. Among id l in
      let Q : Option (Answer F) → Type 0 = λ o. Among id (on_the_way o) in
      elim h [
        | inl z ↦ absurd z
        | inr z ↦ elim (among_split id (ids_of (lines_of c)) (ids_of new)
            (subst P (ap ids_of (sym (append_assoc c.file c.lines new)) ∙ ids_both (lines_of c) new) z)) [
              | inl x ↦ inr x
              | inr x ↦ inl (subst Q (sym q) (handled_out (entries_in a) vs id
                  (lines_less new all id (λ e m. unwritten_within (ids_of (lines_of c)) all e m) x)))
            ]
      ]

  synced : (c : Consumer F) (b : Bool) → NoMore (if b then syncs c else c) c
  synced c false = λ id h. h
  synced c true = λ id h.
      let P : List (Entry F) → Type 0 = λ l. Among id (ids_of l) in
      elim h [ inl z ↦ inl z | inr z ↦ inr (subst P (append_nil (c.file ++ c.lines)) z) ]

  restarted : (c : Consumer F) (every kept n : ℕ) → NoMore (restarts every kept n c) c
  restarted c every kept n = λ id h.
      let some : List (Entry F) = take kept c.lines in
      let cut : List (Entry F) = drop kept c.lines in
      let P : List (Entry F) → Type 0 = λ l. Among id (ids_of l) in
      let all : (c.file ++ some) ++ cut ≡ c.file ++ c.lines =
      append_assoc c.file some cut ∙ ap (λ l. c.file ++ l) (take-append-drop kept c.lines) in
      elim h [
        | inl z ↦ absurd z
        | inr z ↦ inr (subst P all (lines_less (c.file ++ some) ((c.file ++ some) ++ cut) id
            (λ e m. among_left e (c.file ++ some) cut m) (subst P (append_nil (c.file ++ some)) z)))
      ]

  cut_off : (c : Consumer F) → NoMore (reconnects c) c
  cut_off c = λ id h. elim h [ inl z ↦ absurd z | inr z ↦ inr z ]

  acked : (name : Name) (w : world.World F) (b : Bool)
      → NoMore (if b then acknowledges name w else w).consumer w.consumer
  acked name w false = λ id h. h
  acked name w true = λ id h. elim h [ inl z ↦ absurd z | inr z ↦ inr z ]

  asked_less : (s : Setting F) (n : ℕ) (pick : Id → Bool) (next : Id) (w : world.World F) (b : Bool)
      → NoMore (reconnects (if b then asked s.name n pick next w else w).consumer) w.consumer
  asked_less s n pick next w false = λ id h. elim h [ inl z ↦ absurd z | inr z ↦ inr z ]
  asked_less s n pick next w true = λ id h. elim h [ inl z ↦ absurd z | inr z ↦ inr z ]

  -- but by a read that is confirmed, a consumer has no more
  plain_less : (s : Setting F) (w : world.World F) (e : world.Event F) → Waits (Plain e)
      → NoMore (plainly s w e).consumer w.consumer
  plain_less s w (Send n) h = λ id m. m
  plain_less s w (Arrive b) h = absurd h
  plain_less s w (Arrive_late j b) h = λ id m. m
  plain_less s w Hear h = λ id m. m
  plain_less s w Break h = λ id m. m
  plain_less s w (Ask n pick next) h = absurd h
  plain_less s w (Take vs) h = taken w.consumer vs w.consumer.answer refl
  plain_less s w Sync h = synced w.consumer (is_none w.consumer.answer && is_empty w.consumer.machine.to_acknowledge)
  plain_less s w Acknowledge_now h = acked s.name w (is_none w.consumer.answer)
  plain_less s w Acknowledge_later h = λ id m. m
  plain_less s w Reconnect h = cut_off w.consumer
  plain_less s w (Restart every kept n) h = restarted w.consumer every kept n
  plain_less s w (Else e) h = λ id m. m

  one_less : (cs : Name → Consumer F) (name : Name) (k : Consumer F) → NoMore k (cs name) → (d : Name)
      → NoMore (with_one cs name k d) (cs d)
  one_less cs name k f d id h =
      let case : (b : Bool) → bytes_eq name d ≡ b → Has (if b then k else cs d) id → Has (cs d) id
      = λ b. elim b as (λ b. bytes_eq name d ≡ b → Has (if b then k else cs d) id → Has (cs d) id) [
        | true ↦ λ q m. (let P : Name → Type 0 = λ n. Has (cs n) id in
            subst P ((bytes_eq-Decides name d).0 q) (f id m))
        | false ↦ λ q m. m
      ] in
      case (bytes_eq name d) refl h

  -- what is held is so of consumers that have no more
  fewer : (seen : List (Entry F)) (ps : List Pending) (cs ds : Name → Consumer F) → ((d : Name) → NoMore (ds d) (cs d))
      → Held seen ps cs → Held seen ps ds
  fewer seen ps cs ds f i = record {
    of_seen = λ d id h. i.of_seen d id (f d id h);
    owner = λ p h d m. i.owner p h d (f d p.id m);
    one = λ id a b h k. i.one id a b (f a id h) (f b id k);
    pending = i.pending;
    once = i.once;
  }

  abbrev HeldBy : group.World F → (Name → Consumer F) → Type 0
  HeldBy k cs = Held k.seen k.pending cs

  with_less : (k : group.World F) (cs : Name → Consumer F) (name : Name) (c : Consumer F) → NoMore c (cs name)
      → HeldBy k cs → HeldBy k (with_one cs name c)
  with_less k cs name c f i = fewer k.seen k.pending cs (with_one cs name c) (one_less cs name c f) i

  cut_held : (k : group.World F) (cs : Name → Consumer F) (name : Name) (c : Consumer F)
      → HeldBy k (with_one cs name c) → HeldBy k (with_one cs name (reconnects c))
  cut_held k cs name c i =
      let less : (d : Name) → NoMore (with_one cs name (reconnects c) d) (with_one cs name c d)
      = λ d id h.
      (let case : (b : Bool) → Has (if b then reconnects c else cs d) id → Has (if b then c else cs d) id
      = λ b. elim b as (λ b. Has (if b then reconnects c else cs d) id → Has (if b then c else cs d) id)
      [ true ↦ λ m. cut_off c id m | false ↦ λ m. m ] in
      case (bytes_eq name d) h) in
      fewer k.seen k.pending (with_one cs name c) (with_one cs name (reconnects c)) less i

  record AllHeld (m : Many F) : Type 0 where
    now : HeldBy m.now.stream m.now.consumers
    each : (k : group.World F) → Among k m.kept → HeldBy k m.now.consumers

  -- the world of several consumers, after something that happened to one
  abbrev kept_with : Many F → Name → List (group.World F) → world.World F → Many F
  kept_with m name kept w = with_world m name (remembers kept w)

  remembered : (m : Many F) (name : Name) (kept : List (group.World F)) (w : world.World F)
      → HeldBy w.stream (with_one m.now.consumers name w.consumer)
      → ((k : group.World F) → Among k kept → HeldBy k (with_one m.now.consumers name w.consumer))
      → AllHeld (kept_with m name kept w)
  remembered m name kept w i f = record {
    now = i;
    each = λ k h. elim h [
      | inl e ↦
          (let P : group.World F → Type 0 = λ k. HeldBy k (with_one m.now.consumers name w.consumer) in subst P e i)
      | inr a ↦ f k a
    ];
  }

  waiting : (m : Many F) (name : Name) (kept : List (group.World F)) (v cut : world.World F) (b : Bool)
      → HeldBy v.stream (with_one m.now.consumers name v.consumer)
      → HeldBy cut.stream (with_one m.now.consumers name cut.consumer)
      → ((k : group.World F) → Among k kept → HeldBy k (with_one m.now.consumers name cut.consumer))
      → AllHeld (kept_with m name (if b then [] else kept) (if b then v else cut))
  waiting m name kept v cut true i j f = remembered m name [] v i (λ k h. absurd h)
  waiting m name kept v cut false i j f = remembered m name kept cut j f

  fails : (m : Many F) (name : Name) (j : ℕ) (o : Option (group.World F)) → item m.kept j ≡ o → AllHeld m
      → AllHeld (with_world m name (fails_over (world_of m name) o))
  fails m name j None q i = record {
    now = with_less m.now.stream m.now.consumers name (m.now.consumers name) (λ id h. h) i.now;
    each = λ k h. with_less k m.now.consumers name (m.now.consumers name) (λ id h. h) (i.each k h);
  }
  fails m name j (Some k) q i =
      let c : Consumer F = m.now.consumers name in
      let old = with_less k m.now.consumers name (reconnects c) (cut_off c) (i.each k (among_item m.kept j k q)) in
      record {
        now = record { of_seen = old.of_seen; owner = old.owner; one = old.one; pending = old.pending; once = old.once };
        each = λ k h. with_less k m.now.consumers name (reconnects c) (cut_off c) (i.each k h);
      }

module _ {F : Type 0} (s : Setting F) where
  abbrev at : Name → Setting F
  at name = setting_of s name

  -- no id is twice in the log, whichever consumer is looked at
  abbrev AllDistinct : Many F → Type 0
  AllDistinct m = (name : Name) → Distinct (world_of m name)

  distinct_so : (m : Many F) (name : Name) (e : Event F) → AllDistinct m → AllDistinct (happens_to s m name e)
  distinct_so m name e g other =
      let i = distinct_after (at name) (world_of m name) e (g name) in record { now = i.now; each = i.each }

  plain_held : (m : Many F) (name : Name) (e : world.Event F) → Waits (Plain e) → once.IsFair m.now name e → AllDistinct m
      → HeldBy m.now.stream m.now.consumers
      → HeldBy (plainly (at name) (once.world_of m.now name) e).stream
      (with_one m.now.consumers name (plainly (at name) (once.world_of m.now name) e).consumer)
  plain_held m name e h fair g i =
      let o = once_in_log (world_of m name) (g name) in
      let c : Consumer F = m.now.consumers name in
      let any = holds s m.now o name in
      let case : (e : world.Event F) → once.IsFair m.now name e
      → HeldBy (plainly (at name) (once.world_of m.now name) e).stream
      (with_one m.now.consumers name (plainly (at name) (once.world_of m.now name) e).consumer)
      = λ e. elim e as (λ e. once.IsFair m.now name e
      → HeldBy (plainly (at name) (once.world_of m.now name) e).stream
      (with_one m.now.consumers name (plainly (at name) (once.world_of m.now name) e).consumer)) [
        | Send n ↦ λ f. any (Send n) f i
        | Arrive b ↦ λ f. any (Arrive b) f i
        | Arrive_late j b ↦ λ f. any (Arrive_late j b) f i
        | Hear ↦ λ f. any Hear f i
        | Break ↦ λ f. any Break f i
        | Ask n pick next ↦ λ f. any (Ask n pick next) f i
        | Take vs ↦ λ f. with_less m.now.stream m.now.consumers name (looks_up vs c.answer c) (taken c vs c.answer refl) i
        | Sync ↦ λ f. any Sync f i
        | Acknowledge_now ↦ λ f. any Acknowledge_now f i
        | Acknowledge_later ↦ λ f. any Acknowledge_later f i
        | Reconnect ↦ λ f. any Reconnect f i
        | Restart every kept n ↦ λ f. any (Restart every kept n) f i
        | Else event ↦ λ f. any (Else event) f i
      ] in
      case e fair

  held_after : (m : Many F) (name : Name) (e : Event F) → Waits e → IsFair m name e → AllDistinct m → AllHeld m
      → AllHeld (happens_to s m name e)
  held_after m name (Plain e) h fair g i =
      let w : world.World F = once.world_of m.now name in
      let v : world.World F = plainly (at name) w e in
      remembered m name m.kept v (plain_held m name e h fair g i.now)
      (λ k a. with_less k m.now.consumers name v.consumer (plain_less (at name) w e h) (i.each k a))
  held_after m name (Arrive_waits b asked said) h fair g i =
      let w : world.World F = once.world_of m.now name in
      let o = once_in_log (world_of m name) (g name) in
      let v : world.World F = world.happens (at name) w (Arrive b) in
      let j = holds s m.now o name (Arrive b) tt i.now in
      waiting m name m.kept v (world.happens (at name) v Break) (is_confirmed asked said) j j
      (λ k a. with_less k m.now.consumers name (m.now.consumers name) (λ id z. z) (i.each k a))
  held_after m name (Ask_waits n pick next asked said) h fair g i =
      let w : world.World F = once.world_of m.now name in
      let o = once_in_log (world_of m name) (g name) in
      let v : world.World F = world.happens (at name) w (Ask n pick next) in
      let j = holds s m.now o name (Ask n pick next) fair i.now in
      let less = asked_less (at name) n pick next w (is_idle w.consumer) in
      waiting m name m.kept v (world.happens (at name) v Reconnect) (is_confirmed asked said) j
      (cut_held v.stream m.now.consumers name v.consumer j)
      (λ k a. with_less k m.now.consumers name (reconnects v.consumer) less (i.each k a))
  held_after m name (Failover j) h fair g i = fails m name j (item m.kept j) refl i

  over : (es : List (Name × Event F)) (m : Many F) → AllWait (map (λ e. e.1) es) → AllFair s m es → AllDistinct m → AllHeld m
      → AllHeld (run_many s es m)
  over [] m h fair g i = i
  over (e ∷ es) m h fair g i =
      over es (happens_to s m e.0 e.1) h.1 fair.1 (distinct_so m e.0 e.1 g) (held_after m e.0 e.1 h.0 fair.0 g i)

  nobody : (id : Id) (d : Name) → Has ((first_many {F = F}).now.consumers d) id → ⊥
  nobody id d (inl h) = h
  nobody id d (inr h) = h

  pub always_held : (es : List (Name × Event F)) → AllWait (map (λ e. e.1) es) → AllFair s first_many es
      → HeldBy (run_many s es first_many).now.stream (run_many s es first_many).now.consumers
  always_held es h fair =
      let none : HeldBy {F = F} empty_world (first_many {F = F}).now.consumers = record {
        of_seen = λ d id h. absurd (nobody id d h);
        owner = λ p h. absurd h;
        one = λ id a b h k. absurd (nobody id a h);
        pending = λ p h. absurd h;
        once = tt;
      } in
      let first : AllHeld (first_many {F = F}) = record {
        now = none;
        each = λ k m. elim m [
          | inl e ↦ (let P : group.World F → Type 0 = λ k. HeldBy k (first_many {F = F}).now.consumers in subst P e none)
          | inr z ↦ absurd z
        ];
      } in
      (over es first_many h fair (λ name. record { now = first_distinct.now; each = first_distinct.each }) first).now

  has_file : (c : Consumer F) (id : Id) → Among id (ids_of c.file) → Has c id
  has_file c id h =
      let P : List Id → Type 0 = λ l. Among id l in
      inr (subst P (sym (ids_both c.file c.lines)) (among_left id (ids_of c.file) (ids_of c.lines) h))

module _ {F : Type 0} (s : Setting F) where
  singles : (es : List (Name × Event F)) (m : Many F) → ((d : Name) → Single (m.now.consumers d)) → (d : Name)
      → Single ((run_many s es m).now.consumers d)
  singles [] m h d = h d
  singles (e ∷ es) m h d =
      let w : World F = world_of m e.0 in
      let c : Consumer F = (happens (setting_of s e.0) w e.1).now.consumer in
      let one : Single c = step (setting_of s e.0) w e.1 (h e.0) in
      singles es (happens_to s m e.0 e.1)
      (λ d. let case : (b : Bool) → Single (if b then c else m.now.consumers d)
      = λ b. elim b as (λ b. Single (if b then c else m.now.consumers d)) [ true ↦ one | false ↦ h d ] in
      case (bytes_eq e.0 d))
      d

pub each_file_once : {F : Type 0} → EachFileOnce F
each_file_once s es name =
    in_file ((run_many s es first_many).now.consumers name) (singles s es first_many (λ d. tt) name)

pub none_in_two_files : {F : Type 0} → NoneInTwoFiles F
none_in_two_files s es h fair id one other a b =
    let m = run_many s es first_many in
    (always_held s es h fair).one id one other (has_file s (m.now.consumers one) id a)
    (has_file s (m.now.consumers other) id b)
