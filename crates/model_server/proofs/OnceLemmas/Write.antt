-- No id is twice in the consumer's file.
use Rattle.std.proofs.Common.{◌≡◌, ◌⊎◌, inl, inr, refl, sym, ap, subst, ◌∙◌, ℕ, ◌+◌, ◌-◌, ◌≤◌, zero, suc, arith, Bool}
use Rattle.std.proofs.Common.{true, false, not, ◌&&◌, List, [], ◌∷◌, ◌++◌, map, filter, length, take, drop, append_assoc, Option}
use Rattle.std.proofs.Common.{Some, None, if◌then◌else◌}
use Rattle.std.specs.Option.{is_none}
use Rattle.std.specs.Str.{bytes_eq}
use Rattle.std.proofs.lemmas.List.{length-append, take-append-drop}
use Rattle.model_server.specs.Group.Worker.{Id, Entry, Delivered, Verdict, Phase, own, claiming, reading, Answer}
use Rattle.model_server.specs.Group.Worker.{acknowledged, own_pending, taken_over, news, entries_in, handled_in, acks_in, still}
use Rattle.model_server.specs.Group.Group.{Name, Pending, Numbers, is_below, fits, id_text, listed, ids_of, given, passed}
use Rattle.model_server.specs.Group.Group.{own as own_ids}
use Rattle.model_server.specs.Group.Group.{newly_pending, whole, as_it_is, claimed, claimed_one}
use Rattle.model_server.specs.Group.Group.{pending_ids, pending_after}
use Rattle.model_server.specs.Group.World.{log_of, item, Append, Delete, Read, Reread, Claim, Claim_ids, Comes, Commit}
use Rattle.model_server.specs.Group.World.{Acknowledge, Ack_comes, Go_back, Crash, Reply, comes, ack_comes, appended, read}
use Rattle.model_server.specs.Group.World as group
use Rattle.model_server.specs.Group.Law.{Among}
use Rattle.model_server.proofs.GroupLemmas.Among.{among_left, among_right, among_split, among_map, among_of_map, among_filtered}
use Rattle.model_server.proofs.GroupLemmas.Among.{filtered_passes, listed_among, and_left, and_right}
use Rattle.model_server.proofs.GroupLemmas.Steps.{given_passed, raised_ids, ids_append}
use Rattle.model_server.specs.Once.Feed.{Numbered, Request, ask_last, batch}
use Rattle.model_server.specs.Once.Producer.{add_all, filled, filled_by}
use Rattle.model_server.specs.Once.Consumer.{Consumer, is_empty, is_idle, after_asking, answer_for, takes, syncs}
use Rattle.model_server.specs.Once.Consumer.{last_lines, last_added, restarts, reconnects}
use Rattle.model_server.specs.Once.World.{Setting, World, first_world, Event, Send, Arrive, Arrive_late, Hear, Break}
use Rattle.model_server.specs.Once.World.{Ask, Take, Sync, Acknowledge_now, Acknowledge_later, Reconnect, Restart, Else, asked}
use Rattle.model_server.specs.Once.World.{acknowledges, happens, run}
use Rattle.model_server.specs.Once.Law.{after, Once, LogOnce, FileOnce, FileIsOfLog}
use Rattle.model_server.proofs.OnceLemmas.Ids.{AddedIn, added_then, none_added, has_each_once}
use Rattle.model_server.proofs.OnceLemmas.Fill.{append_nil, quiet_if}
use Rattle.model_server.proofs.OnceLemmas.Apart.{once_left, once_right, once_apart, once_both, among_listed, ids_both, id_among}
use Rattle.model_server.proofs.OnceLemmas.Apart.{once_filter, once_given, given_within, outs, outs_whole, outs_as, handled_from}
use Rattle.model_server.proofs.OnceLemmas.Apart.{handled_acks, once_handled}

pub empty_if_none : {A : Type 0} (xs : List A) → is_empty xs ≡ true → xs ≡ []
empty_if_none [] h = refl
empty_if_none (x ∷ xs) h = absurd (let t : false ≡ true = h in cc)

-- what an acknowledgement leaves was pending, and is not named
pub left_over : (ids : List Id) (ps : List Pending) (id : Id) → Among id (pending_ids (pending_after ids ps))
    → Among id (pending_ids ps) × (Among id ids → ⊥)
left_over ids [] id h = absurd h
left_over ids (p ∷ ps) id h =
    let more = λ (a : Among id (pending_ids (pending_after ids ps))).
    (let r = left_over ids ps id a in
    let t : Among id (pending_ids (p ∷ ps)) × (Among id ids → ⊥) = (inr r.0, r.1) in t) in
    let case : (b : Bool) → listed ids p.id ≡ b
    → Among id (pending_ids (if not b then p ∷ pending_after ids ps else pending_after ids ps))
    → Among id (pending_ids (p ∷ ps)) × (Among id ids → ⊥)
    = λ b. elim b as (λ v. listed ids p.id ≡ v
    → Among id (pending_ids (if not v then p ∷ pending_after ids ps else pending_after ids ps))
    → Among id (pending_ids (p ∷ ps)) × (Among id ids → ⊥)) [
      | true ↦ λ q a. more a
      | false ↦ λ q a. elim a [
        | inl e ↦ (
          inl e,
          λ m.
              let P : Id → Type 0 = λ i. Among i ids in
              let t : listed ids p.id ≡ true = among_listed ids p.id (subst P (sym e) m) in
              absurd (let u : false ≡ true = sym q ∙ t in cc),
        )
        | inr r ↦ more r
      ]
    ] in
    case (listed ids p.id) refl h

-- a claim makes nothing pending that was not
pub claimed_within : (more : ℕ) (pick : Id → Bool) (me : Name) (deleted : List Id) (ps : List Pending) (id : Id)
    → Among id (pending_ids (claimed more pick me deleted ps)) → Among id (pending_ids ps)
claimed_within more pick me deleted [] id h = absurd h
claimed_within more pick me deleted (p ∷ ps) id h =
    let q : Pending = record { id = p.id; consumer = me; count = p.count + more } in
    let inner : (b : Bool) → Among id (pending_ids (if b then [] else q ∷ [])) → p.id ≡ id
    = λ b. elim b as (λ b. Among id (pending_ids (if b then [] else q ∷ [])) → p.id ≡ id)
    [ true ↦ λ a. absurd a | false ↦ λ a. elim a [ inl e ↦ e | inr z ↦ absurd z ] ] in
    let outer : (b : Bool) → Among id (pending_ids (if b then (if listed deleted p.id then [] else q ∷ []) else p ∷ []))
    → p.id ≡ id
    = λ b. elim b as (λ b. Among id
    (pending_ids (if b then (if listed deleted p.id then [] else q ∷ []) else p ∷ [])) → p.id ≡ id) [
      | true ↦ inner (listed deleted p.id)
      | false ↦ λ a. elim a [ inl e ↦ e | inr z ↦ absurd z ]
    ] in
    let P : List Id → Type 0 = λ l. Among id l in
    elim (among_split id (pending_ids (claimed_one more pick me deleted p))
    (pending_ids (claimed more pick me deleted ps))
    (subst P (ids_append (claimed_one more pick me deleted p) (claimed more pick me deleted ps)) h)) [
      | inl a ↦ inl (outer (pick p.id) a)
      | inr a ↦ inr (claimed_within more pick me deleted ps id a)
    ]

-- what is pending for one is pending
own_within : (me : Name) (ps : List Pending) (id : Id) → Among id (own_ids me ps) → Among id (pending_ids ps)
own_within me ps id h =
    let s = among_of_map (λ (p : Pending). p.id) id (filter (λ p. bytes_eq p.consumer me) ps) h in
    let P : Id → Type 0 = λ i. Among i (pending_ids ps) in
    subst P s.is (among_map (λ (p : Pending). p.id) s.x ps (among_filtered (λ p. bytes_eq p.consumer me) s.x ps s.within))

pub new_ids : {F : Type 0} (me : Name) (es : List (Entry F)) → pending_ids (newly_pending me es) ≡ ids_of es
new_ids me [] = refl
new_ids me (x ∷ es) = ap (λ l. x.0 ∷ l) (new_ids me es)

module _ {F : Type 0} where
  -- no delivered entry is forgotten, and none of them becomes pending again
  abbrev pub Calm : group.World F → group.World F → Type 0
  Calm v w =
      ((e : Entry F) → Among e w.seen → Among e v.seen)
      × ((id : Id) → Among id (ids_of w.seen) → Among id (pending_ids v.pending) → Among id (pending_ids w.pending))

  abbrev pub Distinct : group.World F → Type 0
  Distinct w = Once (ids_of (log_of w))

  pub calm_still : (w : group.World F) → Calm w w
  calm_still w = (λ e h. h, λ id h k. k)

  pub not_fresh : (w : group.World F) → Distinct w → (id : Id) → Among id (ids_of w.seen) → Among id (ids_of w.fresh) → ⊥
  not_fresh w o id a b =
      once_apart (ids_of w.seen) (ids_of w.fresh) id (subst Once (ids_both w.seen w.fresh) o) a b

  pub given_fresh : (w : group.World F) (n : ℕ) (id : Id) → Among id (ids_of (given w.deleted n w.fresh))
      → Among id (ids_of w.fresh)
  given_fresh w n id h =
      let s = among_of_map (λ (e : Entry F). e.0) id (given w.deleted n w.fresh) h in
      let P : Id → Type 0 = λ i. Among i (ids_of w.fresh) in
      subst P s.is (id_among s.x w.fresh (given_within w.deleted n w.fresh s.x s.within))

  calm_read : (w : group.World F) → Distinct w → (me : Name) (n : ℕ) → Calm (read w me n) w
  calm_read w o me n = (
    λ e h. among_left e w.seen (passed w.deleted n w.fresh) h,
    λ id h k.
        let es : List (Entry F) = given w.deleted n w.fresh in
        let P : List Id → Type 0 = λ l. Among id l in
        elim (among_split id (pending_ids w.pending) (pending_ids (newly_pending me es))
        (subst P (ids_append w.pending (newly_pending me es)) k)) [
          | inl a ↦ a
          | inr a ↦ absurd (not_fresh w o id h (given_fresh w n id (subst P (new_ids me es) a)))
        ],
  )

  calm_again : (w : group.World F) (me : Name) (pick : Id → Bool) → Calm (group.read_again w me pick) w
  calm_again w me pick = (
    λ e h. h,
    λ id h k. let P : List Id → Type 0 = λ l. Among id l in subst P (raised_ids pick me w.deleted w.pending) k,
  )

  calm_claim : (w : group.World F) (me : Name) (pick : Id → Bool) (next : Id) → Calm (group.claim w me pick next) w
  calm_claim w me pick next = (λ e h. h, λ id h k. claimed_within 1 pick me w.deleted w.pending id k)

  calm_deleted : (w : group.World F) (id : Id) (b : Bool) → Calm (if b then record w { deleted = id ∷ w.deleted } else w) w
  calm_deleted w id true = calm_still w
  calm_deleted w id false = calm_still w

  calm_comes : (w : group.World F) (k : ℕ) (o : Option (Reply F)) (vs : List Verdict) → Calm (comes w k o vs) w
  calm_comes w k None vs = calm_still w
  calm_comes w k (Some r) vs = calm_still w

  pub calm_acked : (w : group.World F) (o : Option (Name × List Id)) → Calm (ack_comes w o) w
  calm_acked w None = calm_still w
  calm_acked w (Some a) = (λ e h. h, λ id h k. (left_over a.1 w.pending id k).0)

  calm_appended : (w : group.World F) (n : Numbers) (f : F) (b : Bool)
      → Calm (if b then record w { fresh = w.fresh ++ (id_text n, f) ∷ []; last = n } else w) w
  calm_appended w n f true = calm_still w
  calm_appended w n f false = calm_still w

  pub calm_else : (w : group.World F) → Distinct w → (e : group.Event F) → Calm (group.happens w e) w
  calm_else w o (Append n fields) = calm_appended w n fields (is_below w.last n && fits n)
  calm_else w o (Delete id) = calm_deleted w id (listed (ids_of (log_of w)) id)
  calm_else w o (Read c n) = calm_read w o c n
  calm_else w o (Reread c pick) = calm_again w c pick
  calm_else w o (Claim c pick next) = calm_claim w c pick next
  calm_else w o (Claim_ids c pick) = (λ e h. h, λ id h k. claimed_within 0 pick c w.deleted w.pending id k)
  calm_else w o (Comes k vs) = calm_comes w k (item w.replies k) vs
  calm_else w o (Commit c) = calm_still w
  calm_else w o (Acknowledge c) = calm_still w
  calm_else w o (Ack_comes k) = calm_acked w (item w.acks k)
  calm_else w o (Go_back c) = calm_still w
  calm_else w o (Crash c every keeps ids) = calm_still w

  pub calm_served : (me : Name) (n : ℕ) (pick : Id → Bool) (next : Id) (p : Phase) (w : group.World F) → Distinct w
      → Calm (after_asking me n pick next p w) w
  calm_served me n pick next (own behind) w o = calm_again w me pick
  calm_served me n pick next (claiming from) w o = calm_claim w me pick next
  calm_served me n pick next (reading rounds) w o = calm_read w o me n

  calm_further : (u v w : group.World F) → Calm u v → Calm v w → Calm u w
  calm_further u v w a b = (
    λ e h. a.0 e (b.0 e h),
    λ id h k.
        let s = among_of_map (λ (e : Entry F). e.0) id w.seen h in
        let P : Id → Type 0 = λ i. Among i (ids_of v.seen) in
        b.1 id h (a.1 id (subst P s.is (id_among s.x v.seen (b.0 s.x s.within))) k),
  )

  calm_batch : (b : List (Numbered F)) (w : group.World F) → Calm (add_all w b) w
  calm_batch [] w = calm_still w
  calm_batch (r ∷ rs) w =
      calm_further (add_all (appended w r.0 r.1) rs) (appended w r.0 r.1) w (calm_batch rs (appended w r.0 r.1))
      (calm_appended w r.0 r.1 (is_below w.last r.0 && fits r.0))

  calm_request : (executes : Bool) (w : group.World F) (r : Request F) → Calm (filled executes w r) w
  calm_request executes w ask_last = calm_still w
  calm_request true w (batch b) = calm_batch b w
  calm_request false w (batch b) = calm_still w

  pub calm_filled : (executes : Bool) (w : group.World F) (o : Option (Request F)) → Calm (filled_by executes w o) w
  calm_filled executes w None = calm_still w
  calm_filled executes w (Some r) = calm_request executes w r

  -- what the machine may be sure of while a reply is on the way
  abbrev pub Ready : group.World F → Consumer F → Answer F → Type 0
  Ready w r acknowledged = (id : Id) → Among id (ids_of r.file) → Among id (pending_ids w.pending) → ⊥
  Ready w r (own_pending es) = r.machine.to_acknowledge ≡ []
  Ready w r (taken_over next es) = r.machine.to_acknowledge ≡ []
  Ready w r (news es) = r.machine.to_acknowledge ≡ []

  -- a reply on the way delivers what is not in the file yet
  pub record Coming (w : group.World F) (r : Consumer F) (a : Answer F) : Type 0 where
    pub ready : Ready w r a
    pub of_seen : (e : Entry F) → Among (e.0, Some e.1) (entries_in a) → Among e w.seen
    pub apart : (e : Entry F) → Among e.0 (ids_of (r.file ++ r.lines)) → Among (e.0, Some e.1) (entries_in a) → ⊥
    pub once : Once (outs (entries_in a))

  abbrev pub MayCome : group.World F → Consumer F → Option (Answer F) → Type 0
  MayCome w r None = Unit {0}
  MayCome w r (Some a) = Coming w r a

  -- what is pending of the file is of the last commit
  pub record Newest (w : group.World F) (file : List (Entry F)) (added : ℕ) : Type 0 where
    pub older : List (Entry F)
    pub newer : List (Entry F)
    pub all : file ≡ older ++ newer
    pub count : length newer ≡ added
    pub held : (id : Id) → Among id (ids_of file) → Among id (pending_ids w.pending) → Among id (ids_of newer)

  pub record Writes (w : group.World F) (r : Consumer F) : Type 0 where
    pub of_seen : (e : Entry F) → Among e (r.file ++ r.lines) → Among e w.seen
    pub once : Once (ids_of (r.file ++ r.lines))
    pub held : (id : Id) → Among id (ids_of r.file) → Among id (pending_ids w.pending)
        → Among id r.machine.to_acknowledge
    pub done : (id : Id) → Among id (ids_of r.lines) → Among id r.machine.to_commit
    pub coming : MayCome w r r.answer
    pub newest : Newest w r.file r.last_commit
    -- there are new lines only where all is acknowledged
    pub either : (r.machine.to_acknowledge ≡ []) ⊎ (r.lines ≡ [])

  id_seen : (w : group.World F) (r : Consumer F) → Writes w r → (id : Id) → Among id (ids_of (r.file ++ r.lines))
      → Among id (ids_of w.seen)
  id_seen w r i id h =
      let s = among_of_map (λ (e : Entry F). e.0) id (r.file ++ r.lines) h in
      let P : Id → Type 0 = λ i. Among i (ids_of w.seen) in
      subst P s.is (id_among s.x w.seen (i.of_seen s.x s.within))

  of_file : (r : Consumer F) (id : Id) → Among id (ids_of r.file) → Among id (ids_of (r.file ++ r.lines))
  of_file r id h =
      let P : List Id → Type 0 = λ l. Among id l in
      subst P (sym (ids_both r.file r.lines)) (among_left id (ids_of r.file) (ids_of r.lines) h)

  file_or_line : (r : Consumer F) (id : Id) → Among id (ids_of (r.file ++ r.lines))
      → Among id (ids_of r.file) ⊎ Among id (ids_of r.lines)
  file_or_line r id h =
      let P : List Id → Type 0 = λ l. Among id l in
      among_split id (ids_of r.file) (ids_of r.lines) (subst P (ids_both r.file r.lines) h)

  -- it stays so when the server does something else
  pub stays : (v w : group.World F) (r : Consumer F) → Calm v w → Writes w r → Writes v r
  stays v w r c i =
      let back : (id : Id) → Among id (ids_of r.file) → Among id (pending_ids v.pending) → Among id (pending_ids w.pending)
      = λ id h k. c.1 id (id_seen w r i id (of_file r id h)) k in
      let ready : (a : Answer F) → Ready w r a → Ready v r a
      = λ a. elim a as (λ a. Ready w r a → Ready v r a) [
        | acknowledged ↦ λ z id h k. z id h (back id h k)
        | own_pending es ↦ λ z. z
        | taken_over next es ↦ λ z. z
        | news es ↦ λ z. z
      ] in
      let may : (o : Option (Answer F)) → MayCome w r o → MayCome v r o
      = λ o. elim o as (λ o. MayCome w r o → MayCome v r o) [
        | None ↦ λ z. tt
        | Some a ↦ λ z. record {
          ready = ready a z.ready;
          of_seen = λ e h. c.0 e (z.of_seen e h);
          apart = z.apart;
          once = z.once;
        }
      ] in
      record {
        of_seen = λ e h. c.0 e (i.of_seen e h);
        once = i.once;
        held = λ id h k. i.held id h (back id h k);
        done = i.done;
        coming = may r.answer i.coming;
        newest = record {
          older = i.newest.older;
          newer = i.newest.newer;
          all = i.newest.all;
          count = i.newest.count;
          held = λ id h k. i.newest.held id h (back id h k);
        };
        either = i.either;
      }

  -- a reply arrives
  still_held : (w : group.World F) (r : Consumer F) (a : Answer F) → Ready w r a → (id : Id) → Among id (ids_of r.file)
      → Among id (pending_ids w.pending) → Among id r.machine.to_acknowledge → Among id (still r.machine.to_acknowledge a)
  still_held w r acknowledged z id h k m = absurd (z id h k)
  still_held w r (own_pending es) z id h k m = m
  still_held w r (taken_over next es) z id h k m = m
  still_held w r (news es) z id h k m = m

  still_none : (w : group.World F) (r : Consumer F) (a : Answer F) → Ready w r a → still r.machine.to_acknowledge a ≡ []
  still_none w r acknowledged z = refl
  still_none w r (own_pending es) z = z
  still_none w r (taken_over next es) z = z
  still_none w r (news es) z = z

  taking : (w : group.World F) (r : Consumer F) (vs : List Verdict) → Writes w r → (o : Option (Answer F)) → r.answer ≡ o
      → Writes w (takes vs o r)
  taking w r vs i None q = i
  taking w r vs i (Some a) q =
      let c : Coming w r a = let P : Option (Answer F) → Type 0 = λ o. MayCome w r o in subst P q i.coming in
      let new : List (Entry F) = handled_in (entries_in a) vs in
      let all_is : r.file ++ (r.lines ++ new) ≡ (r.file ++ r.lines) ++ new = sym (append_assoc r.file r.lines new) in
      let apart : (id : Id) → Among id (ids_of (r.file ++ r.lines)) → Among id (ids_of new) → ⊥
      = λ id h k.
      (let s = among_of_map (λ (e : Entry F). e.0) id new k in
      let P : Id → Type 0 = λ i. Among i (ids_of (r.file ++ r.lines)) in
      c.apart s.x (subst P (sym s.is) h) (handled_from (entries_in a) vs s.x s.within)) in
      record {
        of_seen = λ e h.
            let P : List (Entry F) → Type 0 = λ l. Among e l in
            elim (among_split e (r.file ++ r.lines) new (subst P all_is h)) [
              | inl b ↦ i.of_seen e b
              | inr b ↦ c.of_seen e (handled_from (entries_in a) vs e b)
            ];
        once = subst Once (sym (ap ids_of all_is ∙ ids_both (r.file ++ r.lines) new))
            (once_both (ids_of (r.file ++ r.lines)) (ids_of new) i.once (once_handled (entries_in a) vs c.once) apart);
        held = λ id h k. still_held w r a c.ready id h k (i.held id h k);
        done = λ id h.
            let P : List Id → Type 0 = λ l. Among id l in
            elim (among_split id (ids_of r.lines) (ids_of new) (subst P (ids_both r.lines new) h)) [
              | inl b ↦ among_left id r.machine.to_commit (acks_in (entries_in a) vs) (i.done id b)
              | inr b ↦ among_right id r.machine.to_commit (acks_in (entries_in a) vs) (handled_acks (entries_in a) vs id b)
            ];
        coming = tt;
        newest = i.newest;
        either = inl (still_none w r a c.ready);
      }

  -- a commit
  syncing : (w : group.World F) (r : Consumer F) → Writes w r → (b : Bool)
      → (is_none r.answer && is_empty r.machine.to_acknowledge) ≡ b → Writes w (if b then syncs r else r)
  syncing w r i false q = i
  syncing w r i true q =
      let quiet : r.answer ≡ None = quiet_if r.answer (and_left (is_none r.answer) _ q) in
      let none : r.machine.to_acknowledge ≡ [] =
      empty_if_none r.machine.to_acknowledge (and_right (is_none r.answer) (is_empty r.machine.to_acknowledge) q) in
      let nil : (r.file ++ r.lines) ++ [] ≡ r.file ++ r.lines = append_nil (r.file ++ r.lines) in
      record {
        of_seen = λ e h. let P : List (Entry F) → Type 0 = λ l. Among e l in i.of_seen e (subst P nil h);
        once = subst Once (sym (ap ids_of nil)) i.once;
        held = λ id h k. elim (file_or_line r id h) [
          | inl b ↦ among_left id r.machine.to_acknowledge r.machine.to_commit (i.held id b k)
          | inr b ↦ among_right id r.machine.to_acknowledge r.machine.to_commit (i.done id b)
        ];
        done = λ id h. absurd h;
        coming = (let P : Option (Answer F) → Type 0 = λ o. MayCome w (syncs r) o in subst P (sym quiet) tt);
        newest = record {
          older = r.file;
          newer = r.lines;
          all = refl;
          count = refl;
          held = λ id h k. elim (file_or_line r id h) [
            | inl b ↦ absurd (let P : List Id → Type 0 = λ l. Among id l in subst P none (i.held id b k))
            | inr b ↦ b
          ];
        };
        either = inr refl;
      }

  -- of the last lines, where these are as many or more, each of the newest
  among_dropped : (k : ℕ) (older newer : List (Entry F)) → k ≤ length older → (e : Entry F) → Among e newer
      → Among e (drop k (older ++ newer))
  among_dropped zero older newer l e h = among_right e older newer h
  among_dropped (suc k) [] newer l e h = absurd (omega (arith, l))
  among_dropped (suc k) (x ∷ older) newer l e h = among_dropped k older newer (omega (arith, l)) e h

  -- what is pending of the file after a crash is of the last commit, whole or cut off
  newest_after : (w : group.World F) (r : Consumer F) → Writes w r → (kept : List (Entry F)) → (r.lines ≡ [] → kept ≡ [])
      → Newest w (r.file ++ kept) (last_added r.last_commit kept)
  newest_after w r i [] none =
      let nil : r.file ++ [] ≡ r.file = append_nil r.file in
      let P : List (Entry F) → Type 0 = λ l. Newest w l r.last_commit in
      subst P (sym nil) i.newest
  newest_after w r i (e ∷ es) none =
      let all : r.machine.to_acknowledge ≡ [] = elim i.either [
        | inl a ↦ a
        | inr b ↦ absurd (let t : e ∷ es ≡ [] = none b in cc)
      ] in
      record {
        older = r.file;
        newer = e ∷ es;
        all = refl;
        count = refl;
        held = λ id h k.
            let P : List Id → Type 0 = λ l. Among id l in
            elim (among_split id (ids_of r.file) (ids_of (e ∷ es)) (subst P (ids_both r.file (e ∷ es)) h)) [
              | inl a ↦ absurd (subst P all (i.held id a k))
              | inr b ↦ b
            ];
      }

  last_named : (w : group.World F) (file : List (Entry F)) (added more : ℕ) → Newest w file added → (id : Id)
      → Among id (ids_of file) → Among id (pending_ids w.pending) → Among id (ids_of (last_lines (added + more) file))
  last_named w file added more n id h k =
      let total : length file ≡ length n.older + length n.newer = ap length n.all ∙ length-append n.older n.newer in
      let d : ℕ = length file - (added + more) in
      let s = among_of_map (λ (e : Entry F). e.0) id n.newer (n.held id h k) in
      let P : Id → Type 0 = λ i. Among i (ids_of (drop d file)) in
      let Q : List (Entry F) → Type 0 = λ l. Among s.x (drop d l) in
      subst P s.is (id_among s.x (drop d file) (subst Q (sym n.all)
      (among_dropped d n.older n.newer (omega (arith, total, n.count)) s.x s.within)))

  restarting : (w : group.World F) (r : Consumer F) (every kept more : ℕ) → Writes w r → Writes w (restarts every kept more r)
  restarting w r every kept more i =
      let some : List (Entry F) = take kept r.lines in
      let nil : (r.file ++ some) ++ [] ≡ r.file ++ some = append_nil (r.file ++ some) in
      let lines_are : some ++ drop kept r.lines ≡ r.lines = take-append-drop kept r.lines in
      let all_is : r.file ++ r.lines ≡ (r.file ++ some) ++ drop kept r.lines =
      ap (λ l. r.file ++ l) (sym lines_are) ∙ sym (append_assoc r.file some (drop kept r.lines)) in
      let nothing : (k : ℕ) → take k (let l : List (Entry F) = [] in l) ≡ [] =
      λ k. elim k as (λ k. take k (let l : List (Entry F) = [] in l) ≡ []) [ zero ↦ refl | suc m ↦ refl ] in
      let n : Newest w (r.file ++ some) (last_added r.last_commit some) =
      newest_after w r i some (λ e. ap (take kept) e ∙ nothing kept) in
      record {
        of_seen = λ e h.
            let P : List (Entry F) → Type 0 = λ l. Among e l in
            i.of_seen e (subst P (sym all_is) (among_left e (r.file ++ some) (drop kept r.lines) (subst P nil h)));
        once = subst Once (sym (ap ids_of nil))
            (once_left (ids_of (r.file ++ some)) (ids_of (drop kept r.lines))
            (subst Once (ap ids_of all_is ∙ ids_both (r.file ++ some) (drop kept r.lines)) i.once));
        held = last_named w (r.file ++ some) (last_added r.last_commit some) more n;
        done = λ id h. absurd h;
        coming = tt;
        newest = n;
        either = inr refl;
      }

  reconnecting : (w : group.World F) (r : Consumer F) → Writes w r → Writes w (reconnects r)
  reconnecting w r i = record {
    of_seen = i.of_seen;
    once = i.once;
    held = i.held;
    done = i.done;
    coming = tt;
    newest = i.newest;
    either = i.either;
  }

  -- an acknowledgement arrives, and its reply is on the way
  acking : (me : Name) (w : World F) → Writes w.stream w.consumer
      → Writes (acknowledges me w).stream (acknowledges me w).consumer
  acking me w i =
      let r : Consumer F = w.consumer in
      let v : group.World F = (acknowledges me w).stream in
      let j : Writes v r = stays v w.stream r (calm_acked w.stream (Some (me, r.machine.to_acknowledge))) i in
      record {
        of_seen = j.of_seen;
        once = j.once;
        held = j.held;
        done = j.done;
        coming = record {
          ready = λ id h k.
              let l = left_over r.machine.to_acknowledge w.stream.pending id k in l.1 (i.held id h l.0);
          of_seen = λ e h. absurd h;
          apart = λ e h k. k;
          once = tt;
        };
        newest = j.newest;
        either = j.either;
      }

  -- what is requested if all is acknowledged
  picked : (deleted : List Id) (es : List (Entry F)) (e : Entry F) → Among (e.0, Some e.1) (map (as_it_is deleted) es)
      → Among e es
  picked deleted [] e h = absurd h
  picked deleted (x ∷ es) e (inr h) = inr (picked deleted es e h)
  picked deleted (x ∷ es) e (inl q) =
      let case : (b : Bool) → ◌≡◌ {A = Delivered F} (x.0, if b then None else Some x.1) (e.0, Some e.1) → x ≡ e
      = λ b. elim b as (λ b. ◌≡◌ {A = Delivered F} (x.0, if b then None else Some x.1) (e.0, Some e.1) → x ≡ e) [
        | true ↦ λ q. absurd (let t : None ≡ Some e.1 = ap (λ (d : Delivered F). d.1) q in cc)
        | false ↦ λ q.
            (let a : x.0 ≡ e.0 = ap (λ (d : Delivered F). d.0) q in
            let t : Some x.1 ≡ Some e.1 = ap (λ (d : Delivered F). d.1) q in
            let b : x.1 ≡ e.1 = cc in
            ap (λ (i : Id). let y : Entry F = (i, x.1) in y) a ∙ ap (λ f. let y : Entry F = (e.0, f) in y) b)
      ] in
      inl (case (listed deleted x.0) q)

  whole_picked : (es : List (Entry F)) (e : Entry F) → Among (e.0, Some e.1) (map whole es) → Among e es
  whole_picked [] e h = absurd h
  whole_picked (x ∷ es) e (inr h) = inr (whole_picked es e h)
  whole_picked (x ∷ es) e (inl q) =
      let a : x.0 ≡ e.0 = ap (λ (d : Delivered F). d.0) q in
      let t : Some x.1 ≡ Some e.1 = ap (λ (d : Delivered F). d.1) q in
      let b : x.1 ≡ e.1 = cc in
      inl (ap (λ (i : Id). let y : Entry F = (i, x.1) in y) a ∙ ap (λ f. let y : Entry F = (e.0, f) in y) b)

  module _ (me : Name) (w : group.World F) (o : Distinct w) (r : Consumer F) (i : Writes w r)
      (no_ack : r.machine.to_acknowledge ≡ []) (nothing : (id : Id) → Among id (ids_of (r.file ++ r.lines)) → Among id (pending_ids w.pending) → ⊥) where
    seen_once : Once (ids_of w.seen)
    seen_once = once_left (ids_of w.seen) (ids_of w.fresh) (subst Once (ids_both w.seen w.fresh) o)

    fresh_once : Once (ids_of w.fresh)
    fresh_once = once_right (ids_of w.seen) (ids_of w.fresh) (subst Once (ids_both w.seen w.fresh) o)

    asking : (n : ℕ) (pick : Id → Bool) (next : Id) (p : Phase)
        → Coming (after_asking me n pick next p w) r (answer_for me n pick next p w)
    asking n pick next (own behind) =
        let p : Entry F → Bool = λ e. pick e.0 && listed (own_ids me w.pending) e.0 in
        let es : List (Entry F) = filter p w.seen in
        record {
          ready = no_ack;
          of_seen = λ e h. among_filtered p e w.seen (picked w.deleted es e h);
          apart = λ e h k.
              nothing e.0 h (own_within me w.pending e.0 (listed_among (own_ids me w.pending) e.0
              (and_right (pick e.0) _ (filtered_passes p e w.seen (picked w.deleted es e k)))));
          once = subst Once (sym (outs_as w.deleted es)) (once_filter p w.seen seen_once);
        }
    asking n pick next (claiming from) =
        let p : Entry F → Bool = λ e. pick e.0 && (listed (pending_ids w.pending) e.0 && not (listed w.deleted e.0)) in
        let es : List (Entry F) = filter p w.seen in
        record {
          ready = no_ack;
          of_seen = λ e h. among_filtered p e w.seen (whole_picked es e h);
          apart = λ e h k.
              nothing e.0 h (listed_among (pending_ids w.pending) e.0
              (and_left (listed (pending_ids w.pending) e.0) _
              (and_right (pick e.0) _ (filtered_passes p e w.seen (whole_picked es e k)))));
          once = subst Once (sym (outs_whole es)) (once_filter p w.seen seen_once);
        }
    asking n pick next (reading rounds) =
        let es : List (Entry F) = given w.deleted n w.fresh in
        record {
          ready = no_ack;
          of_seen = λ e h. among_right e w.seen (passed w.deleted n w.fresh)
              (given_passed w.deleted n w.fresh e (whole_picked es e h));
          apart = λ e h k.
              not_fresh w o e.0 (id_seen w r i e.0 h)
              (given_fresh w n e.0 (id_among e es (whole_picked es e k)));
          once = subst Once (sym (outs_whole es)) (once_given w.deleted n w.fresh fresh_once);
        }

  asks_for : (me : Name) (n : ℕ) (pick : Id → Bool) (next : Id) (w : World F) → Distinct w.stream
      → Writes w.stream w.consumer → (b : Bool) → is_idle w.consumer ≡ b
      → Writes (if b then asked me n pick next w else w).stream (if b then asked me n pick next w else w).consumer
  asks_for me n pick next w o i false q = i
  asks_for me n pick next w o i true q =
      let r : Consumer F = w.consumer in
      let p : Phase = r.machine.phase in
      let idle : (is_empty r.machine.to_commit && is_empty r.machine.to_acknowledge) ≡ true =
      and_right (is_none r.answer) _ q in
      let no_commit : r.machine.to_commit ≡ [] = empty_if_none r.machine.to_commit (and_left (is_empty r.machine.to_commit) _ idle) in
      let no_ack : r.machine.to_acknowledge ≡ [] =
      empty_if_none r.machine.to_acknowledge (and_right (is_empty r.machine.to_commit) _ idle) in
      let nothing : (id : Id) → Among id (ids_of (r.file ++ r.lines)) → Among id (pending_ids w.stream.pending) → ⊥
      = λ id h k.
      (let P : List Id → Type 0 = λ l. Among id l in
      elim (file_or_line r id h) [
        | inl a ↦ subst P no_ack (i.held id a k)
        | inr a ↦ subst P no_commit (i.done id a)
      ]) in
      let v : group.World F = after_asking me n pick next p w.stream in
      let j : Writes v r = stays v w.stream r (calm_served me n pick next p w.stream o) i in
      let c = asking me w.stream o r i no_ack nothing n pick next p in
      record {
        of_seen = j.of_seen;
        once = j.once;
        held = j.held;
        done = j.done;
        coming = record { ready = c.ready; of_seen = c.of_seen; apart = c.apart; once = c.once };
        newest = j.newest;
        either = j.either;
      }

  acks_now : (me : Name) (w : World F) → Writes w.stream w.consumer → (b : Bool)
      → Writes (if b then acknowledges me w else w).stream (if b then acknowledges me w else w).consumer
  acks_now me w i false = i
  acks_now me w i true = acking me w i

module _ {F : Type 0} (s : Setting F) where
  abbrev pub Good : World F → Type 0
  Good w = AddedIn w.stream × Writes w.stream w.consumer

  pub writes : (w : World F) → Good w → (e : Event F) → Writes (happens s w e).stream (happens s w e).consumer
  writes w g (Send n) = g.1
  writes w g (Arrive b) =
      stays (filled_by b w.stream w.producer.sent) w.stream w.consumer (calm_filled b w.stream w.producer.sent) g.1
  writes w g (Arrive_late k b) =
      stays (filled_by b w.stream (item w.producer.late k)) w.stream w.consumer
      (calm_filled b w.stream (item w.producer.late k)) g.1
  writes w g Hear = g.1
  writes w g Break = g.1
  writes w g (Ask n pick next) = asks_for s.name n pick next w g.0.once g.1 (is_idle w.consumer) refl
  writes w g (Take vs) = taking w.stream w.consumer vs g.1 w.consumer.answer refl
  writes w g Sync = syncing w.stream w.consumer g.1 (is_none w.consumer.answer && is_empty w.consumer.machine.to_acknowledge) refl
  writes w g Acknowledge_now = acks_now s.name w g.1 (is_none w.consumer.answer)
  writes w g Acknowledge_later =
      stays (happens s w Acknowledge_later).stream w.stream w.consumer (λ e h. h, λ id h k. k) g.1
  writes w g Reconnect = reconnecting w.stream w.consumer g.1
  writes w g (Restart every kept more) = restarting w.stream w.consumer every kept more g.1
  writes w g (Else e) =
      stays (group.happens w.stream e) w.stream w.consumer (calm_else w.stream g.0.once e) g.1

  good_over : (es : List (Event F)) (w : World F) → Good w → Good (run s es w)
  good_over [] w g = g
  good_over (e ∷ es) w g = good_over es (happens s w e) (added_then s w e g.0, writes w g e)

  pub at_start : Good first_world
  at_start = (
    none_added,
    record {
      of_seen = λ e h. absurd h;
      once = tt;
      held = λ id h k. absurd h;
      done = λ id h. absurd h;
      coming = tt;
      newest = record { older = []; newer = []; all = refl; count = refl; held = λ id h k. absurd h };
      either = inr refl;
    },
  )

  pub always_good : (es : List (Event F)) → Good (after s es)
  always_good es = good_over es first_world at_start

pub file_once : {F : Type 0} → FileOnce F
file_once s es =
    let r = (after s es).consumer in
    once_left (ids_of r.file) (ids_of r.lines) (subst Once (ids_both r.file r.lines) (always_good s es).1.once)

pub file_of_log : {F : Type 0} → FileIsOfLog F
file_of_log s es e h =
    let w = after s es in
    among_left e w.stream.seen w.stream.fresh
    ((always_good s es).1.of_seen e (among_left e w.consumer.file w.consumer.lines h))

pub log_has_each_once : {F : Type 0} → LogOnce F
log_has_each_once = has_each_once
