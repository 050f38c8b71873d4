-- What each of several consumers has is pending for none but it, and no other has it.
use Rattle.std.proofs.Common.{◌≡◌, ◌⊎◌, inl, inr, refl, sym, ap, subst, ◌∙◌, ℕ, ◌+◌, Bool, true, false, not, ◌&&◌, List, []}
use Rattle.std.proofs.Common.{◌∷◌, ◌++◌, filter, take, drop, append_assoc, Option, Some, None, if◌then◌else◌}
use Rattle.std.specs.Option.{is_none}
use Rattle.std.specs.Str.{bytes_eq}
use Rattle.std.proofs.lemmas.Slice.Eq.{bytes_eq-Decides}
use Rattle.std.proofs.lemmas.List.{take-append-drop}
use Rattle.model_server.specs.Group.Worker.{Id, Entry, Verdict, Phase, own, claiming, reading, Answer}
use Rattle.model_server.specs.Group.Worker.{entries_in, handled_in}
use Rattle.model_server.specs.Group.Group.{Name, Pending, Numbers, id_text, is_below, fits, listed, ids_of, pending_ids, given}
use Rattle.model_server.specs.Group.Group.{passed, newly_pending, raised, raised_one, claimed, claimed_one}
use Rattle.model_server.specs.Group.Group.{pending_after}
use Rattle.model_server.specs.Group.Group.{own as own_ids}
use Rattle.model_server.specs.Group.World.{Reply, with_one, item, appended, comes, ack_comes, log_of, Append, Delete, Read}
use Rattle.model_server.specs.Group.World.{Reread, Claim, Claim_ids, Comes, Commit, Acknowledge, Ack_comes, Go_back, Crash}
use Rattle.model_server.specs.Group.World as group
use Rattle.model_server.specs.Group.Law.{Among}
use Rattle.model_server.proofs.GroupLemmas.Among.{among_left, among_right, among_split, among_of_map, among_filtered, filtered_passes}
use Rattle.model_server.proofs.GroupLemmas.Among.{listed_among, and_left, and_right}
use Rattle.model_server.proofs.GroupLemmas.Steps.{given_passed, raised_ids, ids_append}
use Rattle.model_server.specs.Once.Feed.{Numbered, Request, ask_last, batch}
use Rattle.model_server.specs.Once.Producer.{add_all, filled_by}
use Rattle.model_server.specs.Once.Consumer.{Consumer, is_empty, is_idle, after_asking, answer_for, takes, syncs, restarts}
use Rattle.model_server.specs.Once.Consumer.{reconnects}
use Rattle.model_server.specs.Once.World.{Setting, Event, Send, Arrive, Arrive_late, Hear, Break, Ask, Take, Sync}
use Rattle.model_server.specs.Once.World.{Acknowledge_now, Acknowledge_later, Reconnect, Restart, Else, asked, acknowledges}
use Rattle.model_server.specs.Once.Law.{Once}
use Rattle.model_server.specs.Once.Many.{Many, world_of, happens_to, on_the_way, Has, FairAsk}
use Rattle.model_server.specs.Once.Many.{FairElse, IsFair}
use Rattle.model_server.proofs.OnceLemmas.Fill.{append_nil}
use Rattle.model_server.proofs.OnceLemmas.Apart.{once_right, once_both, once_given, ids_both, id_among}
use Rattle.model_server.proofs.OnceLemmas.Apart.{outs_whole, outs_as, handled_out}
use Rattle.model_server.proofs.OnceLemmas.Write.{left_over, claimed_within, new_ids, Distinct, not_fresh, given_fresh}

pending_id : (ps : List Pending) (p : Pending) → Among p ps → Among p.id (pending_ids ps)
pending_id [] p h = absurd h
pending_id (x ∷ ps) p (inl e) = inl (ap (λ (y : Pending). y.id) e)
pending_id (x ∷ ps) p (inr h) = inr (pending_id ps p h)

-- pending entries of one id are the same, if no id is pending twice
same_pending : (ps : List Pending) → Once (pending_ids ps) → (p q : Pending) → Among p ps → Among q ps → p.id ≡ q.id
    → p ≡ q
same_pending [] o p q h k e = absurd h
same_pending (x ∷ ps) o p q (inl h) (inl k) e = sym h ∙ k
same_pending (x ∷ ps) o p q (inl h) (inr k) e =
    let P : Id → Type 0 = λ i. Among i (pending_ids ps) in
    absurd (o.0 (subst P (sym (ap (λ (y : Pending). y.id) h ∙ e)) (pending_id ps q k)))
same_pending (x ∷ ps) o p q (inr h) (inl k) e =
    let P : Id → Type 0 = λ i. Among i (pending_ids ps) in
    absurd (o.0 (subst P (e ∙ sym (ap (λ (y : Pending). y.id) k)) (pending_id ps p h)))
same_pending (x ∷ ps) o p q (inr h) (inr k) e = same_pending ps o.1 p q h k e

once_after : (ids : List Id) (ps : List Pending) → Once (pending_ids ps) → Once (pending_ids (pending_after ids ps))
once_after ids [] h = tt
once_after ids (p ∷ ps) h =
    let case : (b : Bool) → Once (pending_ids (if b then p ∷ pending_after ids ps else pending_after ids ps))
    = λ b. elim b as (λ b. Once (pending_ids (if b then p ∷ pending_after ids ps else pending_after ids ps)))
    [ true ↦ (λ a. h.0 (left_over ids ps p.id a).0, once_after ids ps h.1) | false ↦ once_after ids ps h.1 ] in
    case (not (listed ids p.id))

-- an entry that is redelivered has its id and its consumer
raised_same : (pick : Id → Bool) (name : Name) (deleted : List Id) (x : Pending)
    → ((raised_one pick name deleted x).id ≡ x.id) × ((raised_one pick name deleted x).consumer ≡ x.consumer)
raised_same pick name deleted x =
    let case : (b : Bool) → ((if b then record x { count = x.count + 1 } else x).id ≡ x.id)
    × ((if b then record x { count = x.count + 1 } else x).consumer ≡ x.consumer)
    = λ b. elim b as (λ b. ((if b then record x { count = x.count + 1 } else x).id ≡ x.id)
    × ((if b then record x { count = x.count + 1 } else x).consumer ≡ x.consumer))
    [ true ↦ (refl, refl) | false ↦ (refl, refl) ] in
    case (pick x.id && (bytes_eq x.consumer name && not (listed deleted x.id)))

record Raised (ps : List Pending) (p : Pending) : Type 0 where
  x : Pending
  within : Among x ps
  id : x.id ≡ p.id
  consumer : x.consumer ≡ p.consumer

raised_from : (pick : Id → Bool) (name : Name) (deleted : List Id) (ps : List Pending) (p : Pending)
    → Among p (raised pick name deleted ps) → Raised ps p
raised_from pick name deleted ps p h =
    let s = among_of_map (raised_one pick name deleted) p ps h in
    let e = raised_same pick name deleted s.x in
    record {
      x = s.x;
      within = s.within;
      id = sym e.0 ∙ ap (λ (y : Pending). y.id) s.is;
      consumer = sym e.1 ∙ ap (λ (y : Pending). y.consumer) s.is;
    }

-- what a claim leaves pending was so and was not picked, or was picked and goes to the one that claims
abbrev Claimed : (Id → Bool) → Name → List Pending → Pending → Type 0
Claimed pick name ps p =
    ((pick p.id ≡ false) × Among p ps)
    ⊎ ((pick p.id ≡ true) × (Among p.id (pending_ids ps) × (name ≡ p.consumer)))

claimed_more : (pick : Id → Bool) (name : Name) (q : Pending) (ps : List Pending) (p : Pending) → Claimed pick name ps p
    → Claimed pick name (q ∷ ps) p
claimed_more pick name q ps p (inl a) = inl (a.0, inr a.1)
claimed_more pick name q ps p (inr a) = inr (a.0, (inr a.1.0, a.1.1))

one_from : (more : ℕ) (pick : Id → Bool) (name : Name) (deleted : List Id) (q : Pending) (ps : List Pending) (p : Pending)
    → Among p (claimed_one more pick name deleted q) → Claimed pick name (q ∷ ps) p
one_from more pick name deleted q ps p h =
    let r : Pending = record { id = q.id; consumer = name; count = q.count + more } in
    let taken : (c : Bool) → pick q.id ≡ true → Among p (if c then [] else r ∷ []) → Claimed pick name (q ∷ ps) p
    = λ c. elim c as (λ c. pick q.id ≡ true → Among p (if c then [] else r ∷ []) → Claimed pick name (q ∷ ps) p) [
      | true ↦ λ k a. absurd a
      | false ↦ λ k a. elim a [
        | inl e ↦
            (let i : q.id ≡ p.id = ap (λ (y : Pending). y.id) e in
            inr (ap pick (sym i) ∙ k, (inl i, ap (λ (y : Pending). y.consumer) e)))
        | inr z ↦ absurd z
      ]
    ] in
    let case : (b : Bool) → pick q.id ≡ b
    → Among p (if b then (if listed deleted q.id then [] else r ∷ []) else q ∷ []) → Claimed pick name (q ∷ ps) p
    = λ b. elim b as (λ b. pick q.id ≡ b
    → Among p (if b then (if listed deleted q.id then [] else r ∷ []) else q ∷ []) → Claimed pick name (q ∷ ps) p) [
      | true ↦ λ k a. taken (listed deleted q.id) k a
      | false ↦ λ k a. elim a [
        | inl e ↦ inl (ap (λ (y : Pending). pick y.id) (sym e) ∙ k, inl e)
        | inr z ↦ absurd z
      ]
    ] in
    case (pick q.id) refl h

claimed_from : (more : ℕ) (pick : Id → Bool) (name : Name) (deleted : List Id) (ps : List Pending) (p : Pending)
    → Among p (claimed more pick name deleted ps) → Claimed pick name ps p
claimed_from more pick name deleted [] p h = absurd h
claimed_from more pick name deleted (q ∷ ps) p h =
    elim (among_split p (claimed_one more pick name deleted q) (claimed more pick name deleted ps) h) [
      | inl a ↦ one_from more pick name deleted q ps p a
      | inr a ↦ claimed_more pick name q ps p (claimed_from more pick name deleted ps p a)
    ]

-- of one it leaves one at most
one_left : (more : ℕ) (pick : Id → Bool) (name : Name) (deleted : List Id) (q : Pending)
    → Once (pending_ids (claimed_one more pick name deleted q))
    × ((id : Id) → Among id (pending_ids (claimed_one more pick name deleted q)) → q.id ≡ id)
one_left more pick name deleted q =
    let r : Pending = record { id = q.id; consumer = name; count = q.count + more } in
    let Q : List Pending → Type 0 = λ l. Once (pending_ids l) × ((id : Id) → Among id (pending_ids l) → q.id ≡ id) in
    let none : Q [] = (tt, λ id h. absurd h) in
    let taken : (c : Bool) → Q (if c then [] else r ∷ []) = λ c. elim c as (λ c. Q (if c then [] else r ∷ []))
    [ true ↦ none | false ↦ ((λ a. absurd a, tt), λ id h. elim h [ inl e ↦ e | inr z ↦ absurd z ]) ] in
    let case : (b : Bool) → Q (if b then (if listed deleted q.id then [] else r ∷ []) else q ∷ [])
    = λ b. elim b as (λ b. Q (if b then (if listed deleted q.id then [] else r ∷ []) else q ∷ [])) [
      | true ↦ taken (listed deleted q.id)
      | false ↦ ((λ a. absurd a, tt), λ id h. elim h [ inl e ↦ e | inr z ↦ absurd z ])
    ] in
    case (pick q.id)

once_claimed : (more : ℕ) (pick : Id → Bool) (name : Name) (deleted : List Id) (ps : List Pending)
    → Once (pending_ids ps) → Once (pending_ids (claimed more pick name deleted ps))
once_claimed more pick name deleted [] h = tt
once_claimed more pick name deleted (q ∷ ps) h =
    let here = one_left more pick name deleted q in
    let P : Id → Type 0 = λ i. Among i (pending_ids ps) in
    subst Once (sym (ids_append (claimed_one more pick name deleted q) (claimed more pick name deleted ps)))
    (once_both (pending_ids (claimed_one more pick name deleted q)) (pending_ids (claimed more pick name deleted ps))
    here.0 (once_claimed more pick name deleted ps h.1)
    (λ id a b. h.0 (subst P (sym (here.1 id a)) (claimed_within more pick name deleted ps id b))))

module _ {F : Type 0} where
  pub record Held (seen : List (Entry F)) (ps : List Pending) (cs : Name → Consumer F) : Type 0 where
    pub of_seen : (d : Name) (id : Id) → Has (cs d) id → Among id (ids_of seen)
    pub owner : (p : Pending) → Among p ps → (d : Name) → Has (cs d) p.id → d ≡ p.consumer
    pub one : (id : Id) (a b : Name) → Has (cs a) id → Has (cs b) id → a ≡ b
    pub pending : (p : Pending) → Among p ps → Among p.id (ids_of seen)
    pub once : Once (pending_ids ps)

  acked_held : (ids : List Id) (seen : List (Entry F)) (ps : List Pending) (cs : Name → Consumer F) → Held seen ps cs
      → Held seen (pending_after ids ps) cs
  acked_held ids seen ps cs i = record {
    of_seen = i.of_seen;
    owner = λ p h. i.owner p (among_filtered (λ p. not (listed ids p.id)) p ps h);
    one = i.one;
    pending = λ p h. i.pending p (among_filtered (λ p. not (listed ids p.id)) p ps h);
    once = once_after ids ps i.once;
  }

  raised_held : (pick : Id → Bool) (name : Name) (deleted : List Id) (seen : List (Entry F)) (ps : List Pending)
      (cs : Name → Consumer F) → Held seen ps cs → Held seen (raised pick name deleted ps) cs
  raised_held pick name deleted seen ps cs i = record {
    of_seen = i.of_seen;
    owner = λ p h d m.
        let r = raised_from pick name deleted ps p h in
        let P : Id → Type 0 = λ x. Has (cs d) x in
        i.owner r.x r.within d (subst P (sym r.id) m) ∙ r.consumer;
    one = i.one;
    pending = λ p h.
        let r = raised_from pick name deleted ps p h in
        let P : Id → Type 0 = λ x. Among x (ids_of seen) in
        subst P r.id (i.pending r.x r.within);
    once = subst Once (sym (raised_ids pick name deleted ps)) i.once;
  }

  -- a claim takes nothing that another consumer has
  abbrev Fairly : (Id → Bool) → Name → List Pending → (Name → Consumer F) → Type 0
  Fairly pick name ps cs = (id : Id) → pick id ≡ true → Among id (pending_ids ps) → (other : Name)
      → Has (cs other) id → other ≡ name

  pending_seen : (seen : List (Entry F)) (ps : List Pending) (cs : Name → Consumer F) → Held seen ps cs → (id : Id)
      → Among id (pending_ids ps) → Among id (ids_of seen)
  pending_seen seen ps cs i id h =
      let s = among_of_map (λ (p : Pending). p.id) id ps h in
      let P : Id → Type 0 = λ x. Among x (ids_of seen) in
      subst P s.is (i.pending s.x s.within)

  claimed_held : (more : ℕ) (pick : Id → Bool) (name : Name) (deleted : List Id) (seen : List (Entry F))
      (ps : List Pending) (cs : Name → Consumer F) → Fairly pick name ps cs → Held seen ps cs
      → Held seen (claimed more pick name deleted ps) cs
  claimed_held more pick name deleted seen ps cs fair i = record {
    of_seen = i.of_seen;
    owner = λ p h d m. elim (claimed_from more pick name deleted ps p h) [
      | inl a ↦ i.owner p a.1 d m
      | inr a ↦ fair p.id a.0 a.1.0 d m ∙ a.1.1
    ];
    one = i.one;
    pending = λ p h. elim (claimed_from more pick name deleted ps p h) [
      | inl a ↦ i.pending p a.1
      | inr a ↦ pending_seen seen ps cs i p.id a.1.0
    ];
    once = once_claimed more pick name deleted ps i.once;
  }

  seen_more : (seen more : List (Entry F)) (id : Id) → Among id (ids_of seen) → Among id (ids_of (seen ++ more))
  seen_more seen more id h =
      let P : List Id → Type 0 = λ l. Among id l in
      subst P (sym (ids_both seen more)) (among_left id (ids_of seen) (ids_of more) h)

  given_seen : (w : group.World F) (n : ℕ) (id : Id) → Among id (ids_of (given w.deleted n w.fresh))
      → Among id (ids_of (w.seen ++ passed w.deleted n w.fresh))
  given_seen w n id h =
      let s = among_of_map (λ (e : Entry F). e.0) id (given w.deleted n w.fresh) h in
      let P : Id → Type 0 = λ i. Among i (ids_of (w.seen ++ passed w.deleted n w.fresh)) in
      subst P s.is (id_among s.x (w.seen ++ passed w.deleted n w.fresh)
      (among_right s.x w.seen (passed w.deleted n w.fresh) (given_passed w.deleted n w.fresh s.x s.within)))

  -- what becomes pending
  record Newly (name : Name) (es : List (Entry F)) (p : Pending) : Type 0 where
    id : Among p.id (ids_of es)
    consumer : name ≡ p.consumer

  newly_from : (name : Name) (es : List (Entry F)) (p : Pending) → Among p (newly_pending name es) → Newly name es p
  newly_from name es p h =
      let f : Entry F → Pending = λ e. record { id = e.0; consumer = name; count = 1 } in
      let s = among_of_map f p es h in
      let P : Id → Type 0 = λ i. Among i (ids_of es) in
      record {
        id = subst P (ap (λ (y : Pending). y.id) s.is) (id_among s.x es s.within);
        consumer = ap (λ (y : Pending). y.consumer) s.is;
      }

  read_held : (w : group.World F) → Distinct w → (name : Name) (n : ℕ) (cs : Name → Consumer F)
      → Held w.seen w.pending cs
      → Held (w.seen ++ passed w.deleted n w.fresh) (w.pending ++ newly_pending name (given w.deleted n w.fresh)) cs
  read_held w o name n cs i =
      let es : List (Entry F) = given w.deleted n w.fresh in
      let more : List (Entry F) = passed w.deleted n w.fresh in
      let news : List Pending = newly_pending name es in
      let L : List Id → Id → Type 0 = λ l id. Among id l in
      record {
        of_seen = λ d id m. seen_more w.seen more id (i.of_seen d id m);
        owner = λ p h d m. elim (among_split p w.pending news h) [
          | inl a ↦ i.owner p a d m
          | inr a ↦ absurd (not_fresh w o p.id (i.of_seen d p.id m) (given_fresh w n p.id (newly_from name es p a).id))
        ];
        one = i.one;
        pending = λ p h. elim (among_split p w.pending news h) [
          | inl a ↦ seen_more w.seen more p.id (i.pending p a)
          | inr a ↦ given_seen w n p.id (newly_from name es p a).id
        ];
        once = subst Once (sym (ids_append w.pending news)) (once_both (pending_ids w.pending) (pending_ids news) i.once
            (subst Once (sym (new_ids name es)) (once_given w.deleted n w.fresh
            (once_right (ids_of w.seen) (ids_of w.fresh) (subst Once (ids_both w.seen w.fresh) o))))
            (λ id a b. not_fresh w o id (pending_seen w.seen w.pending cs i id a)
            (given_fresh w n id (subst (λ l. L l id) (new_ids name es) b))));
      }

  -- what a consumer gets: no other has it, and it is pending for none but this one
  abbrev New : List (Entry F) → List Pending → (Name → Consumer F) → Name → Id → Type 0
  New seen ps cs c id =
      Among id (ids_of seen)
      × (((d : Name) → Has (cs d) id → d ≡ c) × ((p : Pending) → Among p ps → p.id ≡ id → c ≡ p.consumer))

  had : (seen : List (Entry F)) (ps : List Pending) (cs : Name → Consumer F) (c : Name) (k : Consumer F)
      → ((id : Id) → Has k id → Has (cs c) id ⊎ New seen ps cs c id) → (d : Name) (id : Id)
      → Has (with_one cs c k d) id → Has (cs d) id ⊎ ((c ≡ d) × New seen ps cs c id)
  had seen ps cs c k f d id m =
      let case : (b : Bool) → bytes_eq c d ≡ b → Has (if b then k else cs d) id
      → Has (cs d) id ⊎ ((c ≡ d) × New seen ps cs c id)
      = λ b. elim b as (λ b. bytes_eq c d ≡ b → Has (if b then k else cs d) id
      → Has (cs d) id ⊎ ((c ≡ d) × New seen ps cs c id)) [
        | true ↦ λ q h.
            let e : c ≡ d = (bytes_eq-Decides c d).0 q in
            let P : Name → Type 0 = λ n. Has (cs n) id in
            elim (f id h) [ inl x ↦ inl (subst P e x) | inr n ↦ inr (e, n) ]
        | false ↦ λ q h. inl h
      ] in
      case (bytes_eq c d) refl m

  got_held : (seen : List (Entry F)) (ps : List Pending) (cs : Name → Consumer F) (c : Name) (k : Consumer F)
      → ((id : Id) → Has k id → Has (cs c) id ⊎ New seen ps cs c id) → Held seen ps cs → Held seen ps (with_one cs c k)
  got_held seen ps cs c k f i =
      let h = had seen ps cs c k f in
      record {
        of_seen = λ d id m. elim (h d id m) [ inl x ↦ i.of_seen d id x | inr n ↦ n.1.0 ];
        owner = λ p a d m. elim (h d p.id m) [ inl x ↦ i.owner p a d x | inr n ↦ sym n.0 ∙ n.1.1.1 p a refl ];
        one = λ id a b m n. elim (h a id m) [
          | inl x ↦ elim (h b id n) [ inl y ↦ i.one id a b x y | inr y ↦ y.1.1.0 a x ∙ y.0 ]
          | inr x ↦ elim (h b id n) [ inl y ↦ sym x.0 ∙ sym (x.1.1.0 b y) | inr y ↦ sym x.0 ∙ y.0 ]
        ];
        pending = i.pending;
        once = i.once;
      }

  -- a consumer has no more than before
  kept_held : (seen : List (Entry F)) (ps : List Pending) (cs : Name → Consumer F) (c : Name) (k : Consumer F)
      → ((id : Id) → Has k id → Has (cs c) id) → Held seen ps cs → Held seen ps (with_one cs c k)
  kept_held seen ps cs c k f i = got_held seen ps cs c k (λ id m. inl (f id m)) i

  same_held : (seen : List (Entry F)) (ps : List Pending) (cs : Name → Consumer F) (c : Name) → Held seen ps cs
      → Held seen ps (with_one cs c (cs c))
  same_held seen ps cs c i = kept_held seen ps cs c (cs c) (λ id m. m) i

  -- a consumer requests entries
  own_held : (w : group.World F) (name : Name) (pick : Id → Bool) (cs : Name → Consumer F)
      → Held w.seen w.pending cs
      → Held w.seen (raised pick name w.deleted w.pending)
      (with_one cs name (record (cs name) { answer = Some (answer_for name 0 pick [] (own []) w) }))
  own_held w name pick cs i =
      let ps : List Pending = w.pending in
      let p : Entry F → Bool = λ e. pick e.0 && listed (own_ids name ps) e.0 in
      let es : List (Entry F) = filter p w.seen in
      let P : List Id → Id → Type 0 = λ l id. Among id l in
      let new : (id : Id) → Among id (ids_of es) → New w.seen (raised pick name w.deleted ps) cs name id
      = λ id h.
      (let s = among_of_map (λ (e : Entry F). e.0) id es h in
      let seen : Among id (ids_of w.seen) =
      subst (λ x. P (ids_of w.seen) x) s.is (id_among s.x w.seen (among_filtered p s.x w.seen s.within)) in
      let mine : Among s.x.0 (own_ids name ps) =
      listed_among (own_ids name ps) s.x.0 (and_right (pick s.x.0) _ (filtered_passes p s.x w.seen s.within)) in
      let f : Pending → Bool = λ q. bytes_eq q.consumer name in
      let q = among_of_map (λ (q : Pending). q.id) s.x.0 (filter f ps) mine in
      let within : Among q.x ps = among_filtered f q.x ps q.within in
      let is_mine : q.x.consumer ≡ name = (bytes_eq-Decides q.x.consumer name).0 (filtered_passes f q.x ps q.within) in
      let id_is : q.x.id ≡ id = q.is ∙ s.is in (
        seen,
        (
          λ d m. i.owner q.x within d (let Q : Id → Type 0 = λ x. Has (cs d) x in subst Q (sym id_is) m) ∙ is_mine,
          λ x a e.
              let r = raised_from pick name w.deleted ps x a in
              let same : r.x ≡ q.x = same_pending ps i.once r.x q.x r.within within (r.id ∙ (e ∙ sym id_is)) in
              sym is_mine ∙ (sym (ap (λ (y : Pending). y.consumer) same) ∙ r.consumer),
        ),
      )) in
      got_held w.seen (raised pick name w.deleted ps) cs name _
      (λ id m. elim m [
        | inl a ↦ inr (new id (subst (λ l. P l id) (outs_as w.deleted es) a))
        | inr a ↦ inl (inr a)
      ])
      (raised_held pick name w.deleted w.seen ps cs i)

  claiming_held : (w : group.World F) (name : Name) (pick : Id → Bool) (next : Id) (cs : Name → Consumer F)
      → Fairly pick name w.pending cs → Held w.seen w.pending cs
      → Held w.seen (claimed 1 pick name w.deleted w.pending)
      (with_one cs name (record (cs name) { answer = Some (answer_for name 0 pick next (claiming []) w) }))
  claiming_held w name pick next cs fair i =
      let ps : List Pending = w.pending in
      let p : Entry F → Bool = λ e. pick e.0 && (listed (pending_ids ps) e.0 && not (listed w.deleted e.0)) in
      let es : List (Entry F) = filter p w.seen in
      let P : List Id → Id → Type 0 = λ l id. Among id l in
      let new : (id : Id) → Among id (ids_of es) → New w.seen (claimed 1 pick name w.deleted ps) cs name id
      = λ id h.
      (let s = among_of_map (λ (e : Entry F). e.0) id es h in
      let passes = filtered_passes p s.x w.seen s.within in
      let seen : Among id (ids_of w.seen) =
      subst (λ x. P (ids_of w.seen) x) s.is (id_among s.x w.seen (among_filtered p s.x w.seen s.within)) in
      let picked : pick id ≡ true = ap pick (sym s.is) ∙ and_left (pick s.x.0) _ passes in
      let waits : Among id (pending_ids ps) = subst (λ x. P (pending_ids ps) x) s.is
      (listed_among (pending_ids ps) s.x.0 (and_left (listed (pending_ids ps) s.x.0) _ (and_right (pick s.x.0) _ passes))) in (
        seen,
        (
          λ d m. fair id picked waits d m,
          λ x a e. elim (claimed_from 1 pick name w.deleted ps x a) [
            | inl z ↦ absurd (let t : false ≡ true = sym z.0 ∙ (ap pick e ∙ picked) in cc)
            | inr z ↦ z.1.1
          ],
        ),
      )) in
      got_held w.seen (claimed 1 pick name w.deleted ps) cs name _
      (λ id m. elim m [
        | inl a ↦ inr (new id (subst (λ l. P l id) (outs_whole es) a))
        | inr a ↦ inl (inr a)
      ])
      (claimed_held 1 pick name w.deleted w.seen ps cs fair i)

  reading_held : (w : group.World F) → Distinct w → (name : Name) (n : ℕ) (cs : Name → Consumer F)
      → Held w.seen w.pending cs
      → Held (w.seen ++ passed w.deleted n w.fresh) (w.pending ++ newly_pending name (given w.deleted n w.fresh))
      (with_one cs name (record (cs name) { answer = Some (answer_for name n (λ id. true) [] (reading 0) w) }))
  reading_held w o name n cs i =
      let es : List (Entry F) = given w.deleted n w.fresh in
      let news : List Pending = newly_pending name es in
      let P : List Id → Id → Type 0 = λ l id. Among id l in
      let new : (id : Id) → Among id (ids_of es)
      → New (w.seen ++ passed w.deleted n w.fresh) (w.pending ++ news) cs name id
      = λ id h.
      (let fresh : Among id (ids_of w.fresh) = given_fresh w n id h in (
        given_seen w n id h,
        (
          λ d m. absurd (not_fresh w o id (i.of_seen d id m) fresh),
          λ x a e. elim (among_split x w.pending news a) [
            | inl z ↦ absurd (not_fresh w o id (subst (λ y. P (ids_of w.seen) y) e (i.pending x z)) fresh)
            | inr z ↦ (newly_from name es x z).consumer
          ],
        ),
      )) in
      got_held (w.seen ++ passed w.deleted n w.fresh) (w.pending ++ news) cs name _
      (λ id m. elim m [
        | inl a ↦ inr (new id (subst (λ l. P l id) (outs_whole es) a))
        | inr a ↦ inl (inr a)
      ])
      (read_held w o name n cs i)

  ask_held : (m : Many F) → Distinct m.stream → (name : Name) (n : ℕ) (pick : Id → Bool) (next : Id) (p : Phase)
      → FairAsk m name pick p → Held m.stream.seen m.stream.pending m.consumers
      → Held (after_asking name n pick next p m.stream).seen (after_asking name n pick next p m.stream).pending
      (with_one m.consumers name (record (m.consumers name) { answer = Some (answer_for name n pick next p m.stream) }))
  ask_held m o name n pick next (own behind) fair i = own_held m.stream name pick m.consumers i
  ask_held m o name n pick next (claiming from) fair i = claiming_held m.stream name pick next m.consumers fair i
  ask_held m o name n pick next (reading rounds) fair i = reading_held m.stream o name n m.consumers i

  -- what a consumer does by itself
  take_held : (seen : List (Entry F)) (ps : List Pending) (cs : Name → Consumer F) (c : Name) (vs : List Verdict)
      (o : Option (Answer F)) → (cs c).answer ≡ o → Held seen ps cs → Held seen ps (with_one cs c (takes vs o (cs c)))
  take_held seen ps cs c vs None q i = same_held seen ps cs c i
  take_held seen ps cs c vs (Some a) q i =
      let r : Consumer F = cs c in
      let new : List (Entry F) = handled_in (entries_in a) vs in
      let P : List Id → Id → Type 0 = λ l id. Among id l in
      kept_held seen ps cs c (takes vs (Some a) r)
      (λ id m. elim m [
        | inl z ↦ absurd z
        | inr z ↦ elim (among_split id (ids_of (r.file ++ r.lines)) (ids_of new)
            (subst (λ l. P l id) (ap ids_of (sym (append_assoc r.file r.lines new)) ∙ ids_both (r.file ++ r.lines) new) z)) [
              | inl x ↦ inr x
              | inr x ↦
                  (let Q : Option (Answer F) → Type 0 = λ o. Among id (on_the_way o) in
                  inl (subst Q (sym q) (handled_out (entries_in a) vs id x)))
            ]
      ])
      i

  sync_held : (seen : List (Entry F)) (ps : List Pending) (cs : Name → Consumer F) (c : Name) (b : Bool)
      → Held seen ps cs → Held seen ps (with_one cs c (if b then syncs (cs c) else cs c))
  sync_held seen ps cs c false i = same_held seen ps cs c i
  sync_held seen ps cs c true i =
      let r : Consumer F = cs c in
      let P : List (Entry F) → Id → Type 0 = λ l id. Among id (ids_of l) in
      kept_held seen ps cs c (syncs r)
      (λ id m. elim m [
        | inl z ↦ inl z
        | inr z ↦ inr (subst (λ l. P l id) (append_nil (r.file ++ r.lines)) z)
      ])
      i

  restart_held : (seen : List (Entry F)) (ps : List Pending) (cs : Name → Consumer F) (c : Name) (every kept more : ℕ)
      → Held seen ps cs → Held seen ps (with_one cs c (restarts every kept more (cs c)))
  restart_held seen ps cs c every kept more i =
      let r : Consumer F = cs c in
      let some : List (Entry F) = take kept r.lines in
      let P : List (Entry F) → Id → Type 0 = λ l id. Among id (ids_of l) in
      let all : (r.file ++ some) ++ drop kept r.lines ≡ r.file ++ r.lines =
      append_assoc r.file some (drop kept r.lines) ∙ ap (λ l. r.file ++ l) (take-append-drop kept r.lines) in
      kept_held seen ps cs c (restarts every kept more r)
      (λ id m. elim m [
        | inl z ↦ absurd z
        | inr z ↦ inr (subst (λ l. P l id) all
            (seen_more (r.file ++ some) (drop kept r.lines) id (subst (λ l. P l id) (append_nil (r.file ++ some)) z)))
      ])
      i

  reconnect_held : (seen : List (Entry F)) (ps : List Pending) (cs : Name → Consumer F) (c : Name)
      → Held seen ps cs → Held seen ps (with_one cs c (reconnects (cs c)))
  reconnect_held seen ps cs c i =
      kept_held seen ps cs c (reconnects (cs c)) (λ id m. elim m [ inl z ↦ absurd z | inr z ↦ inr z ]) i

  -- what the producer and others do
  appended_held : (w : group.World F) (cs : Name → Consumer F) (n : Numbers) (f : F) (b : Bool)
      → Held w.seen w.pending cs
      → Held (if b then record w { fresh = w.fresh ++ (id_text n, f) ∷ []; last = n } else w).seen
      (if b then record w { fresh = w.fresh ++ (id_text n, f) ∷ []; last = n } else w).pending cs
  appended_held w cs n f true i = i
  appended_held w cs n f false i = i

  batch_held : (b : List (Numbered F)) (w : group.World F) (cs : Name → Consumer F) → Held w.seen w.pending cs
      → Held (add_all w b).seen (add_all w b).pending cs
  batch_held [] w cs i = i
  batch_held (r ∷ rs) w cs i =
      batch_held rs (appended w r.0 r.1) cs (appended_held w cs r.0 r.1 (is_below w.last r.0 && fits r.0) i)

  filled_held : (executes : Bool) (w : group.World F) (o : Option (Request F)) (cs : Name → Consumer F)
      → Held w.seen w.pending cs → Held (filled_by executes w o).seen (filled_by executes w o).pending cs
  filled_held executes w None cs i = i
  filled_held executes w (Some ask_last) cs i = i
  filled_held true w (Some (batch b)) cs i = batch_held b w cs i
  filled_held false w (Some (batch b)) cs i = i

  deleted_held : (w : group.World F) (cs : Name → Consumer F) (id : Id) (b : Bool) → Held w.seen w.pending cs
      → Held (if b then record w { deleted = id ∷ w.deleted } else w).seen
      (if b then record w { deleted = id ∷ w.deleted } else w).pending cs
  deleted_held w cs id true i = i
  deleted_held w cs id false i = i

  comes_held : (w : group.World F) (cs : Name → Consumer F) (k : ℕ) (o : Option (Reply F)) (vs : List Verdict)
      → Held w.seen w.pending cs → Held (comes w k o vs).seen (comes w k o vs).pending cs
  comes_held w cs k None vs i = i
  comes_held w cs k (Some r) vs i = i

  late_held : (w : group.World F) (cs : Name → Consumer F) (o : Option (Name × List Id)) → Held w.seen w.pending cs
      → Held (ack_comes w o).seen (ack_comes w o).pending cs
  late_held w cs None i = i
  late_held w cs (Some a) i = acked_held a.1 w.seen w.pending cs i

  else_held : (m : Many F) → Distinct m.stream → (e : group.Event F) → FairElse m e
      → Held m.stream.seen m.stream.pending m.consumers
      → Held (group.happens m.stream e).seen (group.happens m.stream e).pending m.consumers
  else_held m o (Append n fields) fair i =
      appended_held m.stream m.consumers n fields (is_below m.stream.last n && fits n) i
  else_held m o (Delete id) fair i = deleted_held m.stream m.consumers id (listed (ids_of (log_of m.stream)) id) i
  else_held m o (Read c n) fair i = read_held m.stream o c n m.consumers i
  else_held m o (Reread c pick) fair i =
      raised_held pick c m.stream.deleted m.stream.seen m.stream.pending m.consumers i
  else_held m o (Claim c pick next) fair i =
      claimed_held 1 pick c m.stream.deleted m.stream.seen m.stream.pending m.consumers fair i
  else_held m o (Claim_ids c pick) fair i =
      claimed_held 0 pick c m.stream.deleted m.stream.seen m.stream.pending m.consumers fair i
  else_held m o (Comes k vs) fair i = comes_held m.stream m.consumers k (item m.stream.replies k) vs i
  else_held m o (Commit c) fair i = i
  else_held m o (Acknowledge c) fair i = i
  else_held m o (Ack_comes k) fair i = late_held m.stream m.consumers (item m.stream.acks k) i
  else_held m o (Go_back c) fair i = i
  else_held m o (Crash c every keeps ids) fair i = i

  asked_held : (m : Many F) → Distinct m.stream → (name : Name) (n : ℕ) (pick : Id → Bool) (next : Id)
      → FairAsk m name pick (m.consumers name).machine.phase → (b : Bool)
      → Held m.stream.seen m.stream.pending m.consumers
      → Held (if b then asked name n pick next (world_of m name) else world_of m name).stream.seen
      (if b then asked name n pick next (world_of m name) else world_of m name).stream.pending
      (with_one m.consumers name (if b then asked name n pick next (world_of m name) else world_of m name).consumer)
  asked_held m o name n pick next fair false i = same_held m.stream.seen m.stream.pending m.consumers name i
  asked_held m o name n pick next fair true i =
      ask_held m o name n pick next (m.consumers name).machine.phase fair i

  now_held : (m : Many F) (name : Name) (b : Bool) → Held m.stream.seen m.stream.pending m.consumers
      → Held (if b then acknowledges name (world_of m name) else world_of m name).stream.seen
      (if b then acknowledges name (world_of m name) else world_of m name).stream.pending
      (with_one m.consumers name (if b then acknowledges name (world_of m name) else world_of m name).consumer)
  now_held m name false i = same_held m.stream.seen m.stream.pending m.consumers name i
  now_held m name true i =
      let ids : List Id = (m.consumers name).machine.to_acknowledge in
      kept_held m.stream.seen (pending_after ids m.stream.pending) m.consumers name
      (acknowledges name (world_of m name)).consumer (λ id h. elim h [ inl z ↦ absurd z | inr z ↦ inr z ])
      (acked_held ids m.stream.seen m.stream.pending m.consumers i)

  abbrev pub HeldIn : Many F → Type 0
  HeldIn m = Held m.stream.seen m.stream.pending m.consumers

  -- each event keeps it
  pub holds : (s : Setting F) (m : Many F) → Distinct m.stream → (name : Name) (e : Event F) → IsFair m name e → HeldIn m
      → HeldIn (happens_to s m name e)
  holds s m o name (Send n) fair i = same_held m.stream.seen m.stream.pending m.consumers name i
  holds s m o name (Arrive b) fair i =
      let v : group.World F = filled_by b m.stream m.producer.sent in
      same_held v.seen v.pending m.consumers name (filled_held b m.stream m.producer.sent m.consumers i)
  holds s m o name (Arrive_late k b) fair i =
      let v : group.World F = filled_by b m.stream (item m.producer.late k) in
      same_held v.seen v.pending m.consumers name (filled_held b m.stream (item m.producer.late k) m.consumers i)
  holds s m o name Hear fair i = same_held m.stream.seen m.stream.pending m.consumers name i
  holds s m o name Break fair i = same_held m.stream.seen m.stream.pending m.consumers name i
  holds s m o name (Ask n pick next) fair i = asked_held m o name n pick next fair (is_idle (m.consumers name)) i
  holds s m o name (Take vs) fair i =
      take_held m.stream.seen m.stream.pending m.consumers name vs (m.consumers name).answer refl i
  holds s m o name Sync fair i =
      sync_held m.stream.seen m.stream.pending m.consumers name
      (is_none (m.consumers name).answer && is_empty (m.consumers name).machine.to_acknowledge) i
  holds s m o name Acknowledge_now fair i = now_held m name (is_none (m.consumers name).answer) i
  holds s m o name Acknowledge_later fair i = same_held m.stream.seen m.stream.pending m.consumers name i
  holds s m o name Reconnect fair i = reconnect_held m.stream.seen m.stream.pending m.consumers name i
  holds s m o name (Restart every kept more) fair i =
      restart_held m.stream.seen m.stream.pending m.consumers name every kept more i
  holds s m o name (Else e) fair i =
      let v : group.World F = group.happens m.stream e in
      same_held v.seen v.pending m.consumers name (else_held m o e fair i)
