-- The count of a pending entry is of that entry alone, if entries are redelivered one at a time.
use Rattle.std.proofs.Common.{◌≡◌, inl, inr, refl, sym, ap, ◌∙◌, subst, ℕ, ◌+◌, ◌≤◌, arith, Bool}
use Rattle.std.proofs.Common.{true, false, not, ◌&&◌, List, [], ◌∷◌, ◌++◌, filter, length, Option, Some, None}
use Rattle.std.proofs.Common.{if◌then◌else◌}
use Rattle.std.proofs.lemmas.Slice.Eq.{bytes_eq-Decides}
use Rattle.std.specs.Str.{bytes_eq}
use Rattle.model_server.specs.Group.Worker.{Id, Entry, Delivered, Verdict}
use Rattle.model_server.specs.Group.Group.{Name, Pending, Numbers, id_text, is_below, fits, listed, ids_of, own, given}
use Rattle.model_server.specs.Group.Group.{newly_pending, whole, as_it_is, reread, raised_one, claimed, claimed_one}
use Rattle.model_server.specs.Group.Group.{claim_answer, pending_ids}
use Rattle.model_server.specs.Group.World.{World, Reply, Event, Append, Delete, Read, Reread, Claim, Claim_ids, Comes, Commit}
use Rattle.model_server.specs.Group.World.{Acknowledge, Ack_comes, Go_back, Crash, item, comes, ack_comes, happens, run}
use Rattle.model_server.specs.Group.World.{whole_one, empty_world}
use Rattle.model_server.specs.Group.Law.{Among, times}
use Rattle.model_server.specs.Group.Alone.{again, alone, times_alone, OneAtATime, EachIsCountedAlone}
use Rattle.model_server.proofs.GroupLemmas.Among.{among_left, among_right, among_split, among_map, among_of_map, among_filtered}
use Rattle.model_server.proofs.GroupLemmas.Among.{among_filter, and_left, and_right}
use Rattle.model_server.proofs.GroupLemmas.Steps.{given_passed}

among_listed : (ids : List Id) (id : Id) → Among id ids → listed ids id ≡ true
among_listed [] id h = absurd h
among_listed (x ∷ xs) id (inl q) = ap (λ t. if t then true else listed xs id) ((bytes_eq-Decides x id).1 q)
among_listed (x ∷ xs) id (inr h) =
    let case : (b : Bool) → (if b then true else listed xs id) ≡ true
    = λ b. elim b as (λ v. (if v then true else listed xs id) ≡ true)
    [ true ↦ refl | false ↦ among_listed xs id h ] in
    case (bytes_eq x id)

itself : (id : Id) → times id (id ∷ []) ≡ 1
itself id = ap (λ b. (if b then 1 else 0) + 0) ((bytes_eq-Decides id id).1 refl)

both : (a b : Bool) → a ≡ true → b ≡ true → (a && b) ≡ true
both a b p q = ap (λ v. v && b) p ∙ q

not_false : (b : Bool) → not b ≡ true → b ≡ false
not_false true h = absurd (let t : false ≡ true = h in cc)
not_false false h = refl

-- one that a claim leaves is of one that was pending
pub record Origin (more : ℕ) (pick : Id → Bool) (c : Name) (deleted : List Id) (ps : List Pending) (p : Pending)
    : Type 0 where
  pub was : Pending
  pub within : Among was ps
  pub left : Among p (claimed_one more pick c deleted was)

origin : (more : ℕ) (pick : Id → Bool) (c : Name) (deleted : List Id) (ps : List Pending) (p : Pending)
    → Among p (claimed more pick c deleted ps) → Origin more pick c deleted ps p
origin more pick c deleted [] p h = absurd h
origin more pick c deleted (q ∷ ps) p h =
    elim (among_split p (claimed_one more pick c deleted q) (claimed more pick c deleted ps) h) [
      | inl a ↦ record { was = q; within = inl refl; left = a }
      | inr a ↦ let o = origin more pick c deleted ps p a in
          record { was = o.was; within = inr o.within; left = o.left }
    ]

module _ {F : Type 0} where
  -- an entry with its fields, among one at most that are redelivered, came alone
  is_alone : (id : Id) (f : F) (ds : List (Delivered F)) → length ds ≤ 1 → Among (id, Some f) ds → alone id ds ≡ 1
  is_alone id f [] le h = absurd h
  is_alone id f (d ∷ []) le (inl e) =
      let P : Delivered F → Type 0 = λ x. times id (whole_one x.0 x.1) ≡ 1 in subst P (sym e) (itself id)
  is_alone id f (d ∷ []) le (inr h) = absurd h
  is_alone id f (d ∷ e ∷ ds) le h = absurd (omega (arith, le))

  -- each pending entry was read, and was delivered at most this number of times
  pub record Counted (so_often : Id → ℕ) (w : World F) : Type 0 where
    pub was_read : (p : Pending) → Among p w.pending → Among p.id (ids_of w.seen)
    pub count : (p : Pending) → Among p w.pending → p.count ≤ 1 + so_often p.id

  -- what was delivered in a step, as often as before or once more
  abbrev pub Next : (Id → ℕ) → List (Delivered F) → Id → ℕ
  Next k ds id = k id + alone id ds

  -- one of the pending entries, after a step with this reply
  pub record Keeps (k : Id → ℕ) (ds : List (Delivered F)) (w : World F) (p : Pending) : Type 0 where
    pub was_read : Among p.id (ids_of w.seen)
    pub count : p.count ≤ 1 + (k p.id + alone p.id ds)

  -- one that is as it was
  as_before : (k : Id → ℕ) (ds : List (Delivered F)) (w : World F) → Counted k w → (p : Pending)
      → Among p w.pending → Keeps k ds w p
  as_before k ds w c p h = record {
    was_read = c.was_read p h;
    count = omega (arith, c.count p h);
  }

  -- one that came alone
  once_more : (k : Id → ℕ) (ds : List (Delivered F)) (w : World F) → Counted k w → (p q : Pending) → Among q w.pending
      → p.id ≡ q.id → p.count ≡ q.count + 1 → alone q.id ds ≡ 1 → Keeps k ds w p
  once_more k ds w c p q h id count one = record {
    was_read = subst (λ i. Among i (ids_of w.seen)) (sym id) (c.was_read q h);
    count = subst (λ i. p.count ≤ 1 + (k i + alone i ds)) (sym id) (omega (arith, c.count q h, count, one));
  }

  -- after a step in which each is kept
  stepped : (k : Id → ℕ) (ds : List (Delivered F)) (w : World F)
      → ((p : Pending) → Among p w.pending → Keeps k ds w p) → Counted (Next k ds) w
  stepped k ds w h = record {
    was_read = λ p a. (h p a).was_read;
    count = λ p a. (h p a).count;
  }

  -- ---- its own pending entries

  -- a picked entry that was not deleted is in the reply
  reread_has : (k : Id → ℕ) (w : World F) (c : Name) (pick : Id → Bool) → Counted k w → (q : Pending)
      → Among q w.pending → (pick q.id && (bytes_eq q.consumer c && not (listed w.deleted q.id))) ≡ true
      → (f : F) × Among (q.id, Some f) (reread pick c w.pending w.deleted w.seen)
  reread_has k w c pick i q h t =
      let rest : (bytes_eq q.consumer c && not (listed w.deleted q.id)) ≡ true = and_right (pick q.id) _ t in
      let there : listed w.deleted q.id ≡ false =
      not_false (listed w.deleted q.id) (and_right (bytes_eq q.consumer c) _ rest) in
      let s = among_of_map (λ (e : Entry F). e.0) q.id w.seen (i.was_read q h) in
      let mine : listed (own c w.pending) q.id ≡ true = among_listed (own c w.pending) q.id
      (among_map (λ (p : Pending). p.id) q (filter (λ p. bytes_eq p.consumer c) w.pending)
      (among_filter (λ (p : Pending). bytes_eq p.consumer c) q w.pending h (and_left (bytes_eq q.consumer c) _ rest))) in
      let passes : (pick s.x.0 && listed (own c w.pending) s.x.0) ≡ true =
      subst (λ x. (pick x && listed (own c w.pending) x) ≡ true) (sym s.is)
      (both (pick q.id) (listed (own c w.pending) q.id) (and_left (pick q.id) _ t) mine) in
      let within : Among (as_it_is w.deleted s.x) (reread pick c w.pending w.deleted w.seen) =
      among_map (as_it_is w.deleted) s.x (filter (λ e. pick e.0 && listed (own c w.pending) e.0) w.seen)
      (among_filter (λ (e : Entry F). pick e.0 && listed (own c w.pending) e.0) s.x w.seen s.within passes) in
      let is : as_it_is w.deleted s.x ≡ (q.id, Some s.x.1) =
      let with_id : Id → Delivered F = λ x. (x, if listed w.deleted x then None else Some s.x.1) in
      let with_fields : Bool → Delivered F = λ b. (q.id, if b then None else Some s.x.1) in
      ap with_id s.is ∙ ap with_fields there in
      (s.x.1, subst (λ d. Among d (reread pick c w.pending w.deleted w.seen)) is within)

  pub rereads : (k : Id → ℕ) (w : World F) (c : Name) (pick : Id → Bool) → Counted k w
      → length (again w (Reread c pick)) ≤ 1 → Counted (Next k (again w (Reread c pick))) (happens w (Reread c pick))
  rereads k w c pick i le =
      let ds : List (Delivered F) = reread pick c w.pending w.deleted w.seen in
      let v : World F = happens w (Reread c pick) in
      let one : (q : Pending) → Among q w.pending → (b : Bool)
      → (pick q.id && (bytes_eq q.consumer c && not (listed w.deleted q.id))) ≡ b
      → Keeps k ds w (if b then record q { count = q.count + 1 } else q)
      = λ q h b. elim b as (λ b. (pick q.id && (bytes_eq q.consumer c && not (listed w.deleted q.id))) ≡ b
      → Keeps k ds w (if b then record q { count = q.count + 1 } else q)) [
        | true ↦ λ t. let r : Pending = record q { count = q.count + 1 } in
            let came = reread_has k w c pick i q h t in
            once_more k ds w i r q h refl refl (is_alone q.id came.0 ds le came.1)
        | false ↦ λ t. as_before k ds w i q h
      ] in
      let each : (p : Pending) → Among p v.pending → Keeps k ds w p = λ p h.
      let s = among_of_map (raised_one pick c w.deleted) p w.pending h in
      subst (λ r. Keeps k ds w r) s.is (one s.x s.within
      (pick s.x.id && (bytes_eq s.x.consumer c && not (listed w.deleted s.x.id))) refl) in
      record { was_read = λ p h. (each p h).was_read; count = λ p h. (each p h).count }

  -- ---- claims

  -- a picked entry that was not deleted is in the reply
  claim_has : (k : Id → ℕ) (w : World F) (pick : Id → Bool) → Counted k w → (q : Pending)
      → Among q w.pending → pick q.id ≡ true → listed w.deleted q.id ≡ false
      → (f : F) × Among (q.id, Some f) (claim_answer pick w.pending w.deleted w.seen)
  claim_has k w pick i q h picked there =
      let is_given : Id → Bool = λ x. pick x && (listed (pending_ids w.pending) x && not (listed w.deleted x)) in
      let s = among_of_map (λ (e : Entry F). e.0) q.id w.seen (i.was_read q h) in
      let mine : listed (pending_ids w.pending) q.id ≡ true =
      among_listed (pending_ids w.pending) q.id (among_map (λ (p : Pending). p.id) q w.pending h) in
      let passes : is_given s.x.0 ≡ true = subst (λ x. is_given x ≡ true) (sym s.is)
      (both (pick q.id) _ picked (both (listed (pending_ids w.pending) q.id) _ mine (ap not there))) in
      let within : Among (whole s.x) (claim_answer pick w.pending w.deleted w.seen) =
      among_map whole s.x (filter (λ e. is_given e.0) w.seen)
      (among_filter (λ (e : Entry F). is_given e.0) s.x w.seen s.within passes) in
      let is : whole s.x ≡ (q.id, Some s.x.1) =
      let with_id : Id → Delivered F = λ x. (x, Some s.x.1) in ap with_id s.is in
      (s.x.1, subst (λ d. Among d (claim_answer pick w.pending w.deleted w.seen)) is within)

  pub claims : (k : Id → ℕ) (w : World F) (c : Name) (pick : Id → Bool) (next : Id) → Counted k w
      → length (again w (Claim c pick next)) ≤ 1
      → Counted (Next k (again w (Claim c pick next))) (happens w (Claim c pick next))
  claims k w c pick next i le =
      let ds : List (Delivered F) = claim_answer pick w.pending w.deleted w.seen in
      let given_one : (q p : Pending) → Among q w.pending → pick q.id ≡ true → (b : Bool) → listed w.deleted q.id ≡ b
      → Among p (if b then [] else record { id = q.id; consumer = c; count = q.count + 1 } ∷ []) → Keeps k ds w p
      = λ q p h t b. elim b as (λ b. listed w.deleted q.id ≡ b
      → Among p (if b then [] else record { id = q.id; consumer = c; count = q.count + 1 } ∷ []) → Keeps k ds w p) [
        | true ↦ λ d a. absurd a
        | false ↦ λ d a. elim a [
          | inl e ↦ let r : Pending = record { id = q.id; consumer = c; count = q.count + 1 } in
              let came = claim_has k w pick i q h t d in
              subst (λ x. Keeps k ds w x) e (once_more k ds w i r q h refl refl (is_alone q.id came.0 ds le came.1))
          | inr none ↦ absurd none
        ]
      ] in
      let one : (q p : Pending) → Among q w.pending → (b : Bool) → pick q.id ≡ b
      → Among p (if b then (if listed w.deleted q.id then []
      else record { id = q.id; consumer = c; count = q.count + 1 } ∷ []) else q ∷ []) → Keeps k ds w p
      = λ q p h b. elim b as (λ b. pick q.id ≡ b
      → Among p (if b then (if listed w.deleted q.id then []
      else record { id = q.id; consumer = c; count = q.count + 1 } ∷ []) else q ∷ []) → Keeps k ds w p) [
        | true ↦ λ t a. given_one q p h t (listed w.deleted q.id) refl a
        | false ↦ λ t a. elim a [
          | inl e ↦ subst (λ x. Keeps k ds w x) e (as_before k ds w i q h)
          | inr none ↦ absurd none
        ]
      ] in
      let each : (p : Pending) → Among p (claimed 1 pick c w.deleted w.pending) → Keeps k ds w p = λ p h.
      let o = origin 1 pick c w.deleted w.pending p h in one o.was p o.within (pick o.was.id) refl o.left in
      record { was_read = λ p h. (each p h).was_read; count = λ p h. (each p h).count }

  claims_ids : (k : Id → ℕ) (w : World F) (c : Name) (pick : Id → Bool) → Counted k w
      → Counted (Next k []) (happens w (Claim_ids c pick))
  claims_ids k w c pick i =
      let same : (q p : Pending) → Among q w.pending → (b : Bool)
      → Among p (if b then [] else record { id = q.id; consumer = c; count = q.count + 0 } ∷ []) → Keeps k [] w p
      = λ q p h b. elim b as (λ b.
      Among p (if b then [] else record { id = q.id; consumer = c; count = q.count + 0 } ∷ []) → Keeps k [] w p) [
        | true ↦ λ a. absurd a
        | false ↦ λ a. elim a [
          | inl e ↦ subst (λ x. Keeps k [] w x) e
              (record { was_read = i.was_read q h; count = omega (arith, i.count q h) })
          | inr none ↦ absurd none
        ]
      ] in
      let one : (q p : Pending) → Among q w.pending → (b : Bool)
      → Among p (if b then (if listed w.deleted q.id then []
      else record { id = q.id; consumer = c; count = q.count + 0 } ∷ []) else q ∷ []) → Keeps k [] w p
      = λ q p h b. elim b as (λ b.
      Among p (if b then (if listed w.deleted q.id then []
      else record { id = q.id; consumer = c; count = q.count + 0 } ∷ []) else q ∷ []) → Keeps k [] w p) [
        | true ↦ same q p h (listed w.deleted q.id)
        | false ↦ λ a. elim a [
          | inl e ↦ subst (λ x. Keeps k [] w x) e (as_before k [] w i q h)
          | inr none ↦ absurd none
        ]
      ] in
      let each : (p : Pending) → Among p (claimed 0 pick c w.deleted w.pending) → Keeps k [] w p = λ p h.
      let o = origin 0 pick c w.deleted w.pending p h in one o.was p o.within (pick o.was.id) o.left in
      record { was_read = λ p h. (each p h).was_read; count = λ p h. (each p h).count }

  -- ---- the other events

  -- if what is pending was pending, and what was read stays
  pub fewer : (k : Id → ℕ) (w v : World F) → Counted k w → ((p : Pending) → Among p v.pending → Among p w.pending)
      → ((e : Entry F) → Among e w.seen → Among e v.seen) → Counted (Next k []) v
  fewer k w v i within grows = record {
    was_read = λ p h. let s = among_of_map (λ (e : Entry F). e.0) p.id w.seen (i.was_read p (within p h)) in
        subst (λ x. Among x (ids_of v.seen)) s.is (among_map (λ (e : Entry F). e.0) s.x v.seen (grows s.x s.within));
    count = λ p h. omega (arith, i.count p (within p h));
  }

  pub same : (k : Id → ℕ) (w : World F) → Counted k w → Counted (Next k []) w
  same k w i = fewer k w w i (λ p h. h) (λ e h. h)

  pub reads : (k : Id → ℕ) (w : World F) (c : Name) (n : ℕ) → Counted k w → Counted (Next k []) (happens w (Read c n))
  reads k w c n i =
      let v : World F = happens w (Read c n) in
      let es : List (Entry F) = given w.deleted n w.fresh in
      let old = fewer k w (record v { pending = w.pending }) i (λ p h. h) (λ e h. among_left e w.seen _ h) in
      let new : (p : Pending) → Among p (newly_pending c es) → Keeps k [] v p = λ p h.
      let pending_one : Entry F → Pending = λ e. record { id = e.0; consumer = c; count = 1 } in
      let s = among_of_map pending_one p es h in
      subst (λ x. Keeps k [] v x) s.is (record {
        was_read = among_map (λ (e : Entry F). e.0) s.x v.seen
            (among_right s.x w.seen _ (given_passed w.deleted n w.fresh s.x s.within));
        count = omega arith;
      }) in
      let each : (p : Pending) → Among p v.pending → Keeps k [] v p = λ p h.
      elim (among_split p w.pending (newly_pending c es) h) [
        | inl a ↦ record { was_read = old.was_read p a; count = old.count p a }
        | inr a ↦ new p a
      ] in
      record { was_read = λ p h. (each p h).was_read; count = λ p h. (each p h).count }

  pub appends : (k : Id → ℕ) (w : World F) (n : Numbers) (fields : F) → Counted k w → (b : Bool) → Counted (Next k [])
      (if b then record w { fresh = w.fresh ++ (id_text n, fields) ∷ []; last = n } else w)
  appends k w n fields i true = fewer k w (record w { fresh = w.fresh ++ (id_text n, fields) ∷ []; last = n }) i
      (λ p h. h) (λ e h. h)
  appends k w n fields i false = same k w i

  deletes : (k : Id → ℕ) (w : World F) (id : Id) → Counted k w → (b : Bool)
      → Counted (Next k []) (if b then record w { deleted = id ∷ w.deleted } else w)
  deletes k w id i true = fewer k w (record w { deleted = id ∷ w.deleted }) i (λ p h. h) (λ e h. h)
  deletes k w id i false = same k w i

  answers : (k : Id → ℕ) (w : World F) (which : ℕ) (vs : List Verdict) → Counted k w → (o : Option (Reply F))
      → Counted (Next k []) (comes w which o vs)
  answers k w which vs i None = same k w i
  answers k w which vs i (Some r) = fewer k w (comes w which (Some r) vs) i (λ p h. h) (λ e h. h)

  pub acks : (k : Id → ℕ) (w : World F) → Counted k w → (o : Option (Name × List Id)) → Counted (Next k []) (ack_comes w o)
  acks k w i None = same k w i
  acks k w i (Some a) = fewer k w (ack_comes w (Some a)) i
      (λ p h. among_filtered (λ (q : Pending). not (listed a.1 q.id)) p w.pending h) (λ e h. h)

  pub each : (k : Id → ℕ) (w : World F) (e : Event F) → Counted k w → length (again w e) ≤ 1
      → Counted (Next k (again w e)) (happens w e)
  each k w (Append n fields) i le = appends k w n fields i (is_below w.last n && fits n)
  each k w (Delete id) i le = deletes k w id i (listed (ids_of (w.seen ++ w.fresh)) id)
  each k w (Read c n) i le = reads k w c n i
  each k w (Reread c pick) i le = rereads k w c pick i le
  each k w (Claim c pick next) i le = claims k w c pick next i le
  each k w (Claim_ids c pick) i le = claims_ids k w c pick i
  each k w (Comes which vs) i le = answers k w which vs i (item w.replies which)
  each k w (Commit c) i le = fewer k w (happens w (Commit c)) i (λ p h. h) (λ e h. h)
  each k w (Acknowledge c) i le = fewer k w (happens w (Acknowledge c)) i (λ p h. h) (λ e h. h)
  each k w (Ack_comes which) i le = acks k w i (item w.acks which)
  each k w (Go_back c) i le = fewer k w (happens w (Go_back c)) i (λ p h. h) (λ e h. h)
  each k w (Crash c every keeps ids) i le = fewer k w (happens w (Crash c every keeps ids)) i (λ p h. h) (λ e h. h)

  over : (es : List (Event F)) (k : Id → ℕ) (w : World F) → Counted k w → OneAtATime es w
      → (p : Pending) → Among p (run es w).pending → p.count ≤ 1 + (k p.id + times_alone p.id es w)
  over [] k w i one p h = omega (arith, i.count p h)
  over (e ∷ es) k w i one p h =
      omega (arith, over es (Next k (again w e)) (happens w e) (each k w e i one.0) one.1 p h)

pub each_is_counted_alone : {F : Type 0} → EachIsCountedAlone F
each_is_counted_alone {F} events one p h =
    let start : Counted {F = F} (λ id. 0) empty_world = record { was_read = λ q a. absurd a; count = λ q a. absurd a } in
    omega (arith, over events (λ id. 0) empty_world start one p h)
