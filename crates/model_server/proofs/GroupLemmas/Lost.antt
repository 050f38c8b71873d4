-- What holds of every world that a schedule leads to.
use Rattle.std.proofs.Common.{◌≡◌, ◌⊎◌, inl, inr, refl, sym, subst, ℕ, Bool, true, false, not, ◌&&◌, List, [], ◌∷◌}
use Rattle.std.proofs.Common.{◌++◌, map, filter, Option, Some, None, if◌then◌else◌}
use Rattle.std.proofs.lemmas.Slice.Eq.{bytes_eq-Decides}
use Rattle.std.specs.Str.{bytes_eq}
use Rattle.model_server.specs.Group.Worker.{Id, Entry, Delivered, Verdict, Machine, Answer, acknowledged, own_pending}
use Rattle.model_server.specs.Group.Worker.{taken_over, news, handled_in, acks_in, entries_in, still, after}
use Rattle.model_server.specs.Group.Worker.{after_commit, begins_again, begins_with}
use Rattle.model_server.specs.Group.Group.{Name, Pending, Numbers, id_text, is_below, fits, listed, ids_of, own, given}
use Rattle.model_server.specs.Group.Group.{passed, newly_pending, whole, as_it_is, reread, claim_answer, pending_ids}
use Rattle.model_server.specs.Group.World.{World, Reply, Event, Append, Delete, Read, Reread, Claim, Claim_ids, Comes, Commit}
use Rattle.model_server.specs.Group.World.{Acknowledge, Ack_comes, Go_back, Crash, item, with_one, comes, ack_comes, happens}
use Rattle.model_server.specs.Group.World.{run, empty_world, log_of, among_ids}
use Rattle.model_server.specs.Group.Law.{Among, IsSettled, IsPending, IsKept, AcknowledgedIsSettled, HandledIsOfTheLog}
use Rattle.model_server.specs.Group.Law.{CommittedIsHandled, EachEntryIsKept}
use Rattle.model_server.proofs.GroupLemmas.Unique.{ids_unique, log_grows}
use Rattle.model_server.proofs.GroupLemmas.Among.{among_left, among_right, among_split, among_map, among_of_map, among_filtered}
use Rattle.model_server.proofs.GroupLemmas.Among.{among_item, among_but, listed_among, filtered_passes}
use Rattle.model_server.proofs.GroupLemmas.Steps.{passed_given, given_passed, claimed_keeps, acknowledged_keeps, ids_append}
use Rattle.model_server.proofs.GroupLemmas.Steps.{raised_ids, IsTrueOf, acked, handled_seen}

-- the statement about the part of each, after a change to one of them
with_part : {A X : Type 0} (each : Name → A) (name : Name) (a : A) (part : A → List X) (P : X → Type 0)
    → ((c : Name) (x : X) → Among x (part (each c)) → P x) → ((x : X) → Among x (part a) → P x)
    → (c : Name) (x : X) → Among x (part (with_one each name a c)) → P x
with_part each name a part P old new c x h =
    let case : (b : Bool) → Among x (part (if b then a else each c)) → P x
    = λ b. elim b as (λ v. Among x (part (if v then a else each c)) → P x) [ true ↦ new x | false ↦ old c x ] in
    case (bytes_eq name c) h

-- the same of two lists that go together
with_two : {A B X : Type 0} (each : Name → A) (other : Name → B) (name : Name) (a : A) (b : B) (part : A → List X)
    (P : B → X → Type 0)
    → ((c : Name) (x : X) → Among x (part (each c)) → P (other c) x) → ((x : X) → Among x (part a) → P b x)
    → (c : Name) (x : X) → Among x (part (with_one each name a c)) → P (with_one other name b c) x
with_two each other name a b part P old new c x h =
    let case : (t : Bool) → Among x (part (if t then a else each c)) → P (if t then b else other c) x
    = λ t. elim t as (λ v. Among x (part (if v then a else each c)) → P (if v then b else other c) x)
    [ true ↦ new x | false ↦ old c x ] in
    case (bytes_eq name c) h

module _ {F : Type 0} where
  -- the entry of this id is one of these, or was deleted
  abbrev pub IsDone : List Id → List (Entry F) → Id → Type 0
  IsDone deleted es id = ((fields : F) × Among (id, fields) es) ⊎ Among id deleted

  pub record Inv (w : World F) : Type 0 where
    -- the entries up to the last delivered id
    pub lost : (e : Entry F) → Among e w.seen → IsPending w e.0 ⊎ IsSettled w e.0
    -- replies on the way are true
    pub answers : (r : Reply F) → Among r w.replies → (d : Delivered F) → Among d (entries_in r.answer)
        → IsTrueOf w.deleted w.seen d.0 d.1
    -- what workers remember to commit, and to acknowledge
    pub done : (c : Name) (id : Id) → Among id (w.workers c).to_commit → IsDone w.deleted (w.loose c) id
    pub held : (c : Name) (id : Id) → Among id (w.workers c).to_acknowledge → IsDone w.deleted w.committed id
    -- acknowledgements on the way
    pub sent : (a : Name × List Id) → Among a w.acks → (id : Id) → Among id a.1 → IsDone w.deleted w.committed id
    pub acked : (id : Id) → Among id w.acknowledged_ids → IsDone w.deleted w.committed id
    pub of_log : (e : Entry F) → Among e w.handled → Among e w.seen
    pub loose : (c : Name) (e : Entry F) → Among e (w.loose c) → Among e w.handled
    pub committed : (e : Entry F) → Among e w.committed → Among e w.handled

  done_grows : (deleted more : List Id) (es fs : List (Entry F)) → ((e : Entry F) → Among e es → Among e fs)
      → ((id : Id) → Among id deleted → Among id more) → (id : Id) → IsDone deleted es id → IsDone more fs id
  done_grows deleted more es fs h d id (inl p) = inl (p.0, h (id, p.0) p.1)
  done_grows deleted more es fs h d id (inr q) = inr (d id q)

  true_grows : (deleted more : List Id) (seen longer : List (Entry F)) → ((id : Id) → Among id deleted → Among id more)
      → ((e : Entry F) → Among e seen → Among e longer) → (id : Id) (o : Option F) → IsTrueOf deleted seen id o
      → IsTrueOf more longer id o
  true_grows deleted more seen longer d s id None h = d id h
  true_grows deleted more seen longer d s id (Some f) h = s (id, f) h

  appends : (w : World F) → Inv w → (n : Numbers) (fields : F) (b : Bool)
      → Inv (if b then record w { fresh = w.fresh ++ (id_text n, fields) ∷ []; last = n } else w)
  appends w i n fields false = i
  appends w i n fields true = record {
    lost = i.lost;
    answers = i.answers;
    done = i.done;
    held = i.held;
    sent = i.sent;
    acked = i.acked;
    of_log = i.of_log;
    loose = i.loose;
    committed = i.committed;
  }

  deletes : (w : World F) → Inv w → (id : Id) (b : Bool) → Inv (if b then record w { deleted = id ∷ w.deleted } else w)
  deletes w i id true =
      let grows : (es : List (Entry F)) (x : Id) → IsDone w.deleted es x → IsDone (id ∷ w.deleted) es x
      = λ es. done_grows w.deleted (id ∷ w.deleted) es es (λ e h. h) (λ x h. inr h) in
      record {
        lost = λ e h. elim (i.lost e h) [ inl p ↦ inl p | inr s ↦ inr (grows w.committed e.0 s) ];
        answers = λ r h d k. true_grows w.deleted (id ∷ w.deleted) w.seen w.seen (λ x q. inr q) (λ e q. q) d.0 d.1
            (i.answers r h d k);
        done = λ c x h. grows (w.loose c) x (i.done c x h);
        held = λ c x h. grows w.committed x (i.held c x h);
        sent = λ ids h x k. grows w.committed x (i.sent ids h x k);
        acked = λ x h. grows w.committed x (i.acked x h);
        of_log = i.of_log;
        loose = i.loose;
        committed = i.committed;
      }
  deletes w i id false = i

  -- one more reply on the way
  one_more : (w : World F) (c : Name) (a : Answer F) (deleted : List Id) (seen : List (Entry F))
      → ((d : Delivered F) → Among d (entries_in a) → IsTrueOf deleted seen d.0 d.1)
      → ((r : Reply F) → Among r w.replies → (d : Delivered F) → Among d (entries_in r.answer)
      → IsTrueOf deleted seen d.0 d.1)
      → (r : Reply F) → Among r (record { consumer = c; answer = a } ∷ w.replies) → (d : Delivered F)
      → Among d (entries_in r.answer) → IsTrueOf deleted seen d.0 d.1
  one_more w c a deleted seen new old r (inl e) =
      let P : Reply F → Type 0 = λ x. (d : Delivered F) → Among d (entries_in x.answer)
      → IsTrueOf deleted seen d.0 d.1 in subst P e new
  one_more w c a deleted seen new old r (inr h) = old r h

  -- what is given with its fields is of the log
  whole_true : (deleted : List Id) (seen es : List (Entry F)) → ((e : Entry F) → Among e es → Among e seen)
      → (d : Delivered F) → Among d (map whole es) → IsTrueOf deleted seen d.0 d.1
  whole_true deleted seen es within d h =
      let s = among_of_map whole d es h in
      let Q : Delivered F → Type 0 = λ x. IsTrueOf deleted seen x.0 x.1 in
      subst Q s.is (within s.x s.within)

  as_it_is_true : (deleted : List Id) (seen es : List (Entry F)) → ((e : Entry F) → Among e es → Among e seen)
      → (d : Delivered F) → Among d (map (as_it_is deleted) es) → IsTrueOf deleted seen d.0 d.1
  as_it_is_true deleted seen es within d h =
      let s = among_of_map (as_it_is deleted) d es h in
      let Q : Delivered F → Type 0 = λ x. IsTrueOf deleted seen x.0 x.1 in
      let case : (b : Bool) → listed deleted s.x.0 ≡ b → IsTrueOf deleted seen s.x.0 (if b then None else Some s.x.1)
      = λ b. elim b as (λ v. listed deleted s.x.0 ≡ v → IsTrueOf deleted seen s.x.0 (if v then None else Some s.x.1))
      [ true ↦ λ q. listed_among deleted s.x.0 q | false ↦ λ q. within s.x s.within ] in
      subst Q s.is (case (listed deleted s.x.0) refl)

  reads : (w : World F) → Inv w → (c : Name) (n : ℕ) → Inv (happens w (Read c n))
  reads w i c n =
      let v : World F = happens w (Read c n) in
      let es : List (Entry F) = given w.deleted n w.fresh in
      let grows : (e : Entry F) → Among e w.seen → Among e v.seen =
      λ e h. among_left e w.seen (passed w.deleted n w.fresh) h in
      let ids : pending_ids v.pending ≡ pending_ids w.pending ++ pending_ids (newly_pending c es) =
      ids_append w.pending (newly_pending c es) in
      let now_pending : (e : Entry F) → Among e es → Among e.0 (pending_ids (newly_pending c es))
      = λ e h. among_map (λ (p : Pending). p.id) (record { id = e.0; consumer = c; count = 1 }) (newly_pending c es)
      (among_map (λ (x : Entry F). let p : Pending = record { id = x.0; consumer = c; count = 1 } in p) e es h) in
      record {
        lost = λ e h. elim (among_split e w.seen (passed w.deleted n w.fresh) h) [
          | inl a ↦ elim (i.lost e a) [
            | inl p ↦ inl
                (let P : List Id → Type 0 = λ l. Among e.0 l in subst P (sym ids)
                (among_left e.0 (pending_ids w.pending) _ p))
            | inr s ↦ inr s
          ]
          | inr a ↦ elim (passed_given w.deleted n w.fresh e a) [
            | inl g ↦ inl (let P : List Id → Type 0 = λ l. Among e.0 l in subst P (sym ids)
                (among_right e.0 (pending_ids w.pending) _ (now_pending e g)))
            | inr d ↦ inr (inr d)
          ]
        ];
        answers = one_more w c (news (map whole es)) w.deleted v.seen
            (whole_true w.deleted v.seen es (λ e h. among_right e w.seen (passed w.deleted n w.fresh)
            (given_passed w.deleted n w.fresh e h)))
            (λ r h d k. true_grows w.deleted w.deleted w.seen v.seen (λ x q. q) grows d.0 d.1 (i.answers r h d k));
        done = i.done;
        held = i.held;
        sent = i.sent;
        acked = i.acked;
        of_log = λ e h. grows e (i.of_log e h);
        loose = i.loose;
        committed = i.committed;
      }

  rereads : (w : World F) → Inv w → (c : Name) (pick : Id → Bool) → Inv (happens w (Reread c pick))
  rereads w i c pick = record {
    lost = λ e h. elim (i.lost e h) [
      | inl p ↦ inl
          (let P : List Id → Type 0 = λ l. Among e.0 l in subst P (sym (raised_ids pick c w.deleted w.pending)) p)
      | inr s ↦ inr s
    ];
    answers = one_more w c (own_pending (reread pick c w.pending w.deleted w.seen)) w.deleted w.seen
        (as_it_is_true w.deleted w.seen (filter (λ e. pick e.0 && listed (own c w.pending) e.0) w.seen)
        (λ e h. among_filtered (λ x. pick x.0 && listed (own c w.pending) x.0) e w.seen h))
        i.answers;
    done = i.done;
    held = i.held;
    sent = i.sent;
    acked = i.acked;
    of_log = i.of_log;
    loose = i.loose;
    committed = i.committed;
  }

  claims : (w : World F) → Inv w → (c : Name) (pick : Id → Bool) (next : Id) → Inv (happens w (Claim c pick next))
  claims w i c pick next = record {
    lost = λ e h. elim (i.lost e h) [
      | inl p ↦ elim (claimed_keeps 1 pick c w.deleted w.pending e.0 p) [ inl q ↦ inl q | inr d ↦ inr (inr d) ]
      | inr s ↦ inr s
    ];
    answers = one_more w c (taken_over next (claim_answer pick w.pending w.deleted w.seen)) w.deleted w.seen
        (whole_true w.deleted w.seen
        (filter (λ e. pick e.0 && (listed (pending_ids w.pending) e.0 && not (listed w.deleted e.0))) w.seen)
        (λ e h. among_filtered (λ x. pick x.0
        && (listed (pending_ids w.pending) x.0 && not (listed w.deleted x.0))) e w.seen h))
        i.answers;
    done = i.done;
    held = i.held;
    sent = i.sent;
    acked = i.acked;
    of_log = i.of_log;
    loose = i.loose;
    committed = i.committed;
  }

  claims_ids : (w : World F) → Inv w → (c : Name) (pick : Id → Bool) → Inv (happens w (Claim_ids c pick))
  claims_ids w i c pick = record {
    lost = λ e h. elim (i.lost e h) [
      | inl p ↦ elim (claimed_keeps 0 pick c w.deleted w.pending e.0 p) [ inl q ↦ inl q | inr d ↦ inr (inr d) ]
      | inr s ↦ inr s
    ];
    answers = i.answers;
    done = i.done;
    held = i.held;
    sent = i.sent;
    acked = i.acked;
    of_log = i.of_log;
    loose = i.loose;
    committed = i.committed;
  }

  -- the list of what is to commit is what it was, of the one and of others
  unchanged : (w : World F) (c d : Name) (id : Id)
      → Among id (with_one w.workers c (begins_again (w.workers c)) d).to_commit → Among id (w.workers d).to_commit
  unchanged w c d id h =
      let case : (b : Bool) → bytes_eq c d ≡ b
      → Among id (if b then begins_again (w.workers c) else w.workers d).to_commit
      → Among id (w.workers d).to_commit
      = λ b. elim b as (λ v. bytes_eq c d ≡ v
      → Among id (if v then begins_again (w.workers c) else w.workers d).to_commit
      → Among id (w.workers d).to_commit) [
        | true ↦ λ q k. let P : Name → Type 0 =
            λ n. Among id (w.workers n).to_commit in subst P ((bytes_eq-Decides c d).0 q) k
        | false ↦ λ q k. k
      ] in
      case (bytes_eq c d) refl h

  goes_back : (w : World F) → Inv w → (c : Name) → Inv (happens w (Go_back c))
  goes_back w i c =
      let m : Machine = begins_again (w.workers c) in
      record {
        lost = i.lost;
        answers = i.answers;
        done = λ d id h. i.done d id (unchanged w c d id h);
        held = with_part w.workers c m (λ (x : Machine). x.to_acknowledge) (IsDone w.deleted w.committed) i.held
            (i.held c);
        sent = i.sent;
        acked = i.acked;
        of_log = i.of_log;
        loose = i.loose;
        committed = i.committed;
      }

  -- an id of one of these entries
  has_entry : (es : List (Entry F)) (id : Id) → listed (ids_of es) id ≡ true → (fields : F) × Among (id, fields) es
  has_entry es id h =
      let s = among_of_map (λ (e : Entry F). e.0) id es (listed_among (ids_of es) id h) in
      (s.x.1, (let P : Id → Type 0 = λ i. Among (i, s.x.1) es in subst P s.is s.within))

  forgets : (w : World F) → Inv w → (c : Name) (every : ℕ) (keeps : Entry F → Bool) (ids : List Id)
      → Inv (happens w (Crash c every keeps ids))
  forgets w i c every keeps ids =
      let kept : List (Entry F) = filter keeps (w.loose c) in
      let now : List (Entry F) = w.committed ++ kept in
      let m : Machine = begins_with every (among_ids now ids) in
      let grows : (x : Id) → IsDone w.deleted w.committed x → IsDone w.deleted now x
      = done_grows w.deleted w.deleted w.committed now (λ e h. among_left e w.committed kept h) (λ x h. h) in
      record {
        lost = λ e h. elim (i.lost e h) [ inl p ↦ inl p | inr s ↦ inr (grows e.0 s) ];
        answers = i.answers;
        done = with_two w.workers w.loose c m [] (λ (x : Machine). x.to_commit) (IsDone w.deleted) i.done
            (λ id h. absurd h);
        held = with_part w.workers c m (λ (x : Machine). x.to_acknowledge) (IsDone w.deleted now)
            (λ d x h. grows x (i.held d x h))
            (λ x h. inl (has_entry now x (filtered_passes (listed (ids_of now)) x ids h)));
        sent = λ a h x n. grows x (i.sent a h x n);
        acked = λ x h. grows x (i.acked x h);
        of_log = i.of_log;
        loose = with_part w.loose c [] (λ (x : List (Entry F)). x) (λ e. Among e w.handled) i.loose (λ e h. absurd h);
        committed = λ e h. elim (among_split e w.committed kept h) [
          | inl a ↦ i.committed e a
          | inr a ↦ i.loose c e (among_filtered keeps e (w.loose c) a)
        ];
      }

  commit : (w : World F) → Inv w → (c : Name) → Inv (happens w (Commit c))
  commit w i c =
      let m : Machine = w.workers c in
      let now : List (Entry F) = w.committed ++ w.loose c in
      let grows : (x : Id) → IsDone w.deleted w.committed x → IsDone w.deleted now x
      = done_grows w.deleted w.deleted w.committed now (λ e h. among_left e w.committed (w.loose c) h) (λ x h. h) in
      let moves : (x : Id) → IsDone w.deleted (w.loose c) x → IsDone w.deleted now x
      = done_grows w.deleted w.deleted (w.loose c) now (λ e h. among_right e w.committed (w.loose c) h) (λ x h. h) in
      record {
        lost = λ e h. elim (i.lost e h) [ inl p ↦ inl p | inr s ↦ inr (grows e.0 s) ];
        answers = i.answers;
        done = with_two w.workers w.loose c (after_commit m) [] (λ (x : Machine). x.to_commit) (IsDone w.deleted) i.done
            (λ id h. absurd h);
        held = with_part w.workers c (after_commit m) (λ (x : Machine). x.to_acknowledge) (IsDone w.deleted now)
            (λ d x h. grows x (i.held d x h))
            (λ x h. elim (among_split x m.to_acknowledge m.to_commit h) [
              | inl a ↦ grows x (i.held c x a)
              | inr a ↦ moves x (i.done c x a)
            ]);
        sent = λ a h x n. grows x (i.sent a h x n);
        acked = λ x h. grows x (i.acked x h);
        of_log = i.of_log;
        loose = with_part w.loose c [] (λ (x : List (Entry F)). x) (λ e. Among e w.handled) i.loose (λ e h. absurd h);
        committed = λ e h. elim (among_split e w.committed (w.loose c) h)
            [ inl a ↦ i.committed e a | inr a ↦ i.loose c e a ];
      }

  still_among : (ids : List Id) (a : Answer F) (id : Id) → Among id (still ids a) → Among id ids
  still_among ids acknowledged id h = absurd h
  still_among ids (own_pending es) id h = h
  still_among ids (taken_over next es) id h = h
  still_among ids (news es) id h = h

  answered : (w : World F) → Inv w → (k : ℕ) (vs : List Verdict) (o : Option (Reply F)) → item w.replies k ≡ o
      → Inv (comes w k o vs)
  answered w i k vs None q = i
  answered w i k vs (Some r) q =
      let es : List (Delivered F) = entries_in r.answer in
      let m : Machine = w.workers r.consumer in
      let new : List (Entry F) = w.loose r.consumer ++ handled_in es vs in
      let here : Among r w.replies = among_item w.replies k r q in
      let old_done : (x : Id) → IsDone w.deleted (w.loose r.consumer) x → IsDone w.deleted new x
      = done_grows w.deleted w.deleted (w.loose r.consumer) new
      (λ e h. among_left e (w.loose r.consumer) (handled_in es vs) h) (λ x h. h) in
      record {
        lost = i.lost;
        answers = λ a h d n. i.answers a (among_but w.replies k a h) d n;
        done = with_two w.workers w.loose r.consumer (after m r.answer vs) new (λ (x : Machine). x.to_commit)
            (IsDone w.deleted) i.done
            (λ id h. elim (among_split id m.to_commit (acks_in es vs) h) [
              | inl a ↦ old_done id (i.done r.consumer id a)
              | inr a ↦ elim (acked w.deleted w.seen es vs id (i.answers r here) a)
                  [ inl b ↦ inl (b.0, among_right (id, b.0) (w.loose r.consumer) _ b.1) | inr d ↦ inr d ]
            ]);
        held = with_part w.workers r.consumer (after m r.answer vs) (λ (x : Machine). x.to_acknowledge)
            (IsDone w.deleted w.committed) i.held
            (λ id h. i.held r.consumer id (still_among m.to_acknowledge r.answer id h));
        sent = i.sent;
        acked = i.acked;
        of_log = λ e h. elim (among_split e w.handled (handled_in es vs) h) [
          | inl a ↦ i.of_log e a
          | inr a ↦ handled_seen w.deleted w.seen es vs e (i.answers r here) a
        ];
        loose = with_part w.loose r.consumer new (λ (x : List (Entry F)). x)
            (λ e. Among e (w.handled ++ handled_in es vs))
            (λ c e h. among_left e w.handled (handled_in es vs) (i.loose c e h))
            (λ e h. elim (among_split e (w.loose r.consumer) (handled_in es vs) h) [
              | inl a ↦ among_left e w.handled (handled_in es vs) (i.loose r.consumer e a)
              | inr a ↦ among_right e w.handled (handled_in es vs) a
            ]);
        committed = λ e h. among_left e w.handled (handled_in es vs) (i.committed e h);
      }

  ack_came : (w : World F) → Inv w → (k : ℕ) (o : Option (Name × List Id)) → item w.acks k ≡ o → Inv (ack_comes w o)
  ack_came w i k None q = i
  ack_came w i k (Some a) q =
      let settled : (x : Id) → Among x a.1 → IsDone w.deleted w.committed x = i.sent a (among_item w.acks k a q) in
      record {
        lost = λ e h. elim (i.lost e h) [
          | inl p ↦ elim (acknowledged_keeps a.1 w.pending e.0 p) [ inl b ↦ inl b | inr b ↦ inr (settled e.0 b) ]
          | inr s ↦ inr s
        ];
        answers = one_more w a.0 acknowledged w.deleted w.seen (λ d h. absurd h) i.answers;
        done = i.done;
        held = i.held;
        sent = i.sent;
        acked = λ x h. elim (among_split x w.acknowledged_ids a.1 h) [ inl b ↦ i.acked x b | inr b ↦ settled x b ];
        of_log = i.of_log;
        loose = i.loose;
        committed = i.committed;
      }

  sends : (w : World F) → Inv w → (c : Name) → Inv (happens w (Acknowledge c))
  sends w i c = record {
    lost = i.lost;
    answers = i.answers;
    done = i.done;
    held = i.held;
    sent = λ a h x n. elim h [
      | inl e ↦ i.held c x (let P : Name × List Id → Type 0 = λ l. Among x l.1 in subst P (sym e) n)
      | inr b ↦ i.sent a b x n
    ];
    acked = i.acked;
    of_log = i.of_log;
    loose = i.loose;
    committed = i.committed;
  }

  -- each event keeps it
  each : (w : World F) → Inv w → (e : Event F) → Inv (happens w e)
  each w i (Append n fields) = appends w i n fields (is_below w.last n && fits n)
  each w i (Delete id) = deletes w i id (listed (ids_of (log_of w)) id)
  each w i (Read c n) = reads w i c n
  each w i (Reread c pick) = rereads w i c pick
  each w i (Claim c pick next) = claims w i c pick next
  each w i (Claim_ids c pick) = claims_ids w i c pick
  each w i (Comes k vs) = answered w i k vs (item w.replies k) refl
  each w i (Commit c) = commit w i c
  each w i (Acknowledge c) = sends w i c
  each w i (Ack_comes k) = ack_came w i k (item w.acks k) refl
  each w i (Go_back c) = goes_back w i c
  each w i (Crash c every keeps ids) = forgets w i c every keeps ids

  pub all_of_run : (es : List (Event F)) (w : World F) → Inv w → Inv (run es w)
  all_of_run [] w i = i
  all_of_run (e ∷ es) w i = all_of_run es (happens w e) (each w i e)

  at_first : Inv empty_world
  at_first = record {
    lost = λ e h. absurd h;
    answers = λ r h d k. absurd h;
    done = λ c id h. absurd h;
    held = λ c id h. absurd h;
    sent = λ ids h id k. absurd h;
    acked = λ id h. absurd h;
    of_log = λ e h. absurd h;
    loose = λ c e h. absurd h;
    committed = λ e h. absurd h;
  }

  pub always : (es : List (Event F)) → Inv (run es empty_world)
  always es = all_of_run es empty_world at_first

  pub acked_settled : AcknowledgedIsSettled F
  acked_settled es id h = (always es).acked id h

  pub handled_logged : HandledIsOfTheLog F
  handled_logged es e h = among_left e (run es empty_world).seen (run es empty_world).fresh ((always es).of_log e h)

  pub committed_handled : CommittedIsHandled F
  committed_handled es e h = (always es).committed e h

  run_more : (es more : List (Event F)) (w : World F) → run more (run es w) ≡ run (es ++ more) w
  run_more [] more w = refl
  run_more (e ∷ es) more w = run_more es more (happens w e)

  kept : (es : List (Event F)) (e : Entry F) → Among e (log_of (run es empty_world)) → IsKept (run es empty_world) e
  kept es e h =
      let w : World F = run es empty_world in
      elim (among_split e w.seen w.fresh h) [
        | inl a ↦ elim ((always es).lost e a) [
          | inl p ↦ inr (inl p)
          | inr s ↦ inr (inr (elim s [
            | inl k ↦ inl
                (let own : Among (e.0, k.0) (log_of w) = handled_logged es (e.0, k.0)
                ((always es).committed (e.0, k.0) k.1) in
                let same : k.0 ≡ e.1 = ids_unique es e.0 k.0 e.1 own h in
                let P : F → Type 0 = λ f. Among (e.0, f) w.committed in subst P same k.1)
            | inr d ↦ inr d
          ]))
        ]
        | inr a ↦ inl a
      ]

  pub each_kept : EachEntryIsKept F
  each_kept es more e h =
      let P : World F → Type 0 = λ w. Among e (log_of w) → IsKept w e in
      subst P (sym (run_more es more empty_world)) (kept (es ++ more) e) (log_grows more (run es empty_world) e h)
