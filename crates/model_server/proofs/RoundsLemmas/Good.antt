-- What holds of every world that a schedule leads to: no two entries of the log have one id, none has the id `0-0`,
-- and what is pending is of the log up to the last delivered id.
use Rattle.std.proofs.Common.{◌≡◌, inl, inr, refl, sym, ap, subst, ◌∙◌, ℕ, zero, suc, arith, Bool, true, false, not}
use Rattle.std.proofs.Common.{◌&&◌, ◌||◌, ◌+◌, nat_lt, nat_eq, List, [], ◌∷◌, ◌++◌, map, codes, Option, Some, None, if◌then◌else◌}
use Rattle.std.proofs.lemmas.Bool.{ltb-true}
use Rattle.std.specs.Fmt.{digits}
use Rattle.model_server.specs.Group.Worker.{Id, Entry, Verdict}
use Rattle.model_server.specs.Group.Group.{Name, Pending, Numbers, id_text, is_below, fits, listed, ids_of, given, passed}
use Rattle.model_server.specs.Group.Group.{behind, newly_pending, claimed, claimed_one, pending_after, pending_ids}
use Rattle.model_server.specs.Group.World.{World, Reply, Event, Append, Delete, Read, Reread, Claim, Claim_ids, Comes, Commit}
use Rattle.model_server.specs.Group.World.{Acknowledge, Ack_comes, Go_back, Crash, item, comes, ack_comes, happens, run}
use Rattle.model_server.specs.Group.World.{empty_world, log_of}
use Rattle.model_server.specs.Group.Law.{Among, Ascends}
use Rattle.model_server.proofs.GroupLemmas.Among.{among_left, among_right, among_split, among_map, among_of_map, among_filtered}
use Rattle.model_server.proofs.GroupLemmas.Among.{listed_among, and_left, and_right}
use Rattle.model_server.proofs.GroupLemmas.Numbers.{id_text_injective, not_below_itself}
use Rattle.model_server.proofs.GroupLemmas.Steps.{given_passed, raised_ids, ids_append}
use Rattle.model_server.proofs.GroupLemmas.Unique.{placed}
use Rattle.model_server.proofs.RoundsLemmas.Lists.{AreDistinct, clash, not_true, among_listed}

no_both : (b : Bool) → (b && false) ≡ false
no_both true = refl
no_both false = refl

-- nothing is below the first numbers
below_first : (last : Numbers) → is_below last (0, 0) ≡ true → ⊥
below_first last h =
    let none : (k : ℕ) → nat_lt k 0 ≡ false = λ k. not_true (nat_lt k 0) (λ q. absurd (omega (arith, ltb-true k 0 q))) in
    let never : (a b c : Bool) → a ≡ false → c ≡ false → (a || (b && c)) ≡ true → ⊥
    = λ a b c p q k. clash (a || (b && c)) k (ap (λ z. z || (b && c)) p ∙ (ap (λ z. b && z) q ∙ no_both b)) in
    never (nat_lt last.0 0) (nat_eq last.0 0) (nat_lt last.1 0) (none last.0) (none last.1) h

nothing : id_text (0, 0) ≡ codes "0-0"
unfolding digits
nothing = refl

not_the_end : (last n : Numbers) → is_below last n ≡ true → fits n ≡ true → id_text n ≡ codes "0-0" → ⊥
not_the_end last n h k e =
    let same : n ≡ (0, 0) = id_text_injective n (0, 0) k refl (e ∙ sym nothing) in
    let P : Numbers → Type 0 = λ z. is_below last z ≡ true in
    below_first last (subst P same h)

pub claimed_of : (more : ℕ) (pick : Id → Bool) (name : Name) (deleted : List Id) (ps : List Pending) (x : Id)
    → Among x (pending_ids (claimed more pick name deleted ps)) → Among x (pending_ids ps)
claimed_of more pick name deleted [] x h = h
claimed_of more pick name deleted (p ∷ ps) x h =
    let inner : (b : Bool)
    → Among x (pending_ids (if b then [] else record { id = p.id; consumer = name; count = p.count + more } ∷ []))
    → Among x (p.id ∷ [])
    = λ b. elim b as (λ v.
    Among x (pending_ids (if v then [] else record { id = p.id; consumer = name; count = p.count + more } ∷ []))
    → Among x (p.id ∷ [])) [ true ↦ λ k. absurd k | false ↦ λ k. k ] in
    let case : (b : Bool)
    → Among x (pending_ids (if b then (if listed deleted p.id then []
    else record { id = p.id; consumer = name; count = p.count + more } ∷ []) else p ∷ []))
    → Among x (p.id ∷ [])
    = λ b. elim b as (λ v.
    Among x (pending_ids (if v then (if listed deleted p.id then []
    else record { id = p.id; consumer = name; count = p.count + more } ∷ []) else p ∷ []))
    → Among x (p.id ∷ [])) [ true ↦ λ k. inner (listed deleted p.id) k | false ↦ λ k. k ] in
    let P : List Id → Type 0 = λ l. Among x l in
    elim (among_split x (pending_ids (claimed_one more pick name deleted p))
    (pending_ids (claimed more pick name deleted ps))
    (subst P (ids_append (claimed_one more pick name deleted p) (claimed more pick name deleted ps)) h)) [
      | inl a ↦ elim (case (pick p.id) a) [ inl e ↦ inl e | inr z ↦ absurd z ]
      | inr a ↦ inr (claimed_of more pick name deleted ps x a)
    ]

pub after_of : (ids : List Id) (ps : List Pending) (x : Id) → Among x (pending_ids (pending_after ids ps))
    → Among x (pending_ids ps)
after_of ids ps x h =
    let s = among_of_map (λ (p : Pending). p.id) x (pending_after ids ps) h in
    let P : Id → Type 0 = λ i. Among i (pending_ids ps) in
    subst P s.is (among_map (λ (p : Pending). p.id) s.x ps
    (among_filtered (λ (p : Pending). not (listed ids p.id)) s.x ps s.within))

module _ {F : Type 0} where
  distinct : (log : List (Entry F)) (ns : List Numbers) → ids_of log ≡ map id_text ns → Ascends ns
      → ((n : Numbers) → Among n ns → fits n ≡ true) → AreDistinct log
  distinct [] ns t a fit = tt
  distinct (e ∷ log) [] t a fit = absurd (let z : e.0 ∷ ids_of log ≡ [] = t in cc)
  distinct (e ∷ log) (n ∷ ns) t a fit =
      let z : e.0 ∷ ids_of log ≡ id_text n ∷ map id_text ns = t in
      let first : e.0 ≡ id_text n = cc in
      let rest : ids_of log ≡ map id_text ns = cc in
      let apart : listed (ids_of log) e.0 ≡ true → ⊥
      = λ h.
      let P : List Id → Type 0 = λ l. Among e.0 l in
      let s = among_of_map id_text e.0 ns (subst P rest (listed_among (ids_of log) e.0 h)) in
      let same : n ≡ s.x =
      id_text_injective n s.x (fit n (inl refl)) (fit s.x (inr s.within)) (sym first ∙ sym s.is) in
      let Q : Numbers → Type 0 = λ z. is_below n z ≡ true in
      not_below_itself n (subst Q (sym same) (a.0 s.x s.within))
      in
      (not_true (listed (ids_of log) e.0) apart, distinct log ns rest a.1 (λ m k. fit m (inr k)))

  pub always_distinct : (es : List (Event F)) → AreDistinct (log_of (run es empty_world))
  always_distinct es = let o = placed es in distinct (log_of (run es empty_world)) o.ns o.texts o.ascends o.fit

  abbrev IsNone : Entry F → Type 0
  IsNone e = e.0 ≡ codes "0-0" → ⊥

  -- each pending entry was delivered
  abbrev pub WasHandedOut : List Pending → List (Entry F) → Type 0
  WasHandedOut pending seen = (x : Id) → Among x (pending_ids pending) → Among x (ids_of seen)

  pub record Held (w : World F) : Type 0 where
    pub handed_out : WasHandedOut w.pending w.seen
    pub no_end : (e : Entry F) → Among e (log_of w) → IsNone e

  pub within_passed : (deleted : List Id) (n : ℕ) (es : List (Entry F)) (e : Entry F) → Among e (passed deleted n es)
      → Among e es
  within_passed deleted n [] e h = h
  within_passed deleted zero (x ∷ es) e h = absurd h
  within_passed deleted (suc n) (x ∷ es) e (inl h) = inl h
  within_passed deleted (suc n) (x ∷ es) e (inr h) =
      let case : (b : Bool) → Among e (if b then passed deleted (suc n) es else passed deleted n es) → Among e es
      = λ b. elim b as (λ v. Among e (if v then passed deleted (suc n) es else passed deleted n es) → Among e es)
      [ true ↦ within_passed deleted (suc n) es e | false ↦ within_passed deleted n es e ] in
      inr (case (listed deleted x.0) h)

  within_behind : (deleted : List Id) (n : ℕ) (es : List (Entry F)) (e : Entry F) → Among e (behind deleted n es)
      → Among e es
  within_behind deleted n [] e h = h
  within_behind deleted zero (x ∷ es) e h = h
  within_behind deleted (suc n) (x ∷ es) e h =
      let case : (b : Bool) → Among e (if b then behind deleted (suc n) es else behind deleted n es) → Among e es
      = λ b. elim b as (λ v. Among e (if v then behind deleted (suc n) es else behind deleted n es) → Among e es)
      [ true ↦ within_behind deleted (suc n) es e | false ↦ within_behind deleted n es e ] in
      inr (case (listed deleted x.0) h)

  pub newly_of : (name : Name) (es : List (Entry F)) (x : Id) → Among x (pending_ids (newly_pending name es))
      → Among x (ids_of es)
  newly_of name [] x h = h
  newly_of name (e ∷ es) x (inl h) = inl h
  newly_of name (e ∷ es) x (inr h) = inr (newly_of name es x h)

  ids_left : (x : Id) (es fs : List (Entry F)) → Among x (ids_of es) → Among x (ids_of (es ++ fs))
  ids_left x es fs h =
      let s = among_of_map (λ (e : Entry F). e.0) x es h in
      let P : Id → Type 0 = λ i. Among i (ids_of (es ++ fs)) in
      subst P s.is (among_map (λ (e : Entry F). e.0) s.x (es ++ fs) (among_left s.x es fs s.within))

  ids_right : (x : Id) (es fs : List (Entry F)) → Among x (ids_of fs) → Among x (ids_of (es ++ fs))
  ids_right x es fs h =
      let s = among_of_map (λ (e : Entry F). e.0) x fs h in
      let P : Id → Type 0 = λ i. Among i (ids_of (es ++ fs)) in
      subst P s.is (among_map (λ (e : Entry F). e.0) s.x (es ++ fs) (among_right s.x es fs s.within))

  appends : (w : World F) → Held w → (n : Numbers) (fields : F) (b : Bool) → (is_below w.last n && fits n) ≡ b
      → Held (if b then record w { fresh = w.fresh ++ (id_text n, fields) ∷ []; last = n } else w)
  appends w i n fields false q = i
  appends w i n fields true q = record {
    handed_out = i.handed_out;
    no_end = λ e h k. elim (among_split e w.seen (w.fresh ++ (id_text n, fields) ∷ []) h) [
      | inl a ↦ i.no_end e (among_left e w.seen w.fresh a) k
      | inr a ↦ elim (among_split e w.fresh ((id_text n, fields) ∷ []) a) [
        | inl b ↦ i.no_end e (among_right e w.seen w.fresh b) k
        | inr b ↦ elim b [
          | inl c ↦ not_the_end w.last n (and_left (is_below w.last n) (fits n) q)
              (and_right (is_below w.last n) (fits n) q) (ap (λ (z : Entry F). z.0) c ∙ k)
          | inr z ↦ absurd z
        ]
      ]
    ];
  }

  deletes : (w : World F) → Held w → (id : Id) (b : Bool) → Held (if b then record w { deleted = id ∷ w.deleted } else w)
  deletes w i id true = record { handed_out = i.handed_out; no_end = i.no_end }
  deletes w i id false = i

  reads : (w : World F) → Held w → (name : Name) (n : ℕ) → Held (happens w (Read name n))
  reads w i name n =
      let es : List (Entry F) = given w.deleted n w.fresh in
      let more : List (Entry F) = passed w.deleted n w.fresh in
      record {
        handed_out = λ x h.
            let P : List Id → Type 0 = λ l. Among x l in
            elim (among_split x (pending_ids w.pending) (pending_ids (newly_pending name es))
            (subst P (ids_append w.pending (newly_pending name es)) h)) [
              | inl a ↦ ids_left x w.seen more (i.handed_out x a)
              | inr a ↦
                  (let s = among_of_map (λ (e : Entry F). e.0) x es (newly_of name es x a) in
                  let Q : Id → Type 0 = λ z. Among z (ids_of (w.seen ++ more)) in
                  subst Q s.is (ids_right s.x.0 w.seen more (among_map (λ (e : Entry F). e.0) s.x more
                  (given_passed w.deleted n w.fresh s.x s.within))))
            ];
        no_end = λ e h. elim (among_split e (w.seen ++ more) (behind w.deleted n w.fresh) h) [
          | inl a ↦ elim (among_split e w.seen more a) [
            | inl b ↦ i.no_end e (among_left e w.seen w.fresh b)
            | inr b ↦ i.no_end e (among_right e w.seen w.fresh (within_passed w.deleted n w.fresh e b))
          ]
          | inr a ↦ i.no_end e (among_right e w.seen w.fresh (within_behind w.deleted n w.fresh e a))
        ];
      }

  rereads : (w : World F) → Held w → (name : Name) (pick : Id → Bool) → Held (happens w (Reread name pick))
  rereads w i name pick = record {
    handed_out = λ x h.
        let P : List Id → Type 0 = λ l. Among x l in
        i.handed_out x (subst P (raised_ids pick name w.deleted w.pending) h);
    no_end = i.no_end;
  }

  answers : (w : World F) → Held w → (vs : List Verdict) (k : ℕ) (o : Option (Reply F)) → Held (comes w k o vs)
  answers w i vs k None = i
  answers w i vs k (Some r) = record { handed_out = i.handed_out; no_end = i.no_end }

  acks : (w : World F) → Held w → (o : Option (Name × List Id)) → Held (ack_comes w o)
  acks w i None = i
  acks w i (Some a) =
      record { handed_out = λ x h. i.handed_out x (after_of a.1 w.pending x h); no_end = i.no_end }

  each : (w : World F) → Held w → (e : Event F) → Held (happens w e)
  each w i (Append n fields) = appends w i n fields (is_below w.last n && fits n) refl
  each w i (Delete id) = deletes w i id (listed (ids_of (log_of w)) id)
  each w i (Read c n) = reads w i c n
  each w i (Reread c pick) = rereads w i c pick
  each w i (Claim c pick next) = record {
    handed_out = λ x h. i.handed_out x (claimed_of 1 pick c w.deleted w.pending x h);
    no_end = i.no_end;
  }
  each w i (Claim_ids c pick) = record {
    handed_out = λ x h. i.handed_out x (claimed_of 0 pick c w.deleted w.pending x h);
    no_end = i.no_end;
  }
  each w i (Comes k vs) = answers w i vs k (item w.replies k)
  each w i (Commit c) = record { handed_out = i.handed_out; no_end = i.no_end }
  each w i (Acknowledge c) = record { handed_out = i.handed_out; no_end = i.no_end }
  each w i (Ack_comes k) = acks w i (item w.acks k)
  each w i (Go_back c) = record { handed_out = i.handed_out; no_end = i.no_end }
  each w i (Crash c every keeps ids) = record { handed_out = i.handed_out; no_end = i.no_end }

  over : (es : List (Event F)) (w : World F) → Held w → Held (run es w)
  over [] w i = i
  over (e ∷ es) w i = over es (happens w e) (each w i e)

  at_first : Held empty_world
  at_first = record { handed_out = λ x h. absurd h; no_end = λ e h. absurd h }

  -- of the log and of what is pending
  pub record IsGood (pending : List Pending) (seen fresh : List (Entry F)) : Type 0 where
    pub distinct : AreDistinct (seen ++ fresh)
    pub no_end : (e : Entry F) → Among e (seen ++ fresh) → e.0 ≡ codes "0-0" → ⊥
    pub handed_out : (x : Id) → listed (pending_ids pending) x ≡ true → listed (ids_of seen) x ≡ true

  pub always_good : (es : List (Event F)) →
      let w : World F = run es empty_world in IsGood w.pending w.seen w.fresh
  always_good es =
      let i = over es empty_world at_first in
      let w : World F = run es empty_world in
      record {
        distinct = always_distinct es;
        no_end = i.no_end;
        handed_out = λ x h. among_listed x (ids_of w.seen) (i.handed_out x (listed_among (pending_ids w.pending) x h));
      }
