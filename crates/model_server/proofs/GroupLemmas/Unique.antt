-- The log ascends by its ids, so no two of its entries have one id; and it only grows.
use Rattle.std.proofs.Common.{◌≡◌, ◌⊎◌, inl, inr, refl, sym, ap, subst, ◌∙◌, ℕ, zero, suc, Bool, true, false, ◌&&◌}
use Rattle.std.proofs.Common.{IsTrue, List, [], ◌∷◌, ◌++◌, map, append_assoc, Option, Some, None, if◌then◌else◌}
use Rattle.model_server.specs.Group.Worker.{Id, Entry, Verdict}
use Rattle.model_server.specs.Group.Group.{Numbers, id_text, is_below, fits, listed, ids_of, passed, behind}
use Rattle.model_server.specs.Group.World.{World, Reply, Event, Append, Delete, Read, Reread, Claim, Claim_ids, Comes, Commit}
use Rattle.model_server.specs.Group.World.{Acknowledge, Ack_comes, Go_back, Crash, item, comes, ack_comes, happens, run}
use Rattle.model_server.specs.Group.World.{empty_world, log_of}
use Rattle.model_server.specs.Group.Law.{Among, Ascends, LogAscends, IdsAreUnique}
use Rattle.model_server.proofs.GroupLemmas.Among.{among_left, among_split, among_map, among_of_map, and_left, and_right}
use Rattle.model_server.proofs.GroupLemmas.Numbers.{id_text_injective, below_further, not_below_itself}

passed_behind : {F : Type 0} (deleted : List Id) (n : ℕ) (es : List (Entry F))
    → passed deleted n es ++ behind deleted n es ≡ es
passed_behind deleted n [] = refl
passed_behind deleted zero (x ∷ es) = refl
passed_behind deleted (suc n) (x ∷ es) =
    let case : (b : Bool) → (x ∷ (if b then passed deleted (suc n) es else passed deleted n es))
    ++ (if b then behind deleted (suc n) es else behind deleted n es) ≡ x ∷ es
    = λ b. elim b as (λ v. (x ∷ (if v then passed deleted (suc n) es else passed deleted n es))
    ++ (if v then behind deleted (suc n) es else behind deleted n es) ≡ x ∷ es) [
      | true ↦ ap (λ r. x ∷ r) (passed_behind deleted (suc n) es)
      | false ↦ ap (λ r. x ∷ r) (passed_behind deleted n es)
    ] in
    case (listed deleted x.0)

ascends_more : (ns : List Numbers) (n : Numbers) → Ascends ns → ((m : Numbers) → Among m ns → IsTrue (is_below m n))
    → Ascends (ns ++ n ∷ [])
ascends_more [] n a h = (λ m k. absurd k, tt)
ascends_more (x ∷ ns) n a h = (
  λ m k. elim (among_split m ns (n ∷ []) k) [
    | inl b ↦ a.0 m b
    | inr b ↦ elim b [
      | inl e ↦ (let P : Numbers → Type 0 = λ z. IsTrue (is_below x z) in subst P e (h x (inl refl)))
      | inr z ↦ absurd z
    ]
  ],
  ascends_more ns n a.1 (λ m k. h m (inr k)),
)

texts_more : (ns : List Numbers) (n : Numbers) → map id_text (ns ++ n ∷ []) ≡ map id_text ns ++ id_text n ∷ []
texts_more [] n = refl
texts_more (x ∷ ns) n = ap (λ l. id_text x ∷ l) (texts_more ns n)

-- the log has the texts of these, which ascend up to the last one
pub record Ordered {F : Type 0} (log : List (Entry F)) (last : Numbers) : Type 0 where
  pub ns : List Numbers
  pub texts : ids_of log ≡ map id_text ns
  pub ascends : Ascends ns
  pub up_to : (n : Numbers) → Among n ns → (is_below n last ≡ true) ⊎ (n ≡ last)
  pub fit : (n : Numbers) → Among n ns → fits n ≡ true

at_first : {F : Type 0} → Ordered (log_of (empty_world {F = F})) (0, 0)
at_first = record { ns = []; texts = refl; ascends = tt; up_to = λ n h. absurd h; fit = λ n h. absurd h }

module _ {F : Type 0} where
  ids_more : (es : List (Entry F)) (e : Entry F) → ids_of (es ++ e ∷ []) ≡ ids_of es ++ e.0 ∷ []
  ids_more [] e = refl
  ids_more (x ∷ es) e = ap (λ l. x.0 ∷ l) (ids_more es e)

  one_more : (log : List (Entry F)) (last n : Numbers) (fields : F) → is_below last n ≡ true → fits n ≡ true
      → Ordered log last → Ordered (log ++ (id_text n, fields) ∷ []) n
  one_more log last n fields above fit o =
      let all : (m : Numbers) → Among m o.ns → is_below m n ≡ true
      = λ m k. elim (o.up_to m k) [
        | inl b ↦ below_further m last n b above
        | inr e ↦ (let P : Numbers → Type 0 = λ z. is_below z n ≡ true in subst P (sym e) above)
      ] in
      record {
        ns = o.ns ++ n ∷ [];
        texts = ids_more log (id_text n, fields) ∙ (ap (λ l. l ++ id_text n ∷ []) o.texts ∙ sym (texts_more o.ns n));
        ascends = ascends_more o.ns n o.ascends all;
        up_to = λ m k. elim (among_split m o.ns (n ∷ []) k) [
          | inl b ↦ inl (all m b)
          | inr b ↦ elim b [ inl e ↦ inr (sym e) | inr z ↦ absurd z ]
        ];
        fit = λ m k. elim (among_split m o.ns (n ∷ []) k) [
          | inl b ↦ o.fit m b
          | inr b ↦ elim b [
            | inl e ↦ (let P : Numbers → Type 0 = λ z. fits z ≡ true in subst P e fit)
            | inr z ↦ absurd z
          ]
        ];
      }

  abbrev pub Placed : World F → Type 0
  Placed w = Ordered (log_of w) w.last

  appends : (w : World F) (n : Numbers) (fields : F) → Placed w → (b : Bool) → (is_below w.last n && fits n) ≡ b
      → Placed (if b then record w { fresh = w.fresh ++ (id_text n, fields) ∷ []; last = n } else w)
  appends w n fields o false q = o
  appends w n fields o true q =
      let P : List (Entry F) → Type 0 = λ l. Ordered l n in
      subst P (append_assoc w.seen w.fresh ((id_text n, fields) ∷ []))
      (one_more (log_of w) w.last n fields (and_left (is_below w.last n) (fits n) q)
      (and_right (is_below w.last n) (fits n) q) o)

  deletes : (w : World F) (id : Id) → Placed w → (b : Bool)
      → Placed (if b then record w { deleted = id ∷ w.deleted } else w)
  deletes w id o true = o
  deletes w id o false = o

  answers : (w : World F) (k : ℕ) (vs : List Verdict) → Placed w → (r : Option (Reply F)) → Placed (comes w k r vs)
  answers w k vs o None = o
  answers w k vs o (Some r) = o

  acks : (w : World F) → Placed w → (a : Option (List ℕ × List Id)) → Placed (ack_comes w a)
  acks w o None = o
  acks w o (Some a) = o

  read_same : (w : World F) (n : ℕ) → (w.seen ++ passed w.deleted n w.fresh) ++ behind w.deleted n w.fresh ≡ log_of w
  read_same w n =
      append_assoc w.seen (passed w.deleted n w.fresh) (behind w.deleted n w.fresh)
      ∙ ap (λ l. w.seen ++ l) (passed_behind w.deleted n w.fresh)

  each : (w : World F) (e : Event F) → Placed w → Placed (happens w e)
  each w (Append n fields) o = appends w n fields o (is_below w.last n && fits n) refl
  each w (Delete id) o = deletes w id o (listed (ids_of (log_of w)) id)
  each w (Read c n) o =
      let P : List (Entry F) → Type 0 = λ l. Ordered l w.last in subst P (sym (read_same w n)) o
  each w (Reread c pick) o = o
  each w (Claim c pick next) o = o
  each w (Claim_ids c pick) o = o
  each w (Comes k vs) o = answers w k vs o (item w.replies k)
  each w (Commit c) o = o
  each w (Acknowledge c) o = o
  each w (Ack_comes k) o = acks w o (item w.acks k)
  each w (Go_back c) o = o
  each w (Crash c every keeps ids) o = o

  over : (es : List (Event F)) (w : World F) → Placed w → Placed (run es w)
  over [] w o = o
  over (e ∷ es) w o = over es (happens w e) (each w e o)

  pub placed : (es : List (Event F)) → Placed (run es empty_world)
  placed es = over es empty_world at_first

  pub log_ascends : LogAscends F
  log_ascends es = let o = placed es in (o.ns, o.texts, o.ascends)

  abbrev Unique : List (Entry F) → Type 0
  Unique log = (id : Id) (a b : F) → Among (id, a) log → Among (id, b) log → a ≡ b

  -- the first of ascending numbers is none of those after it
  not_behind : (n : Numbers) (ns : List Numbers) (es : List (Entry F)) (id : Id) (f : F) → id ≡ id_text n
      → ids_of es ≡ map id_text ns
      → ((m : Numbers) → Among m ns → IsTrue (is_below n m)) → fits n ≡ true
      → ((m : Numbers) → Among m ns → fits m ≡ true)
      → Among (id, f) es → ⊥
  not_behind n ns es id f e t above fit all h =
      let here : Among id (ids_of es) = among_map (λ (x : Entry F). x.0) (id, f) es h in
      let P : List Id → Type 0 = λ l. Among id l in
      let s = among_of_map id_text id ns (subst P t here) in
      let same : n ≡ s.x = id_text_injective n s.x fit (all s.x s.within) (sym e ∙ sym s.is) in
      let Q : Numbers → Type 0 = λ z. is_below n z ≡ true in
      not_below_itself n (subst Q (sym same) (above s.x s.within))

  unique : (log : List (Entry F)) (ns : List Numbers) → ids_of log ≡ map id_text ns → Ascends ns
      → ((n : Numbers) → Among n ns → fits n ≡ true) → Unique log
  unique [] ns t a fit id x y h k = absurd h
  unique (e ∷ log) [] t a fit id x y h k = absurd (let z : e.0 ∷ ids_of log ≡ [] = t in cc)
  unique (e ∷ log) (n ∷ ns) t a fit id x y h k =
      let z : e.0 ∷ ids_of log ≡ id_text n ∷ map id_text ns = t in
      let first : e.0 ≡ id_text n = cc in
      let rest : ids_of log ≡ map id_text ns = cc in
      let apart : (f g : F) → e ≡ (id, f) → Among (id, g) log → ⊥
      = λ f g p m. not_behind n ns log id g (sym (ap (λ (v : Entry F). v.0) p) ∙ first) rest a.0 (fit n (inl refl))
      (λ m k. fit m (inr k)) m in
      elim h [
        | inl p ↦ elim k [
          | inl q ↦ (sym (ap (λ (v : Entry F). v.1) p) ∙ ap (λ (v : Entry F). v.1) q)
          | inr q ↦ absurd (apart x y p q)
        ]
        | inr p ↦ elim k [
          | inl q ↦ absurd (apart y x q p)
          | inr q ↦ unique log ns rest a.1 (λ m k. fit m (inr k)) id x y p q
        ]
      ]

  pub ids_unique : IdsAreUnique F
  ids_unique es = let o = placed es in unique (log_of (run es empty_world)) o.ns o.texts o.ascends o.fit

  -- what was added stays in the log
  abbrev pub Grows : World F → World F → Type 0
  Grows w v = (e : Entry F) → Among e (log_of w) → Among e (log_of v)

  log_appends : (w : World F) (n : Numbers) (fields : F) (b : Bool)
      → Grows w (if b then record w { fresh = w.fresh ++ (id_text n, fields) ∷ []; last = n } else w)
  log_appends w n fields false e h = h
  log_appends w n fields true e h =
      let P : List (Entry F) → Type 0 = λ l. Among e l in
      subst P (append_assoc w.seen w.fresh ((id_text n, fields) ∷ []))
      (among_left e (log_of w) ((id_text n, fields) ∷ []) h)

  log_deletes : (w : World F) (id : Id) (b : Bool) → Grows w (if b then record w { deleted = id ∷ w.deleted } else w)
  log_deletes w id true e h = h
  log_deletes w id false e h = h

  log_answers : (w : World F) (k : ℕ) (vs : List Verdict) (r : Option (Reply F)) → Grows w (comes w k r vs)
  log_answers w k vs None e h = h
  log_answers w k vs (Some r) e h = h

  log_acks : (w : World F) (a : Option (List ℕ × List Id)) → Grows w (ack_comes w a)
  log_acks w None e h = h
  log_acks w (Some a) e h = h

  log_each : (w : World F) (x : Event F) → Grows w (happens w x)
  log_each w (Append n fields) e h = log_appends w n fields (is_below w.last n && fits n) e h
  log_each w (Delete id) e h = log_deletes w id (listed (ids_of (log_of w)) id) e h
  log_each w (Read c n) e h = let P : List (Entry F) → Type 0 = λ l. Among e l in subst P (sym (read_same w n)) h
  log_each w (Reread c pick) e h = h
  log_each w (Claim c pick next) e h = h
  log_each w (Claim_ids c pick) e h = h
  log_each w (Comes k vs) e h = log_answers w k vs (item w.replies k) e h
  log_each w (Commit c) e h = h
  log_each w (Acknowledge c) e h = h
  log_each w (Ack_comes k) e h = log_acks w (item w.acks k) e h
  log_each w (Go_back c) e h = h
  log_each w (Crash c every keeps ids) e h = h

  pub log_grows : (es : List (Event F)) (w : World F) → Grows w (run es w)
  log_grows [] w e h = h
  log_grows (x ∷ es) w e h = log_grows es (happens w x) e (log_each w x e h)
