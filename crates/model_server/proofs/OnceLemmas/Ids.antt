-- No id is twice in the log, and the log only grows, whoever adds to it.
use Rattle.std.proofs.Common.{◌≡◌, ◌⊎◌, inl, inr, refl, sym, ap, subst, ◌∙◌, ℕ, Bool, true, false, ◌&&◌, List, [], ◌∷◌, ◌++◌}
use Rattle.std.proofs.Common.{append_assoc, append-nil, Option, Some, None, if◌then◌else◌}
use Rattle.std.specs.Option.{is_none}
use Rattle.model_server.specs.Group.Worker.{Id, Entry}
use Rattle.model_server.specs.Group.Group.{Name, Numbers, id_text, is_below, fits, ids_of}
use Rattle.model_server.specs.Group.World.{log_of, item, appended, Append}
use Rattle.model_server.specs.Group.World as group
use Rattle.model_server.specs.Group.Law.{Among}
use Rattle.model_server.proofs.GroupLemmas.Among.{among_split, and_left, and_right}
use Rattle.model_server.proofs.GroupLemmas.Numbers.{id_text_injective, below_further, not_below_itself}
use Rattle.model_server.specs.Once.Feed.{Numbered, Request, ask_last, batch}
use Rattle.model_server.specs.Once.Producer.{add_all, filled_by}
use Rattle.model_server.specs.Once.Consumer.{is_idle}
use Rattle.model_server.specs.Once.World.{Setting, World, first_world, Event, Send, Arrive, Arrive_late, Hear, Break, Ask, Take, Sync}
use Rattle.model_server.specs.Once.World.{Acknowledge_now, Acknowledge_later, Reconnect, Restart, Else, asked, acknowledges}
use Rattle.model_server.specs.Once.World.{happens, run}
use Rattle.model_server.specs.Once.Law.{AreFirst, Once, LogOnce, LogGrows, after}
use Rattle.model_server.proofs.OnceLemmas.Same.{Same, same_else, same_asked}
use Rattle.model_server.proofs.OnceLemmas.Apart.{once_both, ids_both}

pub same : {A : Type 0} (xs : List A) → AreFirst xs xs
same xs = ([], append-nil xs)

pub further : {A : Type 0} (xs ys zs : List A) → AreFirst xs ys → AreFirst ys zs → AreFirst xs zs
further xs ys zs a b = (a.0 ++ b.0, sym (append_assoc xs a.0 b.0) ∙ (ap (λ l. l ++ b.0) a.1 ∙ b.1))

-- the id is that of an entry that was added before this last one, or of that
pub record UpTo (last : Numbers) (id : Id) : Type 0 where
  pub n : Numbers
  pub text : id_text n ≡ id
  pub fit : fits n ≡ true
  pub up : (is_below n last ≡ true) ⊎ (n ≡ last)

-- it is below the next one
below_next : (last n : Numbers) (id : Id) → is_below last n ≡ true → (u : UpTo last id) → is_below u.n n ≡ true
below_next last n id above u = elim u.up [
  | inl b ↦ below_further u.n last n b above
  | inr e ↦ (let P : Numbers → Type 0 = λ z. is_below z n ≡ true in subst P (sym e) above)
]

module _ {F : Type 0} where
  pub record Added (log : List (Entry F)) (last : Numbers) : Type 0 where
    pub once : Once (ids_of log)
    pub up_to : (id : Id) → Among id (ids_of log) → UpTo last id

  abbrev pub AddedIn : group.World F → Type 0
  AddedIn w = Added (log_of w) w.last

  one_more : (log : List (Entry F)) (last n : Numbers) (fields : F) → is_below last n ≡ true → fits n ≡ true
      → Added log last → Added (log ++ (id_text n, fields) ∷ []) n
  one_more log last n fields above fit a =
      let P : List Id → Id → Type 0 = λ l id. Among id l in
      let apart : (id : Id) → Among id (ids_of log) → id_text n ≡ id → ⊥ = λ id h e.
      (let u = a.up_to id h in
      let is : u.n ≡ n = id_text_injective u.n n u.fit fit (u.text ∙ sym e) in
      let Q : Numbers → Type 0 = λ z. is_below z n ≡ true in
      not_below_itself n (subst Q is (below_next last n id above u))) in
      record {
        once = subst Once (sym (ids_both log ((id_text n, fields) ∷ [])))
            (once_both (ids_of log) (id_text n ∷ []) a.once (λ k. k, tt)
            (λ id h k. elim k [ inl e ↦ apart id h e | inr z ↦ z ]));
        up_to = λ id h. elim (among_split id (ids_of log) (id_text n ∷ [])
            (subst (λ l. P l id) (ids_both log ((id_text n, fields) ∷ [])) h)) [
              | inl b ↦
                  (let u = a.up_to id b in
                  record { n = u.n; text = u.text; fit = u.fit; up = inl (below_next last n id above u) })
              | inr b ↦ elim b [ inl e ↦ record { n = n; text = e; fit = fit; up = inr refl } | inr z ↦ absurd z ]
            ];
      }

  with_entry : (w : group.World F) (n : Numbers) (fields : F) → AddedIn w → (b : Bool)
      → (is_below w.last n && fits n) ≡ b
      → AddedIn (if b then record w { fresh = w.fresh ++ (id_text n, fields) ∷ []; last = n } else w)
  with_entry w n fields a false q = a
  with_entry w n fields a true q =
      let P : List (Entry F) → Type 0 = λ l. Added l n in
      subst P (append_assoc w.seen w.fresh ((id_text n, fields) ∷ []))
      (one_more (log_of w) w.last n fields (and_left (is_below w.last n) (fits n) q)
      (and_right (is_below w.last n) (fits n) q) a)

  with_batch : (b : List (Numbered F)) (w : group.World F) → AddedIn w → AddedIn (add_all w b)
  with_batch [] w a = a
  with_batch (r ∷ rs) w a =
      with_batch rs (appended w r.0 r.1) (with_entry w r.0 r.1 a (is_below w.last r.0 && fits r.0) refl)

  with_request : (executes : Bool) (o : Option (Request F)) (w : group.World F) → AddedIn w → AddedIn (filled_by executes w o)
  with_request executes None w a = a
  with_request executes (Some ask_last) w a = a
  with_request true (Some (batch b)) w a = with_batch b w a
  with_request false (Some (batch b)) w a = a

  as_before : (v w : group.World F) → Same v w → AddedIn w → AddedIn v
  as_before v w s a =
      let P : List (Entry F) → Type 0 = λ l. Added l v.last in
      let Q : Numbers → Type 0 = λ n. Added (log_of w) n in
      subst P (sym s.0) (subst Q (sym s.1) a)

  with_else : (w : group.World F) (e : group.Event F) → AddedIn w → AddedIn (group.happens w e)
  with_else w (Append n fields) a = with_entry w n fields a (is_below w.last n && fits n) refl
  with_else w e a = as_before (group.happens w e) w (same_else w e tt) a

  with_asked : (name : Name) (n : ℕ) (pick : Id → Bool) (next : Id) (w : World F) → AddedIn w.stream → (b : Bool)
      → AddedIn (if b then asked name n pick next w else w).stream
  with_asked name n pick next w a false = a
  with_asked name n pick next w a true =
      as_before (asked name n pick next w).stream w.stream (same_asked name n pick next w.consumer.machine.phase w.stream) a

  with_ack : (name : Name) (w : World F) → AddedIn w.stream → (b : Bool)
      → AddedIn (if b then acknowledges name w else w).stream
  with_ack name w a false = a
  with_ack name w a true = record { once = a.once; up_to = a.up_to }

  -- each event keeps it
  pub added_then : (s : Setting F) (w : World F) (e : Event F) → AddedIn w.stream → AddedIn (happens s w e).stream
  added_then s w (Send n) a = a
  added_then s w (Arrive b) a = with_request b w.producer.sent w.stream a
  added_then s w (Arrive_late k b) a = with_request b (item w.producer.late k) w.stream a
  added_then s w Hear a = a
  added_then s w Break a = a
  added_then s w (Ask n pick next) a = with_asked s.name n pick next w a (is_idle w.consumer)
  added_then s w (Take vs) a = a
  added_then s w Sync a = a
  added_then s w Acknowledge_now a = with_ack s.name w a (is_none w.consumer.answer)
  added_then s w Acknowledge_later a = record { once = a.once; up_to = a.up_to }
  added_then s w Reconnect a = a
  added_then s w (Restart every kept more) a = a
  added_then s w (Else e) a = with_else w.stream e a

  pub none_added : AddedIn (first_world {F = F}).stream
  none_added = record { once = tt; up_to = λ id h. absurd h }

  added_over : (s : Setting F) (es : List (Event F)) (w : World F) → AddedIn w.stream → AddedIn (run s es w).stream
  added_over s [] w a = a
  added_over s (e ∷ es) w a = added_over s es (happens s w e) (added_then s w e a)

  pub always_added : (s : Setting F) (es : List (Event F)) → AddedIn (after s es).stream
  always_added s es = added_over s es first_world none_added

  -- ---- the log only grows

  abbrev Grew : group.World F → group.World F → Type 0
  Grew w v = AreFirst (log_of w) (log_of v)

  by_entry : (w : group.World F) (n : Numbers) (fields : F) (b : Bool)
      → Grew w (if b then record w { fresh = w.fresh ++ (id_text n, fields) ∷ []; last = n } else w)
  by_entry w n fields false = same (log_of w)
  by_entry w n fields true =
      ((id_text n, fields) ∷ [], append_assoc w.seen w.fresh ((id_text n, fields) ∷ []))

  by_batch : (b : List (Numbered F)) (w : group.World F) → Grew w (add_all w b)
  by_batch [] w = same (log_of w)
  by_batch (r ∷ rs) w =
      let v : group.World F = appended w r.0 r.1 in
      further (log_of w) (log_of v) (log_of (add_all v rs)) (by_entry w r.0 r.1 (is_below w.last r.0 && fits r.0))
      (by_batch rs v)

  by_request : (executes : Bool) (o : Option (Request F)) (w : group.World F) → Grew w (filled_by executes w o)
  by_request executes None w = same (log_of w)
  by_request executes (Some ask_last) w = same (log_of w)
  by_request true (Some (batch b)) w = by_batch b w
  by_request false (Some (batch b)) w = same (log_of w)

  by_same : (v w : group.World F) → Same v w → Grew w v
  by_same v w s = ([], append-nil (log_of w) ∙ sym s.0)

  by_else : (w : group.World F) (e : group.Event F) → Grew w (group.happens w e)
  by_else w (Append n fields) = by_entry w n fields (is_below w.last n && fits n)
  by_else w e = by_same (group.happens w e) w (same_else w e tt)

  by_asked : (name : Name) (n : ℕ) (pick : Id → Bool) (next : Id) (w : World F) (b : Bool)
      → Grew w.stream (if b then asked name n pick next w else w).stream
  by_asked name n pick next w false = same (log_of w.stream)
  by_asked name n pick next w true =
      by_same (asked name n pick next w).stream w.stream (same_asked name n pick next w.consumer.machine.phase w.stream)

  by_ack : (name : Name) (w : World F) (b : Bool) → Grew w.stream (if b then acknowledges name w else w).stream
  by_ack name w false = same (log_of w.stream)
  by_ack name w true = same (log_of w.stream)

  grew_then : (s : Setting F) (w : World F) (e : Event F) → Grew w.stream (happens s w e).stream
  grew_then s w (Send n) = same (log_of w.stream)
  grew_then s w (Arrive b) = by_request b w.producer.sent w.stream
  grew_then s w (Arrive_late k b) = by_request b (item w.producer.late k) w.stream
  grew_then s w Hear = same (log_of w.stream)
  grew_then s w Break = same (log_of w.stream)
  grew_then s w (Ask n pick next) = by_asked s.name n pick next w (is_idle w.consumer)
  grew_then s w (Take vs) = same (log_of w.stream)
  grew_then s w Sync = same (log_of w.stream)
  grew_then s w Acknowledge_now = by_ack s.name w (is_none w.consumer.answer)
  grew_then s w Acknowledge_later = same (log_of w.stream)
  grew_then s w Reconnect = same (log_of w.stream)
  grew_then s w (Restart every kept more) = same (log_of w.stream)
  grew_then s w (Else e) = by_else w.stream e

  grew_over : (s : Setting F) (es : List (Event F)) (w : World F) → Grew w.stream (run s es w).stream
  grew_over s [] w = same (log_of w.stream)
  grew_over s (e ∷ es) w =
      let v : World F = happens s w e in
      further (log_of w.stream) (log_of v.stream) (log_of (run s es v).stream) (grew_then s w e) (grew_over s es v)

pub has_each_once : {F : Type 0} → LogOnce F
has_each_once s es = (always_added s es).once

pub only_grows : {F : Type 0} → LogGrows F
only_grows s es more = grew_over s more (after s es)
