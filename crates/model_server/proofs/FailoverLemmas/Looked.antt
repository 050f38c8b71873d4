-- No id is twice in the file of a consumer that checks its file.
use Rattle.std.proofs.Common.{◌≡◌, ◌⊎◌, inl, inr, refl, sym, ap, subst, ◌∙◌, ℕ, Bool, true, false, ◌&&◌, List, [], ◌∷◌, ◌++◌}
use Rattle.std.proofs.Common.{take, drop, append_assoc, Option, Some, None, if◌then◌else◌}
use Rattle.std.specs.Option.{is_none}
use Rattle.std.proofs.lemmas.List.{take-append-drop}
use Rattle.model_server.specs.Group.Worker.{Id, Entry, Verdict, Answer, entries_in, handled_in}
use Rattle.model_server.specs.Group.Group.{Name, ids_of, listed}
use Rattle.model_server.specs.Group.World.{item}
use Rattle.model_server.specs.Group.World as group
use Rattle.model_server.specs.Group.Law.{Among}
use Rattle.model_server.proofs.GroupLemmas.Among.{listed_among}
use Rattle.model_server.specs.Once.Consumer.{Consumer, new_consumer, is_empty, is_idle, syncs, restarts}
use Rattle.model_server.specs.Once.World.{Setting, Send, Arrive, Arrive_late, Hear, Break, Ask, Take, Sync}
use Rattle.model_server.specs.Once.World.{Acknowledge_now, Acknowledge_later, Reconnect, Restart, Else, asked, acknowledges}
use Rattle.model_server.specs.Once.World as once
use Rattle.model_server.specs.Once.Law.{Once}
use Rattle.model_server.proofs.OnceLemmas.Apart.{once_left, once_both, among_listed, ids_both}
use Rattle.model_server.proofs.OnceLemmas.Fill.{append_nil}
use Rattle.model_server.specs.Failover.Lookup.{unwritten, lines_of, looks_up, Move, Told, Takes, Commits, Reconnects, Restarts}
use Rattle.model_server.specs.Failover.Lookup.{moved, moved_on}
use Rattle.model_server.specs.Failover.World.{World, Event, Plain, Arrive_waits, Ask_waits, Failover, fails_over, is_confirmed, plainly}
use Rattle.model_server.specs.Failover.World.{happens, run, first_world}
use Rattle.model_server.specs.Failover.Law.{after, FileOnce, FileOnceOfAnyServer}

module _ {F : Type 0} where
  -- what gets a line is of the entries
  pub unwritten_within : (ids : List Id) (es : List (Entry F)) (e : Entry F) → Among e (unwritten ids es) → Among e es
  unwritten_within ids [] e h = absurd h
  unwritten_within ids (x ∷ es) e h =
      let case : (b : Bool) → Among e (if b then unwritten ids es else x ∷ unwritten (x.0 ∷ ids) es) → Among e (x ∷ es)
      = λ b. elim b as (λ b. Among e (if b then unwritten ids es else x ∷ unwritten (x.0 ∷ ids) es) → Among e (x ∷ es)) [
        | true ↦ λ a. inr (unwritten_within ids es e a)
        | false ↦ λ a. elim a [ inl q ↦ inl q | inr r ↦ inr (unwritten_within (x.0 ∷ ids) es e r) ]
      ] in
      case (listed ids x.0) h

  -- each of them has a line then
  pub unwritten_covers : (ids : List Id) (es : List (Entry F)) (id : Id) → Among id (ids_of es)
      → Among id ids ⊎ Among id (ids_of (unwritten ids es))
  unwritten_covers ids [] id h = absurd h
  unwritten_covers ids (x ∷ es) id h =
      let rest : (b : Bool) → listed ids x.0 ≡ b → Among id (ids_of (x ∷ es))
      → Among id ids ⊎ Among id (ids_of (if b then unwritten ids es else x ∷ unwritten (x.0 ∷ ids) es))
      = λ b. elim b as (λ b. listed ids x.0 ≡ b → Among id (ids_of (x ∷ es))
      → Among id ids ⊎ Among id (ids_of (if b then unwritten ids es else x ∷ unwritten (x.0 ∷ ids) es))) [
        | true ↦ λ q a. elim a [
          | inl e ↦ inl (let P : Id → Type 0 = λ i. Among i ids in subst P e (listed_among ids x.0 q))
          | inr r ↦ unwritten_covers ids es id r
        ]
        | false ↦ λ q a. elim a [
          | inl e ↦ inr (inl e)
          | inr r ↦ elim (unwritten_covers (x.0 ∷ ids) es id r) [
            | inl c ↦ elim c [ inl e ↦ inr (inl e) | inr d ↦ inl d ]
            | inr c ↦ inr (inr c)
          ]
        ]
      ] in
      rest (listed ids x.0) refl h

  -- none of them has one of the ids
  apart : (ids : List Id) (es : List (Entry F)) (id : Id) → Among id ids → Among id (ids_of (unwritten ids es)) → ⊥
  apart ids [] id h k = k
  apart ids (x ∷ es) id h k =
      let case : (b : Bool) → listed ids x.0 ≡ b
      → Among id (ids_of (if b then unwritten ids es else x ∷ unwritten (x.0 ∷ ids) es)) → ⊥
      = λ b. elim b as (λ b. listed ids x.0 ≡ b
      → Among id (ids_of (if b then unwritten ids es else x ∷ unwritten (x.0 ∷ ids) es)) → ⊥) [
        | true ↦ λ q a. apart ids es id h a
        | false ↦ λ q a. elim a [
          | inl e ↦
              (let P : Id → Type 0 = λ i. Among i ids in
              let t : listed ids x.0 ≡ true = among_listed ids x.0 (subst P (sym e) h) in
              absurd (let u : false ≡ true = sym q ∙ t in cc))
          | inr r ↦ apart (x.0 ∷ ids) es id (inr h) r
        ]
      ] in
      case (listed ids x.0) refl k

  once_unwritten : (ids : List Id) (es : List (Entry F)) → Once (ids_of (unwritten ids es))
  once_unwritten ids [] = tt
  once_unwritten ids (x ∷ es) =
      let case : (b : Bool) → Once (ids_of (if b then unwritten ids es else x ∷ unwritten (x.0 ∷ ids) es))
      = λ b. elim b as (λ b. Once (ids_of (if b then unwritten ids es else x ∷ unwritten (x.0 ∷ ids) es))) [
        | true ↦ once_unwritten ids es
        | false ↦ (λ a. apart (x.0 ∷ ids) es x.0 (inl refl) a, once_unwritten (x.0 ∷ ids) es)
      ] in
      case (listed ids x.0)

  -- no id has two lines
  abbrev pub Single : Consumer F → Type 0
  Single c = Once (ids_of (lines_of c))

  looking : (c : Consumer F) (vs : List Verdict) (o : Option (Answer F)) → Single c → Single (looks_up vs o c)
  looking c vs None h = h
  looking c vs (Some a) h =
      let ids : List Id = ids_of (lines_of c) in
      let new : List (Entry F) = unwritten ids (handled_in (entries_in a) vs) in
      let all_is : c.file ++ (c.lines ++ new) ≡ (c.file ++ c.lines) ++ new = sym (append_assoc c.file c.lines new) in
      subst Once (sym (ap ids_of all_is ∙ ids_both (lines_of c) new))
      (once_both ids (ids_of new) h (once_unwritten ids (handled_in (entries_in a) vs))
      (λ id x y. apart ids (handled_in (entries_in a) vs) id x y))

  syncing : (c : Consumer F) (b : Bool) → Single c → Single (if b then syncs c else c)
  syncing c true h = subst Once (sym (ap ids_of (append_nil (c.file ++ c.lines)))) h
  syncing c false h = h

  restarting : (c : Consumer F) (every kept more : ℕ) → Single c → Single (restarts every kept more c)
  restarting c every kept more h =
      let some : List (Entry F) = take kept c.lines in
      let cut : List (Entry F) = drop kept c.lines in
      let all_is : c.file ++ c.lines ≡ (c.file ++ some) ++ cut =
      ap (λ l. c.file ++ l) (sym (take-append-drop kept c.lines)) ∙ sym (append_assoc c.file some cut) in
      subst Once (sym (ap ids_of (append_nil (c.file ++ some))))
      (once_left (ids_of (c.file ++ some)) (ids_of cut)
      (subst Once (ap ids_of all_is ∙ ids_both (c.file ++ some) cut) h))

  move : (c : Consumer F) (m : Move F) → Single c → Single (moved c m)
  move c (Told a) h = h
  move c (Takes vs) h = looking c vs c.answer h
  move c Commits h = syncing c (is_none c.answer && is_empty c.machine.to_acknowledge) h
  move c Reconnects h = h
  move c (Restarts every kept more) h = restarting c every kept more h

  move_on : (ms : List (Move F)) (c : Consumer F) → Single c → Single (moved_on ms c)
  move_on [] c h = h
  move_on (m ∷ ms) c h = move_on ms (moved c m) (move c m h)

  pub in_file : (c : Consumer F) → Single c → Once (ids_of c.file)
  in_file c h = once_left (ids_of c.file) (ids_of c.lines) (subst Once (ids_both c.file c.lines) h)

  -- the same in the world
  asks : (s : Setting F) (n : ℕ) (pick : Id → Bool) (next : Id) (w : once.World F) (b : Bool) → Single w.consumer
      → Single (if b then asked s.name n pick next w else w).consumer
  asks s n pick next w true h = h
  asks s n pick next w false h = h

  acks : (name : Name) (w : once.World F) (b : Bool) → Single w.consumer
      → Single (if b then acknowledges name w else w).consumer
  acks name w true h = h
  acks name w false h = h

  plain : (s : Setting F) (w : once.World F) (e : once.Event F) → Single w.consumer → Single (plainly s w e).consumer
  plain s w (Send n) h = h
  plain s w (Arrive b) h = h
  plain s w (Arrive_late k b) h = h
  plain s w Hear h = h
  plain s w Break h = h
  plain s w (Ask n pick next) h = asks s n pick next w (is_idle w.consumer) h
  plain s w (Take vs) h = looking w.consumer vs w.consumer.answer h
  plain s w Sync h = syncing w.consumer (is_none w.consumer.answer && is_empty w.consumer.machine.to_acknowledge) h
  plain s w Acknowledge_now h = acks s.name w (is_none w.consumer.answer) h
  plain s w Acknowledge_later h = h
  plain s w Reconnect h = h
  plain s w (Restart every kept more) h = restarting w.consumer every kept more h
  plain s w (Else e) h = h

  fails : (w : World F) (o : Option (group.World F)) → Single w.now.consumer → Single (fails_over w o).now.consumer
  fails w None h = h
  fails w (Some k) h = h

  either : (w v : once.World F) (b : Bool) → Single w.consumer → Single v.consumer → Single (if b then w else v).consumer
  either w v true h k = h
  either w v false h k = k

  pub step : (s : Setting F) (w : World F) (e : Event F) → Single w.now.consumer → Single (happens s w e).now.consumer
  step s w (Plain e) h = plain s w.now e h
  step s w (Arrive_waits b asked said) h =
      let v : once.World F = once.happens s w.now (Arrive b) in
      either v (once.happens s v Break) (is_confirmed asked said) h h
  step s w (Ask_waits n pick next asked said) h =
      let v : once.World F = once.happens s w.now (Ask n pick next) in
      let k = asks s n pick next w.now (is_idle w.now.consumer) h in
      either v (once.happens s v Reconnect) (is_confirmed asked said) k k
  step s w (Failover k) h = fails w (item w.kept k) h

  steps : (s : Setting F) (es : List (Event F)) (w : World F) → Single w.now.consumer → Single (run s es w).now.consumer
  steps s [] w h = h
  steps s (e ∷ es) w h = steps s es (happens s w e) (step s w e h)

pub once_on : {F : Type 0} (s : Setting F) (es more : List (Event F))
    → Once (ids_of (run s more (after s es)).now.consumer.file)
once_on s es more =
    in_file (run s more (after s es)).now.consumer (steps s more (after s es) (steps s es first_world tt))

pub file_once : {F : Type 0} → FileOnce F
file_once s es = in_file (after s es).now.consumer (steps s es first_world tt)

pub file_once_of_any_server : {F : Type 0} → FileOnceOfAnyServer F
file_once_of_any_server {F} ms =
    in_file (moved_on ms (new_consumer {F = F})) (move_on ms (new_consumer {F = F}) tt)
