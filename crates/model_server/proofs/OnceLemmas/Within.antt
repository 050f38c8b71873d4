-- No commit adds more lines than a reply has entries.
use Rattle.std.proofs.Common.{◌≡◌, refl, ap, ◌∙◌, ℕ, zero, suc, ◌+◌, ◌≤◌, arith, Bool, true, false, ◌&&◌, List}
use Rattle.std.proofs.Common.{[], ◌∷◌, ◌++◌, length, take, Option, Some, None, if◌then◌else◌}
use Rattle.std.specs.Option.{is_none}
use Rattle.model_server.specs.Group.Worker.{Id, Entry, Delivered, Verdict, done, left_pending, stop, Answer, entries_in, follows}
use Rattle.model_server.specs.Group.Worker.{handled_in, acks_in, handled_one, acks_one}
use Rattle.model_server.specs.Group.Group.{Name}
use Rattle.model_server.proofs.GroupLemmas.Among.{and_left, and_right}
use Rattle.model_server.specs.Once.Consumer.{Consumer, is_empty, is_idle, answer_for, takes, syncs, last_added}
use Rattle.model_server.specs.Once.World.{Setting, World, Event, Send, Arrive, Arrive_late, Hear, Break, Ask, Take, Sync}
use Rattle.model_server.specs.Once.World.{Acknowledge_now, Acknowledge_later, Reconnect, Restart, Else, first_world, asked}
use Rattle.model_server.specs.Once.World.{acknowledges, happens, run}
use Rattle.model_server.specs.Once.Within.{IsWithin, AllWithin, CommitsAreWithin}
use Rattle.model_server.proofs.OnceLemmas.Write.{empty_if_none}

length_both : {A : Type 0} (xs ys : List A) → length (xs ++ ys) ≡ length xs + length ys
length_both [] ys = omega arith
length_both (x ∷ xs) ys = omega (arith, length_both xs ys)

taken_length : {A : Type 0} (k : ℕ) (xs : List A) → length (take k xs) ≤ length xs
taken_length zero xs = omega arith
taken_length (suc k) [] = omega arith
taken_length (suc k) (x ∷ xs) = omega (arith, taken_length k xs)

first_none : {A : Type 0} (xs ys : List A) → xs ++ ys ≡ [] → xs ≡ []
first_none [] ys h = refl
first_none (x ∷ xs) ys h = absurd (let e : x ∷ (xs ++ ys) ≡ [] = h in cc)

second_none : {A : Type 0} (xs ys : List A) → xs ++ ys ≡ [] → ys ≡ []
second_none [] ys h = h
second_none (x ∷ xs) ys h = absurd (let e : x ∷ (xs ++ ys) ≡ [] = h in cc)

module _ {F : Type 0} where
  one_length : (id : Id) (fields : Option F) (v : Verdict) → length (handled_one id fields v) ≤ 1
  one_length id None v = omega arith
  one_length id (Some f) done = omega arith
  one_length id (Some f) left_pending = omega arith
  one_length id (Some f) stop = omega arith

  handled_length : (es : List (Delivered F)) (vs : List Verdict) → length (handled_in es vs) ≤ length es
  handled_length [] vs = omega arith
  handled_length (e ∷ es) [] = omega arith
  handled_length (e ∷ es) (v ∷ vs) =
      let first : List (Entry F) = handled_one e.0 e.1 v in
      let rest : (b : Bool) → length (if b then handled_in es vs else []) ≤ length es
      = λ b. elim b as (λ b. length (if b then handled_in es vs else []) ≤ length es)
      [ true ↦ handled_length es vs | false ↦ omega arith ] in
      omega (
        arith,
        length_both first (if follows e.1 v then handled_in es vs else []),
        one_length e.0 e.1 v,
        rest (follows e.1 v),
      )

  -- an entry that was done is to be acknowledged
  one_none : (id : Id) (fields : Option F) (v : Verdict) → acks_one id fields v ≡ [] → handled_one id fields v ≡ []
  one_none id None v h = refl
  one_none id (Some f) done h = absurd (let e : id ∷ [] ≡ [] = h in cc)
  one_none id (Some f) left_pending h = refl
  one_none id (Some f) stop h = refl

  none_handled : (es : List (Delivered F)) (vs : List Verdict) → acks_in es vs ≡ [] → handled_in es vs ≡ []
  none_handled [] vs h = refl
  none_handled (e ∷ es) [] h = refl
  none_handled (e ∷ es) (v ∷ vs) h =
      let b : Bool = follows e.1 v in
      let rest : (b : Bool) → (if b then acks_in es vs else []) ≡ [] → (if b then handled_in es vs else []) ≡ []
      = λ b. elim b as (λ b. (if b then acks_in es vs else []) ≡ [] → (if b then handled_in es vs else []) ≡ [])
      [ true ↦ none_handled es vs | false ↦ λ q. refl ] in
      ap (λ l. l ++ (if b then handled_in es vs else []))
      (one_none e.0 e.1 v (first_none (acks_one e.0 e.1 v) (if b then acks_in es vs else []) h))
      ∙ rest b (second_none (acks_one e.0 e.1 v) (if b then acks_in es vs else []) h)

  module _ (number : ℕ) where
    -- with the entries of a reply on the way, its lines are not more
    abbrev Coming : Option (Answer F) → List (Entry F) → Type 0
    Coming None lines = Unit {0}
    Coming (Some a) lines = length lines + length (entries_in a) ≤ number

    record Short (c : Consumer F) : Type 0 where
      lines : length c.lines ≤ number
      last : c.last_commit ≤ number
      coming : Coming c.answer c.lines
      settled : c.machine.to_commit ≡ [] → c.lines ≡ []

    none_coming : (o : Option (Answer F)) (lines : List (Entry F)) → Coming o lines → Coming o []
    none_coming None lines h = tt
    none_coming (Some a) lines h = omega (arith, h)

    ask_short : (name : Name) (n : ℕ) (pick : Id → Bool) (next : Id) (w : World F)
        → length (entries_in (answer_for name n pick next w.consumer.machine.phase w.stream)) ≤ number
        → Short w.consumer → (b : Bool) → is_idle w.consumer ≡ b
        → Short (if b then asked name n pick next w else w).consumer
    ask_short name n pick next w h i false e = i
    ask_short name n pick next w h i true e =
        let c : Consumer F = w.consumer in
        let rest : (is_empty c.machine.to_commit && is_empty c.machine.to_acknowledge) ≡ true =
        and_right (is_none c.answer) (is_empty c.machine.to_commit && is_empty c.machine.to_acknowledge) e in
        let none : c.lines ≡ [] = i.settled (empty_if_none c.machine.to_commit
        (and_left (is_empty c.machine.to_commit) (is_empty c.machine.to_acknowledge) rest)) in
        record {
          lines = i.lines;
          last = i.last;
          coming = omega (arith, ap length none, h);
          settled = i.settled;
        }

    take_short : (c : Consumer F) (vs : List Verdict) → Short c → (o : Option (Answer F)) → Coming o c.lines
        → Short (takes vs o c)
    take_short c vs i None h = i
    take_short c vs i (Some a) h =
        let handled : List (Entry F) = handled_in (entries_in a) vs in
        let acks : List Id = acks_in (entries_in a) vs in
        record {
          lines = omega (arith, length_both c.lines handled, handled_length (entries_in a) vs, h);
          last = i.last;
          coming = tt;
          settled = λ q.
              ap (λ l. l ++ handled) (i.settled (first_none c.machine.to_commit acks q))
              ∙ none_handled (entries_in a) vs (second_none c.machine.to_commit acks q);
        }

    sync_short : (c : Consumer F) → Short c → (b : Bool) → Short (if b then syncs c else c)
    sync_short c i false = i
    sync_short c i true = record {
      lines = omega arith;
      last = i.lines;
      coming = none_coming c.answer c.lines i.coming;
      settled = λ q. refl;
    }

    now_short : (name : Name) (w : World F) → Short w.consumer → (b : Bool)
        → Short (if b then acknowledges name w else w).consumer
    now_short name w i false = i
    now_short name w i true = record {
      lines = i.lines;
      last = i.last;
      coming = omega (arith, i.lines);
      settled = i.settled;
    }

    last_short : (last : ℕ) (kept : List (Entry F)) → last ≤ number → length kept ≤ number → last_added last kept ≤ number
    last_short last [] h k = h
    last_short last (e ∷ es) h k = k

    cut_short : (c : Consumer F) → Short c → (kept : ℕ) → last_added c.last_commit (take kept c.lines) ≤ number
    cut_short c i kept =
        last_short c.last_commit (take kept c.lines) i.last (omega (arith, taken_length kept c.lines, i.lines))

    each_short : (s : Setting F) (w : World F) → Short w.consumer → (e : Event F) → IsWithin number s w e
        → Short (happens s w e).consumer
    each_short s w i (Send n) h = i
    each_short s w i (Arrive b) h = i
    each_short s w i (Arrive_late k b) h = i
    each_short s w i Hear h = i
    each_short s w i Break h = i
    each_short s w i (Ask n pick next) h = ask_short s.name n pick next w h i (is_idle w.consumer) refl
    each_short s w i (Take vs) h = take_short w.consumer vs i w.consumer.answer i.coming
    each_short s w i Sync h =
        sync_short w.consumer i (is_none w.consumer.answer && is_empty w.consumer.machine.to_acknowledge)
    each_short s w i Acknowledge_now h = now_short s.name w i (is_none w.consumer.answer)
    each_short s w i Acknowledge_later h = i
    each_short s w i Reconnect h = record { lines = i.lines; last = i.last; coming = tt; settled = i.settled }
    each_short s w i (Restart every kept more) h = record {
      lines = omega arith;
      last = cut_short w.consumer i kept;
      coming = tt;
      settled = λ q. refl;
    }
    each_short s w i (Else e) h = i

    short_over : (s : Setting F) (es : List (Event F)) (w : World F) → AllWithin number s w es → Short w.consumer
        → Short (run s es w).consumer
    short_over s [] w h i = i
    short_over s (e ∷ es) w h i = short_over s es (happens s w e) h.1 (each_short s w i e h.0)

pub commits_are_within : {F : Type 0} → CommitsAreWithin F
commits_are_within s events number h kept =
    let first : Short number first_world.consumer =
    record { lines = omega arith; last = omega arith; coming = tt; settled = λ q. refl } in
    cut_short number (run s events first_world).consumer (short_over number s events first_world h first) kept
