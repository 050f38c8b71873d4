-- The log is a prefix of the records, and what the producer knows is true.
use Rattle.std.proofs.Common.{◌≡◌, inl, inr, refl, sym, ap, subst, ◌∙◌, ℕ, ◌+◌, ◌≤◌, arith}
use Rattle.std.proofs.Common.{Bool, true, false, ◌&&◌, List, [], ◌∷◌, ◌++◌, map, length, take, drop, Option}
use Rattle.std.proofs.Common.{Some, None, if◌then◌else◌}
use Rattle.std.specs.Option.{is_none}
use Rattle.std.proofs.lemmas.List.{length-append, length-map, map-append, take-append-drop, length-take-le}
use Rattle.model_server.specs.Group.Group.{Numbers}
use Rattle.model_server.specs.Group.World.{log_of, item, but, empty_world}
use Rattle.model_server.specs.Group.World as group
use Rattle.model_server.specs.Group.Law.{Among}
use Rattle.model_server.proofs.GroupLemmas.Among.{among_item, among_but, and_right}
use Rattle.model_server.specs.Once.Feed.{Numbered, numbered, as_entry, entries, Stage, asking, knows, waits, Request, ask_last}
use Rattle.model_server.specs.Once.Feed.{batch, Answer, executed, refused, last_is, adding, waiting, request, requested, learns}
use Rattle.model_server.specs.Once.Feed.{known_in}
use Rattle.model_server.specs.Once.Producer.{Producer, filled_by, arrived, hears, overdue, breaks}
use Rattle.model_server.specs.Once.Consumer.{is_idle}
use Rattle.model_server.specs.Once.World.{Setting, World, first_world, Event, Send, Arrive, Arrive_late, Hear, Break}
use Rattle.model_server.specs.Once.World.{Ask, Take, Sync, Acknowledge_now, Acknowledge_later, Reconnect, Restart, Else, asked}
use Rattle.model_server.specs.Once.World.{acknowledges, happens, run}
use Rattle.model_server.specs.Once.Law.{Fit, NoOtherAdd, NoOtherAdds, log, after, AreFirst, LogIsFirstRecords, KnownIsIn, DoneIsAll, LogGrows}
use Rattle.model_server.proofs.OnceLemmas.Same.{Same, same_else, same_asked}
use Rattle.model_server.proofs.OnceLemmas.Ids.{only_grows}
use Rattle.model_server.proofs.OnceLemmas.Batch.{Kept, Part, part_later, adds, length_numbered}

pub append_nil : {A : Type 0} (xs : List A) → xs ++ [] ≡ xs
append_nil [] = refl
append_nil (x ∷ xs) = ap (λ l. x ∷ l) (append_nil xs)

pub quiet_if : {A : Type 0} (o : Option A) → is_none o ≡ true → o ≡ None
quiet_if None h = refl
quiet_if (Some a) h = absurd (let t : false ≡ true = h in cc)

none_some : {A : Type 0} (x : A) → None ≡ Some x → ⊥
none_some x e = absurd (let t : None ≡ Some x = e in cc)

module _ {F : Type 0} (s : Setting F) (fit : Fit s) where
  abbrev pub N : List (Numbered F)
  N = numbered s.base s.records

  abbrev pub KeptOf : group.World F → Type 0
  KeptOf w = Kept s.base s.records fit (log_of w) w.last

  abbrev pub PartOf : ℕ → List (Numbered F) → Type 0
  PartOf m b = Part s.base s.records fit m b

  -- the request on the way is that for the last id, or a batch of the records that the producer waits for
  abbrev pub SentIs : ℕ → Stage → Option (Request F) → Type 0
  SentIs M stage None = Unit {0}
  SentIs M asking (Some ask_last) = Unit {0}
  SentIs M asking (Some (batch b)) = ⊥
  SentIs M (knows m) (Some r) = ⊥
  SentIs M (waits m n) (Some ask_last) = ⊥
  SentIs M (waits m n) (Some (batch b)) = (p : PartOf M b) × (length p.front + length b ≡ m + n)

  -- what was sent on a connection that broke was of the records too
  abbrev pub LateIs : ℕ → Request F → Type 0
  LateIs M ask_last = Unit {0}
  LateIs M (batch b) = PartOf M b

  -- what the producer learns by the reply on the way is true
  abbrev pub AnswerIs : ℕ → Stage → Option Answer → Type 0
  AnswerIs M stage None = Unit {0}
  AnswerIs M (knows m) (Some a) = ⊥
  AnswerIs M asking (Some a) = known_in (learns s.base asking a) ≤ M
  AnswerIs M (waits m n) (Some a) = known_in (learns s.base (waits m n) a) ≤ M

  pub record Fed (M : ℕ) (f : Producer F) : Type 0 where
    pub late : (r : Request F) → Among r f.late → LateIs M r
    pub sent : SentIs M f.stage f.sent
    pub answer : AnswerIs M f.stage f.answer
    pub so : known_in f.stage ≤ M
    -- not both are on the way
    pub one : (r : Request F) (a : Answer) → f.sent ≡ Some r → f.answer ≡ Some a → ⊥

  sent_later : (m n : ℕ) → m ≤ n → (st : Stage) (o : Option (Request F)) → SentIs m st o → SentIs n st o
  sent_later m n l st None h = tt
  sent_later m n l asking (Some ask_last) h = tt
  sent_later m n l asking (Some (batch b)) h = h
  sent_later m n l (knows k) (Some r) h = h
  sent_later m n l (waits k j) (Some ask_last) h = h
  sent_later m n l (waits k j) (Some (batch b)) h = (part_later s.base s.records fit m n b l h.0, h.1)

  late_later : (m n : ℕ) → m ≤ n → (r : Request F) → LateIs m r → LateIs n r
  late_later m n l ask_last h = tt
  late_later m n l (batch b) h = part_later s.base s.records fit m n b l h

  answer_later : (m n : ℕ) → m ≤ n → (st : Stage) (o : Option Answer) → AnswerIs m st o → AnswerIs n st o
  answer_later m n l st None h = tt
  answer_later m n l asking (Some a) h = omega (arith, l, h)
  answer_later m n l (knows k) (Some a) h = h
  answer_later m n l (waits k j) (Some a) h = omega (arith, l, h)

  later : (m n : ℕ) (f : Producer F) → m ≤ n → Fed m f → Fed n f
  later m n f l i = record {
    late = λ r h. late_later m n l r (i.late r h);
    sent = sent_later m n l f.stage f.sent i.sent;
    answer = answer_later m n l f.stage f.answer i.answer;
    so = omega (arith, l, i.so);
    one = i.one;
  }

  pub record Inv (w : World F) : Type 0 where
    pub kept : KeptOf w.stream
    pub fed : Fed (length kept.added) w.producer

  -- what an event makes of it, which undoes nothing
  pub record Next (m : ℕ) (w : World F) : Type 0 where
    pub inv : Inv w
    pub grows : m ≤ length inv.kept.added

  -- the stream as it was, but for what changes neither the log nor the last id
  moves : (w : World F) (i : Inv w) (v : World F) → Same v.stream w.stream → Fed (length i.kept.added) v.producer
      → Next (length i.kept.added) v
  moves w i v same fed =
      let k : KeptOf v.stream = record {
        added = i.kept.added;
        rest = i.kept.rest;
        all = i.kept.all;
        log_is = same.0 ∙ i.kept.log_is;
        up = (let P : Numbers → Type 0 = λ l. l.0 ≤ s.base + length i.kept.added in subst P (sym same.1) i.kept.up);
        low = (let P : Numbers → Type 0 =
            λ l. 1 ≤ length i.kept.added → l.0 ≡ s.base + length i.kept.added in subst P (sym same.1) i.kept.low);
        second = (let P : Numbers → Type 0 = λ l. l.1 ≡ 0 in subst P (sym same.1) i.kept.second);
      } in
      record { inv = record { kept = k; fed = fed }; grows = omega arith }

  -- the next records are a part
  next_part : (M m n : ℕ) → m ≤ M → M ≤ length N → (p : PartOf M (take n (drop m N))) × (length p.front ≡ m)
  next_part M m n l h =
      let len : length (take m N) ≡ m = length-take-le m N (omega (arith, l, h)) in (
        record {
          front = take m N;
          back = drop n (drop m N);
          all = sym (ap (λ r. take m N ++ r) (take-append-drop n (drop m N)) ∙ take-append-drop m N);
          within = omega (arith, len, l);
        },
        len,
      )

  bounded : (w : group.World F) (k : KeptOf w) → length k.added ≤ length N
  bounded w k = let e = ap length k.all ∙ length-append k.added k.rest in omega (arith, e)

  -- the producer sends the next records, or none where all are in
  knowing : (M : ℕ) (f : Producer F) (m : ℕ) → m ≤ M → Fed M f → f.stage ≡ knows m → f.answer ≡ None
      → (b : List (Numbered F)) → (p : PartOf M b) × (length p.front ≡ m)
      → Fed M (record f { stage = waiting m b; sent = adding b })
  knowing M f m l i q none [] part = record {
    late = i.late;
    sent = tt;
    answer = (let P : Stage → Type 0 = λ st. AnswerIs M st f.answer in subst P q i.answer);
    so = l;
    one = λ r a e k. none_some r e;
  }
  knowing M f m l i q none (x ∷ b) part = record {
    late = i.late;
    sent = (part.0, ap (λ z. z + length (x ∷ b)) part.1);
    answer = (let P : Option Answer → Type 0 = λ o. AnswerIs M (waits m (length (x ∷ b))) o in subst P (sym none) tt);
    so = l;
    one = λ r a e k. none_some a (sym none ∙ k);
  }

  asks_next : (M : ℕ) (f : Producer F) (n : ℕ) → M ≤ length N → Fed M f → f.answer ≡ None → (st : Stage) → f.stage ≡ st
      → Fed M (record f { stage = requested n N st; sent = request n N st })
  asks_next M f n h i none asking q = record {
    late = i.late;
    sent = tt;
    answer = (let P : Stage → Type 0 = λ st. AnswerIs M st f.answer in subst P q i.answer);
    so = omega arith;
    one = λ r a e k. none_some a (sym none ∙ k);
  }
  asks_next M f n h i none (knows m) q =
      let l : m ≤ M = let P : Stage → Type 0 = λ st. known_in st ≤ M in subst P q i.so in
      knowing M f m l i q none (take n (drop m N)) (next_part M m n l h)
  asks_next M f n h i none (waits m k) q = record {
    late = i.late;
    sent = tt;
    answer = (let P : Stage → Type 0 = λ st. AnswerIs M st f.answer in subst P q i.answer);
    so = (let P : Stage → Type 0 = λ st. known_in st ≤ M in subst P q i.so);
    one = λ r a e k. none_some r e;
  }

  sending : (M : ℕ) (f : Producer F) (n : ℕ) → M ≤ length N → Fed M f → (b : Bool)
      → (is_none f.sent && is_none f.answer) ≡ b
      → Fed M (if b then record f { stage = requested n N f.stage; sent = request n N f.stage } else f)
  sending M f n h i false q = i
  sending M f n h i true q =
      asks_next M f n h i (quiet_if f.answer (and_right (is_none f.sent) _ q)) f.stage refl

  abbrev part_of_sent : (M : ℕ) (st : Stage) (b : List (Numbered F)) → SentIs M st (Some (batch b)) → PartOf M b
  part_of_sent M asking b h = absurd h
  part_of_sent M (knows m) b h = absurd h
  part_of_sent M (waits m n) b h = h.0

  -- what is known of a batch after its reply
  answered : (M : ℕ) (st : Stage) (b : List (Numbered F)) (executes : Bool) (h : SentIs M st (Some (batch b))) (M' : ℕ)
      → (executes ≡ true → length (part_of_sent M st b h).front + length b ≤ M')
      → AnswerIs M' st (Some (if executes then executed else refused))
  answered M asking b executes h M' r = absurd h
  answered M (knows m) b executes h M' r = absurd h
  answered M (waits m n) b true h M' r = omega (arith, h.1, r refl)
  answered M (waits m n) b false h M' r = omega arith

  -- the last id determines how many are in
  told : (w : group.World F) (k : KeptOf w) (st : Stage) (executes : Bool) → SentIs (length k.added) st (Some ask_last)
      → AnswerIs (length k.added) st (Some (if executes then last_is w.last else refused))
  told w k asking true h = omega (arith, k.up)
  told w k asking false h = omega arith
  told w k (knows m) executes h = absurd h
  told w k (waits m n) executes h = absurd h

  arrives : (w : World F) (i : Inv w) (executes : Bool) (o : Option (Request F)) → w.producer.sent ≡ o
      → Next (length i.kept.added)
      (record w { stream = filled_by executes w.stream o; producer = arrived executes w.stream o w.producer })
  arrives w i executes None q = record { inv = i; grows = omega arith }
  arrives w i executes (Some ask_last) q =
      let M : ℕ = length i.kept.added in
      let h : SentIs M w.producer.stage (Some ask_last) = let P : Option (Request F) → Type 0 =
      λ o. SentIs M w.producer.stage o in subst P q i.fed.sent in
      record {
        inv = record {
          kept = i.kept;
          fed = record {
            late = i.fed.late;
            sent = tt;
            answer = told w.stream i.kept w.producer.stage executes h;
            so = i.fed.so;
            one = λ r a e k. none_some r e;
          };
        };
        grows = omega arith;
      }
  arrives w i true (Some (batch b)) q =
      let M : ℕ = length i.kept.added in
      let h : SentIs M w.producer.stage (Some (batch b)) = let P : Option (Request F) → Type 0 =
      λ o. SentIs M w.producer.stage o in subst P q i.fed.sent in
      let p : PartOf M b = part_of_sent M w.producer.stage b h in
      let more = adds s.base s.records fit w.stream i.kept b p in
      let M' : ℕ = length more.kept.added in
      let f = later M M' w.producer more.grows i.fed in
      record {
        inv = record {
          kept = more.kept;
          fed = record {
            late = f.late;
            sent = tt;
            answer = answered M w.producer.stage b true h M' (λ e. more.reaches);
            so = f.so;
            one = λ r a e k. none_some r e;
          };
        };
        grows = more.grows;
      }
  arrives w i false (Some (batch b)) q =
      let M : ℕ = length i.kept.added in
      let h : SentIs M w.producer.stage (Some (batch b)) = let P : Option (Request F) → Type 0 =
      λ o. SentIs M w.producer.stage o in subst P q i.fed.sent in
      record {
        inv = record {
          kept = i.kept;
          fed = record {
            late = i.fed.late;
            sent = tt;
            answer = answered M w.producer.stage b false h M (λ e. absurd (let t : false ≡ true = e in cc));
            so = i.fed.so;
            one = λ r a e k. none_some r e;
          };
        };
        grows = omega arith;
      }

  fewer : (f : Producer F) (k n : ℕ) → Fed n f → Fed n (record f { late = but f.late k })
  fewer f k n i = record {
    late = λ r h. i.late r (among_but f.late k r h);
    sent = i.sent;
    answer = i.answer;
    so = i.so;
    one = i.one;
  }

  arrives_late : (w : World F) (i : Inv w) (k : ℕ) (executes : Bool) (o : Option (Request F))
      → item w.producer.late k ≡ o
      → Next (length i.kept.added)
      (record w { stream = filled_by executes w.stream o; producer = record w.producer { late = but w.producer.late k } })
  arrives_late w i k executes None q =
      record { inv = record { kept = i.kept; fed = fewer w.producer k _ i.fed }; grows = omega arith }
  arrives_late w i k executes (Some ask_last) q =
      record { inv = record { kept = i.kept; fed = fewer w.producer k _ i.fed }; grows = omega arith }
  arrives_late w i k false (Some (batch b)) q =
      record { inv = record { kept = i.kept; fed = fewer w.producer k _ i.fed }; grows = omega arith }
  arrives_late w i k true (Some (batch b)) q =
      let p : PartOf (length i.kept.added) b = i.fed.late (batch b) (among_item w.producer.late k (batch b) q) in
      let more = adds s.base s.records fit w.stream i.kept b p in
      let M' : ℕ = length more.kept.added in
      record {
        inv = record {
          kept = more.kept;
          fed = fewer w.producer k M' (later (length i.kept.added) M' w.producer more.grows i.fed);
        };
        grows = more.grows;
      }

  known_learns : (M : ℕ) (st : Stage) (a : Answer) → AnswerIs M st (Some a) → known_in (learns s.base st a) ≤ M
  known_learns M asking a h = h
  known_learns M (knows m) a h = absurd h
  known_learns M (waits m n) a h = h

  hearing : (M : ℕ) (f : Producer F) → Fed M f → (o : Option Answer) → f.answer ≡ o → Fed M (hears s.base o f)
  hearing M f i None q = i
  hearing M f i (Some a) q =
      let none : (o : Option (Request F)) → f.sent ≡ o → SentIs M (learns s.base f.stage a) o
      = λ o. elim o as (λ o. f.sent ≡ o → SentIs M (learns s.base f.stage a) o)
      [ None ↦ λ e. tt | Some r ↦ λ e. absurd (i.one r a e q) ] in
      record {
        late = i.late;
        sent = none f.sent refl;
        answer = tt;
        so = known_learns M f.stage a (let P : Option Answer → Type 0 = λ o. AnswerIs M f.stage o in subst P q i.answer);
        one = λ b c e k. none_some c k;
      }

  late_of_sent : (M : ℕ) (st : Stage) (r : Request F) → SentIs M st (Some r) → LateIs M r
  late_of_sent M st ask_last h = tt
  late_of_sent M st (batch b) h = part_of_sent M st b h

  late_then : (M : ℕ) (f : Producer F) (o : Option (Request F)) → Fed M f → SentIs M f.stage o → (r : Request F)
      → Among r (overdue o f.late) → LateIs M r
  late_then M f None i h r m = i.late r m
  late_then M f (Some q) i h r (inl e) =
      let P : Request F → Type 0 = λ y. LateIs M y in subst P e (late_of_sent M f.stage q h)
  late_then M f (Some q) i h r (inr m) = i.late r m

  broken : (M : ℕ) (f : Producer F) → Fed M f → Fed M (breaks f)
  broken M f i = record {
    late = late_then M f f.sent i i.sent;
    sent = tt;
    answer = tt;
    so = omega arith;
    one = λ r a e k. none_some r e;
  }

  -- each event keeps it, and undoes nothing
  pub each : (w : World F) (i : Inv w) (e : Event F) → NoOtherAdd e → Next (length i.kept.added) (happens s w e)
  each w i (Send n) h = moves w i (happens s w (Send n)) (refl, refl)
      (sending (length i.kept.added) w.producer n (bounded w.stream i.kept) i.fed
      (is_none w.producer.sent && is_none w.producer.answer) refl)
  each w i (Arrive b) h = arrives w i b w.producer.sent refl
  each w i (Arrive_late k b) h = arrives_late w i k b (item w.producer.late k) refl
  each w i Hear h = moves w i (happens s w Hear) (refl, refl)
      (hearing (length i.kept.added) w.producer i.fed w.producer.answer refl)
  each w i Break h = moves w i (happens s w Break) (refl, refl) (broken (length i.kept.added) w.producer i.fed)
  each w i (Ask n pick next) h =
      let case : (b : Bool) → Next (length i.kept.added) (if b then asked s.name n pick next w else w)
      = λ b. elim b as (λ b. Next (length i.kept.added) (if b then asked s.name n pick next w else w)) [
        | true ↦ moves w i (asked s.name n pick next w)
            (same_asked s.name n pick next w.consumer.machine.phase w.stream) i.fed
        | false ↦ record { inv = i; grows = omega arith }
      ] in
      case (is_idle w.consumer)
  each w i (Take vs) h = moves w i (happens s w (Take vs)) (refl, refl) i.fed
  each w i Sync h = moves w i (happens s w Sync) (refl, refl) i.fed
  each w i Acknowledge_now h =
      let case : (b : Bool) → Next (length i.kept.added) (if b then acknowledges s.name w else w)
      = λ b. elim b as (λ b. Next (length i.kept.added) (if b then acknowledges s.name w else w)) [
        | true ↦ moves w i (acknowledges s.name w) (refl, refl) i.fed
        | false ↦ record { inv = i; grows = omega arith }
      ] in
      case (is_none w.consumer.answer)
  each w i Acknowledge_later h = moves w i (happens s w Acknowledge_later) (refl, refl) i.fed
  each w i Reconnect h = moves w i (happens s w Reconnect) (refl, refl) i.fed
  each w i (Restart every kept more) h = moves w i (happens s w (Restart every kept more)) (refl, refl) i.fed
  each w i (Else e) h = moves w i (happens s w (Else e)) (same_else w.stream e h) i.fed

  pub over : (es : List (Event F)) (w : World F) (i : Inv w) → NoOtherAdds es → Next (length i.kept.added) (run s es w)
  over [] w i h = record { inv = i; grows = omega arith }
  over (e ∷ es) w i h =
      let one = each w i e h.0 in
      let rest = over es (happens s w e) one.inv h.1 in
      record { inv = rest.inv; grows = omega (arith, one.grows, rest.grows) }

  pub at_first : Inv first_world
  at_first = record {
    kept = record {
      added = [];
      rest = N;
      all = refl;
      log_is = refl;
      up = omega arith;
      low = λ h. absurd (omega (arith, h));
      second = refl;
    };
    fed = record { late = λ b h. absurd h; sent = tt; answer = tt; so = omega arith; one = λ b a e k. none_some b e };
  }

  pub always : (es : List (Event F)) → NoOtherAdds es → Inv (after s es)
  always es h = (over es first_world at_first h).inv

  pub log_length : (w : World F) (i : Inv w) → length (log w) ≡ length i.kept.added
  log_length w i = ap length i.kept.log_is ∙ length-map i.kept.added as_entry

  -- the entries are the log and the rest
  pub entries_split : (w : World F) (i : Inv w) → entries s.base s.records ≡ log w ++ map as_entry i.kept.rest
  entries_split w i =
      ap (map as_entry) i.kept.all
      ∙ (map-append as_entry i.kept.added i.kept.rest
      ∙ ap (λ l. l ++ map as_entry i.kept.rest) (sym i.kept.log_is))

  pub first : (es : List (Event F)) → NoOtherAdds es → AreFirst (log (after s es)) (entries s.base s.records)
  first es h = let i = always es h in (map as_entry i.kept.rest, sym (entries_split (after s es) i))

  pub known_is : (es : List (Event F)) → NoOtherAdds es
      → known_in (after s es).producer.stage ≤ length (log (after s es))
  known_is es h =
      let i = always es h in
      omega (arith, i.fed.so, log_length (after s es) i)

  -- if the producer knows that all records are in, the log is all records
  pub done_in : (w : World F) → Inv w → w.producer.stage ≡ knows (length s.records) → log w ≡ entries s.base s.records
  done_in w i h =
      let so : length s.records ≤ length i.kept.added =
      let P : Stage → Type 0 = λ st. known_in st ≤ length i.kept.added in subst P h i.fed.so in
      let lengths : length N ≡ length i.kept.added + length i.kept.rest =
      ap length i.kept.all ∙ length-append i.kept.added i.kept.rest in
      let none : (l : List (Numbered F)) → length l ≤ 0 → log w ++ map as_entry l ≡ log w
      = λ l. elim l as (λ l. length l ≤ 0 → log w ++ map as_entry l ≡ log w)
      [ [] ↦ λ h. append_nil (log w) | x ∷ xs ↦ λ h. absurd (omega (arith, h)) ] in
      sym (entries_split w i ∙ none i.kept.rest (omega (arith, so, lengths, length_numbered s.base s.records)))

pub log_is_first_records : {F : Type 0} → LogIsFirstRecords F
log_is_first_records s fit es h = first s fit es h

pub known_is_in : {F : Type 0} → KnownIsIn F
known_is_in s fit es h = known_is s fit es h

pub done_is_all : {F : Type 0} → DoneIsAll F
done_is_all s fit es none h = done_in s fit (after s es) (always s fit es none) h

pub log_only_grows : {F : Type 0} → LogGrows F
log_only_grows = only_grows
