-- What the loop over entries keeps.
use Rattle.std.proofs.Common.{◌≡◌, refl, sym, ap, subst, ◌∙◌, ℕ, Bool, true, false, ◌+◌, zero, suc, get_or}
use Rattle.std.proofs.Common.{arith, Result, Ok, Err, List, [], ◌∷◌, ◌++◌, map, take, length, ◌<◌, append_assoc, Option}
use Rattle.std.proofs.Common.{if◌then◌else◌}
use Rattle.model_server.specs.Group.Worker.{Id, Delivered, Verdict, follows, acks_one, told_one, of_each, acks_in, told_in}
use Rattle.model_server.specs.Group.Worker.{ending, went_through, stopped, cut_off}
use Rattle.stream_in_place.specs.Sent.{Pairs, SentEntry}
use Rattle.worker.specs.Handling.{with_all}
use Rattle.std.proofs.lemmas.List.{map-append, take_more}
use Rattle.std.specs.Result.{IsErr}
use Rattle.worker.specs.Machine.{ending_said}
use Rattle.worker.specs.Taking.{delivered_of, all_delivered, TookOne, Took}
use Rattle.worker.specs.declared.worker.Progress.{Progress}

-- a verdict for each entry, and each goes on
abbrev pub Matched : {F : Type 0} → List (Delivered F) → List Verdict → Type 0
Matched [] [] = Unit {0}
Matched [] (v ∷ vs) = ⊥
Matched (e ∷ es) [] = ⊥
Matched (e ∷ es) (v ∷ vs) = (follows e.1 v ≡ true) × Matched es vs

nothing_behind : {A : Type 0} (xs : List A) → xs ++ [] ≡ xs
nothing_behind [] = refl
nothing_behind (x ∷ xs) = ap (λ r. x ∷ r) (nothing_behind xs)

if_so : {A : Type 0} (b : Bool) (x y : A) → b ≡ true → (if b then x else y) ≡ x
if_so true x y h = refl
if_so false x y h = let t : false ≡ true = h in cc

each_more : {F A : Type 0} (one : Id → Option F → Verdict → List A) (es more : List (Delivered F))
    (vs ws : List Verdict) → Matched es vs
    → of_each one (es ++ more) (vs ++ ws) ≡ of_each one es vs ++ of_each one more ws
each_more one [] more [] ws m = refl
each_more one [] more (v ∷ vs) ws m = absurd m
each_more one (e ∷ es) more [] ws m = absurd m
each_more one (e ∷ es) more (v ∷ vs) ws m =
    ap (λ r. one e.0 e.1 v ++ r) (if_so (follows e.1 v) (of_each one (es ++ more) (vs ++ ws)) [] m.0
    ∙ (each_more one es more vs ws m.1 ∙ ap (λ r. r ++ of_each one more ws)
    (sym (if_so (follows e.1 v) (of_each one es vs) [] m.0))))
    ∙ sym (append_assoc (one e.0 e.1 v) (if follows e.1 v then of_each one es vs else []) (of_each one more ws))

all_more : {F : Type 0} (es more : List (Delivered F)) (vs ws : List Verdict) → Matched es vs
    → ending (es ++ more) (vs ++ ws) ≡ ending more ws
all_more [] more [] ws m = refl
all_more [] more (v ∷ vs) ws m = absurd m
all_more (e ∷ es) more [] ws m = absurd m
all_more (e ∷ es) more (v ∷ vs) ws m =
    if_so (follows e.1 v) (ending (es ++ more) (vs ++ ws)) stopped m.0 ∙ all_more es more vs ws m.1

matched_more : {F : Type 0} (es more : List (Delivered F)) (vs ws : List Verdict) → Matched es vs → Matched more ws
    → Matched (es ++ more) (vs ++ ws)
matched_more [] more [] ws m n = n
matched_more [] more (v ∷ vs) ws m n = absurd m
matched_more (e ∷ es) more [] ws m n = absurd m
matched_more (e ∷ es) more (v ∷ vs) ws m n = (m.0, matched_more es more vs ws m.1 n)

of_none : {F A : Type 0} (one : Id → Option F → Verdict → List A) (es : List (Delivered F)) → of_each one es [] ≡ []
of_none one [] = refl
of_none one (e ∷ es) = refl

of_rest : {F A : Type 0} (one : Id → Option F → Verdict → List A) (es : List (Delivered F)) (b : Bool)
    → (if b then of_each one es [] else []) ≡ []
of_rest one es true = of_none one es
of_rest one es false = refl

-- a verdict for one entry
of_one : {F A : Type 0} (one : Id → Option F → Verdict → List A) (d : Delivered F) (rest : List (Delivered F))
    (v : Verdict) → of_each one (d ∷ rest) (v ∷ []) ≡ one d.0 d.1 v
of_one one d rest v = ap (λ l. one d.0 d.1 v ++ l) (of_rest one rest (follows d.1 v)) ∙ nothing_behind (one d.0 d.1 v)

pub delivered_more : (es more : List SentEntry) → all_delivered (es ++ more) ≡ all_delivered es ++ all_delivered more
delivered_more [] more = refl
delivered_more (e ∷ es) more = ap (λ r. delivered_of e ∷ r) (delivered_more es more)

-- an item of a list, and what lies behind it
pub record Split {T : Type 0} (xs : List T) (i : ℕ) (x : T) : Type 0 where
  pub rest : List T
  pub is : xs ≡ take i xs ++ x ∷ rest

pub split : {T : Type 0} (xs : List T) (i : ℕ) (x : T) → i < length xs → x ≡ get_or xs i x → Split xs i x
split [] i x l e = absurd (omega arith)
split (y ∷ xs) zero x l e = record { rest = xs; is = ap (λ z. z ∷ xs) (sym e) }
split (y ∷ xs) (suc i) x l e =
    let below : i < length xs = omega arith in
    let s = split xs i x below e in record { rest = s.rest; is = ap (λ z. y ∷ z) s.is }

mapped : {A B : Type 0} (f : A → B) (xs done : List A) (x : A) (rest : List A) → xs ≡ done ++ x ∷ rest
    → map f xs ≡ map f done ++ f x ∷ map f rest
mapped f xs done x rest is = ap (λ ys. map f ys) is ∙ map-append f done (x ∷ rest)

pub said_error : {E : Type 0} (r : Result Progress E) → IsErr r → ending_said r ≡ cut_off
said_error (Ok p) h = let t : false ≡ true = h in cc
said_error (Err e) h = refl

module _ {T : Type 0} (f : T → SentEntry) where
  pub mapped_more : (xs ys : List T) → all_delivered (map f (xs ++ ys)) ≡ all_delivered (map f xs)
      ++ all_delivered (map f ys)
  mapped_more [] ys = refl
  mapped_more (x ∷ xs) ys = ap (λ r. delivered_of (f x) ∷ r) (mapped_more xs ys)

  one_more : (xs : List T) (i : ℕ) (x : T) → i < length xs → x ≡ get_or xs i x
      → all_delivered (map f (take (i + 1) xs)) ≡ all_delivered (map f (take i xs)) ++ delivered_of (f x) ∷ []
  one_more xs i x l e =
      ap (λ ys. all_delivered (map f ys)) (take_more xs i x l ∙ ap (λ y. take i xs ++ y ∷ []) (sym e))
      ∙ mapped_more (take i xs) (x ∷ [])

module _ {R : Type 0} (with_verdict : R → List ℕ × Pairs → Verdict → R) where
  with_more : (r : R) (xs ys : List ((List ℕ × Pairs) × Verdict))
      → with_all with_verdict r (xs ++ ys) ≡ with_all with_verdict (with_all with_verdict r xs) ys
  with_more r [] ys = refl
  with_more r (x ∷ xs) ys = with_more (with_verdict r x.0 x.1) xs ys

  -- all entries so far got verdicts
  pub record Going (es : List (Delivered Pairs)) (old new : List Id) (r s : R) : Type 0 where
    pub verdicts : List Verdict
    pub matched : Matched es verdicts
    pub ids : new ≡ old ++ acks_in es verdicts
    pub history : s ≡ with_all with_verdict r (told_in es verdicts)

  pub begins : (old : List Id) (r : R) → Going [] old old r r
  begins old r = record { verdicts = []; matched = tt; ids = sym (nothing_behind old); history = refl }

  -- what one more verdict makes of what stands there
  ids_further : (es rest : List (Delivered Pairs)) (d : Delivered Pairs) (old mid new : List Id)
      (r s t : R) (on : Bool)
      → (g : Going es old mid r s) → (o : TookOne with_verdict d mid new s t on)
      → new ≡ old ++ acks_in (es ++ d ∷ rest) (g.verdicts ++ o.verdict ∷ [])
  ids_further es rest d old mid new r s t on g o =
      o.ids ∙ (ap (λ l. l ++ acks_one d.0 d.1 o.verdict) g.ids
      ∙ (append_assoc old (acks_in es g.verdicts) (acks_one d.0 d.1 o.verdict)
      ∙ ap (λ l. old ++ l) (sym (each_more acks_one es (d ∷ rest) g.verdicts (o.verdict ∷ []) g.matched
      ∙ ap (λ l. acks_in es g.verdicts ++ l) (of_one acks_one d rest o.verdict)))))

  history_further : (es rest : List (Delivered Pairs)) (d : Delivered Pairs) (old mid new : List Id)
      (r s t : R) (on : Bool)
      → (g : Going es old mid r s) → (o : TookOne with_verdict d mid new s t on)
      → t ≡ with_all with_verdict r (told_in (es ++ d ∷ rest) (g.verdicts ++ o.verdict ∷ []))
  history_further es rest d old mid new r s t on g o =
      o.history ∙ (ap (λ x. with_all with_verdict x (told_one d.0 d.1 o.verdict)) g.history
      ∙ (sym (with_more r (told_in es g.verdicts) (told_one d.0 d.1 o.verdict))
      ∙ ap (λ l. with_all with_verdict r l) (sym (each_more told_one es (d ∷ rest) g.verdicts (o.verdict ∷ []) g.matched
      ∙ ap (λ l. told_in es g.verdicts ++ l) (of_one told_one d rest o.verdict)))))

  pub goes_further : (es : List (Delivered Pairs)) (d : Delivered Pairs) (old mid new : List Id)
      (r s t : R)
      → Going es old mid r s → TookOne with_verdict d mid new s t true → Going (es ++ d ∷ []) old new r t
  goes_further es d old mid new r s t g o = record {
    verdicts = g.verdicts ++ o.verdict ∷ [];
    matched = matched_more es (d ∷ []) g.verdicts (o.verdict ∷ []) g.matched (sym o.follows_then, tt);
    ids = ids_further es [] d old mid new r s t true g o;
    history = history_further es [] d old mid new r s t true g o;
  }

  pub ends : (es : List (Delivered Pairs)) (old new : List Id) (r s : R) → Going es old new r s
      → Took with_verdict es old new r s went_through
  ends es old new r s g = record {
    verdicts = g.verdicts;
    ids = g.ids;
    history = g.history;
    ended =
        let e : ending (es ++ []) (g.verdicts ++ []) ≡ went_through = all_more es [] g.verdicts [] g.matched in
        sym (ap (λ l. ending l g.verdicts) (sym (nothing_behind es))
        ∙ (ap (λ l. ending (es ++ []) l) (sym (nothing_behind g.verdicts)) ∙ e));
  }

  -- the handler said to stop
  pub stops : (es : List (Delivered Pairs)) (d : Delivered Pairs)
      (rest : List (Delivered Pairs)) (old mid new : List Id) (r s t : R)
      → Going es old mid r s → TookOne with_verdict d mid new s t false
      → Took with_verdict (es ++ d ∷ rest) old new r t stopped
  stops es d rest old mid new r s t g o = record {
    verdicts = g.verdicts ++ o.verdict ∷ [];
    ids = ids_further es rest d old mid new r s t false g o;
    history = history_further es rest d old mid new r s t false g o;
    ended =
        let case : (b : Bool) → false ≡ b → (if b then ending rest [] else stopped) ≡ stopped
        = λ b. elim b as (λ c. false ≡ c → (if c then ending rest [] else stopped) ≡ stopped)
        [ true ↦ λ q. absurd (let x : false ≡ true = q in cc) | false ↦ λ q. refl ] in
        sym (all_more es (d ∷ rest) g.verdicts (o.verdict ∷ []) g.matched
        ∙ case (follows d.1 o.verdict) o.follows_then);
  }

  pub cut : (es : List (Delivered Pairs)) (d : Delivered Pairs) (rest : List (Delivered Pairs))
      (old new : List Id) (r s : R)
      → Going es old new r s → Took with_verdict (es ++ d ∷ rest) old new r s cut_off
  cut es d rest old new r s g =
      let vs : g.verdicts ++ [] ≡ g.verdicts = nothing_behind g.verdicts in
      record {
        verdicts = g.verdicts;
        ids =
            g.ids
            ∙ ap (λ l. old ++ l)
            (sym (ap (λ l. acks_in (es ++ d ∷ rest) l) (sym vs)
            ∙ (each_more acks_one es (d ∷ rest) g.verdicts [] g.matched ∙ nothing_behind (acks_in es g.verdicts))));
        history = g.history ∙ ap (λ l. with_all with_verdict r l)
            (sym (ap (λ l. told_in (es ++ d ∷ rest) l) (sym vs)
            ∙ (each_more told_one es (d ∷ rest) g.verdicts [] g.matched ∙ nothing_behind (told_in es g.verdicts))));
        ended = sym (ap (λ l. ending (es ++ d ∷ rest) l) (sym vs) ∙ all_more es (d ∷ rest) g.verdicts [] g.matched);
      }

  pub loop_begins : {T : Type 0} (f : T → SentEntry) (old : List Id) (r : R) → Going (all_delivered (map f [])) old old r r
  loop_begins f old r = begins old r

  pub loop_step : {T : Type 0} (f : T → SentEntry) (xs : List T) (i : ℕ) (x : T) (old mid new : List Id) (r s t : R)
      → i < length xs → x ≡ get_or xs i x → Going (all_delivered (map f (take i xs))) old mid r s
      → TookOne with_verdict (delivered_of (f x)) mid new s t true
      → Going (all_delivered (map f (take (i + 1) xs))) old new r t
  loop_step f xs i x old mid new r s t l e g o =
      let P : List (Delivered Pairs) → Type 0 = λ es. Going es old new r t in
      subst P (sym (one_more f xs i x l e))
      (goes_further (all_delivered (map f (take i xs))) (delivered_of (f x)) old mid new r s t g o)

  -- entries that end before this one, and those that it stands among
  shape_of : (xs done rest : List SentEntry) (x : SentEntry) → xs ≡ done ++ x ∷ rest
      → all_delivered xs ≡ all_delivered done ++ delivered_of x ∷ all_delivered rest
  shape_of xs done rest x is = ap all_delivered is ∙ delivered_more done (x ∷ rest)

  pub next_step : (done : List SentEntry) (x : SentEntry) (old mid new : List Id) (r s t : R)
      → Going (all_delivered done) old mid r s → TookOne with_verdict (delivered_of x) mid new s t true
      → Going (all_delivered (done ++ x ∷ [])) old new r t
  next_step done x old mid new r s t g o =
      let P : List (Delivered Pairs) → Type 0 = λ es. Going es old new r t in
      subst P (sym (delivered_more done (x ∷ [])))
      (goes_further (all_delivered done) (delivered_of x) old mid new r s t g o)

  pub next_cut : (xs done rest : List SentEntry) (x : SentEntry) (old mid new : List Id) (r s t : R)
      → xs ≡ done ++ x ∷ rest → Going (all_delivered done) old mid r s
      → new ≡ mid → t ≡ s → Took with_verdict (all_delivered xs) old new r t cut_off
  next_cut xs done rest x old mid new r s t is g p q =
      let d : List (Delivered Pairs) = all_delivered done in
      let more : List (Delivered Pairs) = all_delivered rest in
      let P : List (Delivered Pairs) → Type 0 = λ es. Took with_verdict es old new r t cut_off in
      let A : List Id → Type 0 = λ l. Took with_verdict (d ++ delivered_of x ∷ more) old l r s cut_off in
      let B : R → Type 0 = λ y. Took with_verdict (d ++ delivered_of x ∷ more) old new r y cut_off in
      subst P (sym (shape_of xs done rest x is))
      (subst B (sym q) (subst A (sym p) (cut d (delivered_of x) more old mid r s g)))

  pub next_stops : (xs done rest : List SentEntry) (x : SentEntry) (old mid new : List Id) (r s t : R)
      → xs ≡ done ++ x ∷ rest → Going (all_delivered done) old mid r s
      → TookOne with_verdict (delivered_of x) mid new s t false
      → Took with_verdict (all_delivered xs) old new r t stopped
  next_stops xs done rest x old mid new r s t is g o =
      let P : List (Delivered Pairs) → Type 0 = λ es. Took with_verdict es old new r t stopped in
      subst P (sym (shape_of xs done rest x is)) (stops (all_delivered done) (delivered_of x)
      (all_delivered rest) old mid new r s t g o)

  pub loop_cut : {T : Type 0} (f : T → SentEntry) (xs : List T) (i : ℕ) (x : T) (old mid new : List Id) (r s t : R)
      → i < length xs → x ≡ get_or xs i x → Going (all_delivered (map f (take i xs))) old mid r s
      → new ≡ mid → t ≡ s → Took with_verdict (all_delivered (map f xs)) old new r t cut_off
  loop_cut f xs i x old mid new r s t l e g p q =
      let k = split xs i x l e in
      next_cut (map f xs) (map f (take i xs)) (map f k.rest) (f x) old mid new r s t (mapped f xs (take i xs) x k.rest k.is)
      g p q

  pub loop_stops : {T : Type 0} (f : T → SentEntry) (xs : List T) (i : ℕ) (x : T) (old mid new : List Id) (r s t : R)
      → i < length xs → x ≡ get_or xs i x → Going (all_delivered (map f (take i xs))) old mid r s
      → TookOne with_verdict (delivered_of (f x)) mid new s t false
      → Took with_verdict (all_delivered (map f xs)) old new r t stopped
  loop_stops f xs i x old mid new r s t l e g o =
      let k = split xs i x l e in
      next_stops (map f xs) (map f (take i xs)) (map f k.rest) (f x) old mid new r s t
      (mapped f xs (take i xs) x k.rest k.is) g o
