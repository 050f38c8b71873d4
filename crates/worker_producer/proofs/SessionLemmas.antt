-- Rounds over a connection: each command gets its reply, and at the end all records are added.
use Rattle.std.proofs.Common.{◌≡◌, ◌+◌, ◌<◌, ◌≤◌, ℕ, zero, suc, List, [], ◌∷◌, length, take, drop, Option, None, Some}
use Rattle.std.proofs.lemmas.Bool.{true≢false}
use Rattle.std.proofs.lemmas.List.{append-nil}
use Rattle.std.specs.Io.KnownBytes.{Appends}
use Rattle.std.proofs.Common.{true, false, refl, sym, ap, subst, ◌∙◌, arith, add-one}
use Rattle.redis_wire.specs.Reply as wire
use Rattle.redis_connection.specs.Link.{Link, Sends}
use Rattle.redis_connection.specs.Passing.{ReceivesAnswer}
use Rattle.model_server.specs.Once.Feed as feed
use Rattle.model_server.specs.Once.Feed.{Numbered, numbered, asking, knows, waits, learns, executed, refused, last_is}
use Rattle.worker_producer.specs.Learnt.{Took, TookAt}
use Rattle.worker_producer.specs.Machine.{RequestedAt, Sent, Standing, asks_of, idle, next_batch, stands_at}
use Rattle.worker_producer.specs.Records.{Fields}
use Rattle.worker_producer.specs.Session.{AllIn, Hears, IsRound, Ran, Rounds}
use Rattle.worker_producer.specs.declared.settings.Settings.{Settings}
use Rattle.worker_producer.specs.declared.stage.Asked.{Asked}
use Rattle.worker_producer.specs.declared.stage.Asked.TheVariants as asked
use Rattle.worker_producer.proofs.RequestLemmas.{numbered_length}

-- ---- one reply more, and one round more

pub hears_more : (base b count n : ℕ) (old l new : Link) (w y x : Standing) (a : wire.Answer) → b ≡ base
    → Hears base count n old l w y → ReceivesAnswer l new a → Took b count y x a
    → Hears base count (n + 1) old new w x
hears_more base b count n old l new w y x a same h r t =
    subst (λ (k : ℕ). Hears base count k old new w x) (sym (add-one n))
    (l, y, a, h, r, subst (λ (k : ℕ). Took k count y x a) same t)

pub rounds_more : (s v : Settings) (known more : Option (List Fields)) (count n : ℕ) (old l new : Link)
    (w y x : Standing) (a : Asked) → v ≡ s → more ≡ known → Rounds s known count n old l w y
    → IsRound v more count l new y x a → Rounds s known count (n + 1) old new w x
rounds_more s v known more count n old l new w y x a same all r t =
    subst (λ (k : ℕ). Rounds s known count k old new w x) (sym (add-one n)) (
      l,
      y,
      a,
      r,
      subst (λ (u : Settings). IsRound u known count l new y x a) same
          (subst (λ (u : Option (List Fields)). IsRound v u count l new y x a) all t),
    )

-- ---- how many replies are still to come

fewer_at : (n base count : ℕ) (w x : Standing) (a : wire.Answer) → TookAt n base count w x a → x.coming + 1 ≡ n
fewer_at zero base count w x a t = absurd t
fewer_at (suc zero) base count w x a t = omega (arith, t.1)
fewer_at (suc (suc k)) base count w x a t =
    let is : x.coming ≡ suc k = ap (λ (y : Standing). y.coming) t.1 in
    omega (arith, is)

pub fewer : (n base count : ℕ) (old new : Link) (w x : Standing) → Hears base count n old new w x
    → x.coming + n ≡ w.coming
fewer zero base count old new w x h =
    let is : x.coming ≡ w.coming = ap (λ (y : Standing). y.coming) h.1 in
    omega (arith, is)
fewer (suc n) base count old new w x h =
    let one : x.coming + 1 ≡ h.1.coming = fewer_at h.1.coming base count h.1 x h.2 h.5 in
    let rest : h.1.coming + n ≡ w.coming = fewer n base count old h.0 w h.1 h.3 in
    omega (arith, one, rest)

-- ---- between rounds nothing is to come, and it waits for nothing

abbrev pub IsRest : feed.Stage → Type 0
IsRest asking = Unit {0}
IsRest (knows m) = Unit {0}
IsRest (waits m n) = ⊥

abbrev pub IsAtRest : Standing → Type 0
IsAtRest x = (x.coming ≡ 0) × IsRest x.stage

learns_rest : (base : ℕ) (st : feed.Stage) (a : feed.Answer) → IsRest (learns base st a)
learns_rest base asking executed = tt
learns_rest base asking refused = tt
learns_rest base asking (last_is last) = tt
learns_rest base (knows m) a = tt
learns_rest base (waits m n) executed = tt
learns_rest base (waits m n) refused = tt
learns_rest base (waits m n) (last_is last) = tt

took_rest : (n base count : ℕ) (w x : Standing) (a : wire.Answer) → TookAt n base count w x a → x.coming ≡ 0
    → IsRest x.stage
took_rest zero base count w x a t none = absurd t
took_rest (suc zero) base count w x a t none = subst IsRest (sym t.0.knows) (learns_rest base w.stage t.0.hears)
took_rest (suc (suc k)) base count w x a t none =
    let is : x.coming ≡ suc k = ap (λ (y : Standing). y.coming) t.1 in
    absurd (omega (arith, is, none))

hears_rest : (n base count : ℕ) (old new : Link) (w x : Standing) → Hears base count n old new w x → n ≡ w.coming
    → (w.coming ≡ 0 → IsRest w.stage) → IsAtRest x
hears_rest zero base count old new w x h all rest =
    subst IsAtRest (sym h.1) (sym all, rest (sym all))
hears_rest (suc n) base count old new w x h all rest =
    let left : x.coming + suc n ≡ w.coming = fewer (suc n) base count old new w x h in
    let none : x.coming ≡ 0 = omega (arith, left, all) in
    (none, took_rest h.1.coming base count h.1 x h.2 h.5 none)

pub sent_at : (n : ℕ) (s : Settings) (all : List Fields) (out more : List ℕ) (old new : Standing) (a : Asked) → n ≡ 0
    → RequestedAt n s all out more old new a → Sent s (next_batch s all old.stage) out more old.stage new a
sent_at zero s all out more old new a none r = r
sent_at (suc k) s all out more old new a none r = absurd (omega (arith, none))

asks_rest : (st : feed.Stage) (b : List (Numbered Fields)) → IsRest st → (stands_at st b).coming ≡ 0
    → IsRest (stands_at st b).stage
asks_rest asking b rest none = tt
asks_rest (knows m) [] rest none = tt
asks_rest (knows m) (r ∷ rs) rest none = absurd (omega (arith, none))
asks_rest (waits m n) b rest none = absurd rest

pub round_rest : (s : Settings) (known : Option (List Fields)) (count : ℕ) (old new : Link) (w x : Standing) (a : Asked)
    → IsAtRest w → IsRound s known count old new w x a → IsAtRest x
round_rest s known count old new w x a rest r =
    let all = r.asks.0 in
    let sent = sent_at w.coming s all [] r.bytes w r.standing a rest.0 r.asks.2 in
    let P : Standing → Type 0 = λ y. y.coming ≡ 0 → IsRest y.stage in
    hears_rest r.standing.coming s.base count r.link new r.standing x r.hears refl
    (subst P (sym sent.stands) (asks_rest w.stage (next_batch s all w.stage) rest.1))

rounds_rest : (n : ℕ) (s : Settings) (known : Option (List Fields)) (count : ℕ) (old new : Link) (w x : Standing)
    → IsAtRest w → Rounds s known count n old new w x → IsAtRest x
rounds_rest zero s known count old new w x rest r = subst IsAtRest (sym r.1) rest
rounds_rest (suc n) s known count old new w x rest r =
    round_rest s known count r.0 new r.1 x r.2 (rounds_rest n s known count old r.0 w r.1 rest r.3) r.4

-- -- if nothing is sent, all records are added

abbrev number_of : Asked → ℕ
number_of asked.Nothing = 0
number_of asked.LastId = 1
number_of asked.Records = 2

pub nothing_asked : (st : feed.Stage) (b : List (Numbered Fields)) → asked.Nothing ≡ asks_of st b → IsRest st
    → (m : ℕ) × (st ≡ knows m) × (b ≡ [])
nothing_asked asking b is rest =
    let e : 0 ≡ 1 = ap number_of is in
    absurd (omega (arith, e))
nothing_asked (knows m) [] is rest = (m, refl, refl)
nothing_asked (knows m) (r ∷ rs) is rest =
    let e : 0 ≡ 2 = ap number_of is in
    absurd (omega (arith, e))
nothing_asked (waits m n) b is rest = absurd rest

pub none_behind : {A : Type 0} (n m : ℕ) (xs : List A) → 0 < n → take n (drop m xs) ≡ [] → length xs ≤ m
none_behind zero m xs some none = absurd (omega (arith, some))
none_behind (suc n) m [] some none = omega arith
none_behind (suc n) zero (x ∷ xs) some none =
    let e : suc (length (take n xs)) ≡ 0 = ap length none in
    absurd (omega (arith, e))
none_behind (suc n) (suc m) (x ∷ xs) some none =
    let rest : length xs ≤ m = none_behind (suc n) m xs some none in
    omega (arith, rest)

hears_none : (n base count : ℕ) (old new : Link) (w x : Standing) → n ≡ 0 → Hears base count n old new w x → x ≡ w
hears_none zero base count old new w x none h = h.1
hears_none (suc n) base count old new w x none h = absurd (omega (arith, none))

all_in : (s : Settings) (known : Option (List Fields)) (count : ℕ) (old new : Link) (w x : Standing) → IsAtRest w
    → IsRound s known count old new w x asked.Nothing → AllIn s known count x
all_in s known count old new w x rest r =
    let all = r.asks.0 in
    let b : List (Numbered Fields) = next_batch s all w.stage in
    let sent = sent_at w.coming s all [] r.bytes w r.standing asked.Nothing rest.0 r.asks.2 in
    let q = nothing_asked w.stage b sent.asks rest.1 in
    let stands : r.standing ≡ stands_at (knows q.0) [] =
    sent.stands ∙ (ap (λ (st : feed.Stage). stands_at st b) q.1 ∙ ap (λ (c : List (Numbered Fields)). stands_at (knows q.0) c) q.2) in
    let none : r.standing.coming ≡ 0 = ap (λ (y : Standing). y.coming) stands in
    let behind : take s.batch (drop q.0 (numbered s.base all)) ≡ [] =
    ap (λ (st : feed.Stage). next_batch s all st) (sym q.1) ∙ q.2 in (
      q.0,
      hears_none r.standing.coming s.base count r.link new r.standing x none r.hears ∙ stands,
      (
        all,
        r.asks.1,
        λ some.
            let within : length (numbered s.base all) ≤ q.0 = none_behind s.batch q.0 (numbered s.base all) some behind in
            omega (arith, within, numbered_length s.base all),
      ),
    )

-- the round that sent nothing
last_round : (s v : Settings) (known more : Option (List Fields)) (count : ℕ) (l new : Link) (y x : Standing)
    (a : Asked) → v ≡ s → more ≡ known → IsRound v more count l new y x a → a ≡ asked.Nothing
    → IsRound s known count l new y x asked.Nothing
last_round s v known more count l new y x a same all round none =
    subst (λ (q : Asked). IsRound s known count l new y x q) none
    (subst (λ (u : Settings). IsRound u known count l new y x a) same
    (subst (λ (u : Option (List Fields)). IsRound v u count l new y x a) all round))

-- it ran until all records were in
pub ran : (s v : Settings) (known more : Option (List Fields)) (count most n : ℕ) (old l new : Link) (y x : Standing)
    (a : Asked) → v ≡ s → more ≡ known → Rounds s known count n old l idle y → IsRound v more count l new y x a
    → a ≡ asked.Nothing → Ran s known count most old new x true
ran s v known more count most n old l new y x a same all rounds round none = record {
  count_of = n + 1;
  rounds = rounds_more s v known more count n old l new idle y x a same all rounds round;
  all = λ done. all_in s known count l new y x (rounds_rest n s known count old l idle y (refl, tt) rounds)
      (last_round s v known more count l new y x a same all round none);
  finished = λ done. record {
    count_of = n;
    link = l;
    standing = y;
    ends = x;
    rounds = rounds;
    last = last_round s v known more count l new y x a same all round none;
  };
  whole = λ e. absurd (true≢false e);
}

-- it made as many rounds as were allowed
pub ran_out : (s : Settings) (known : Option (List Fields)) (count most n : ℕ) (old new : Link) (x : Standing)
    → n ≡ most → Rounds s known count n old new idle x → Ran s known count most old new x false
ran_out s known count most n old new x all rounds = record {
  count_of = n;
  rounds = rounds;
  all = λ e. absurd (true≢false (sym e));
  finished = λ e. absurd (true≢false (sym e));
  whole = λ e. all;
}

-- ---- what was sent, and nothing more

appends_none : (old between new : Option (List ℕ)) (bytes : List ℕ) → Appends old between bytes → Appends between new []
    → Appends old new bytes
appends_none None between new bytes a b = tt
appends_none (Some xs) None new bytes a b = absurd a
appends_none (Some xs) (Some ys) None bytes a b = absurd b
appends_none (Some xs) (Some ys) (Some zs) bytes a b = b ∙ (append-nil ys ∙ a)

pub sends_and_none : (old between new : Link) (bytes : List ℕ) → Sends old between bytes → Sends between new []
    → Sends old new bytes
sends_and_none old between new bytes a b = record {
  appends = appends_none old.written between.written new.written bytes a.appends b.appends;
  coming = b.coming ∙ a.coming;
  held = b.held ∙ a.held;
  in_place = b.in_place ∙ a.in_place;
  passed = b.passed ∙ a.passed;
}
