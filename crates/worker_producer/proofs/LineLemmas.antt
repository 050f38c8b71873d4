-- A reply that begins with `+` is no error, and bytes that arrive after those that were held.
use Rattle.std.proofs.Common.{◌≡◌, ◌+◌, ◌<◌, ◌≤◌, ℕ, zero, suc, Bool, true, false, List, [], ◌∷◌, ◌++◌, take}
use Rattle.std.proofs.Common.{Result, Ok, Err, OnOk, IfErr, refl, sym, ◌∙◌, ap, subst, append_assoc, arith}
use Rattle.std.proofs.KnownBytes.{Consumes-trans}
use Rattle.std.specs.Prelude.{if◌then◌else◌, codes}
use Rattle.std.specs.Str.{is_utf8, bytes_eq}
use Rattle.redis_wire.specs.Grammar.{IsReply, IsAnyReply, IsValue}
use Rattle.redis_wire.specs.Reading.{Halt}
use Rattle.redis_wire.specs.Reply as wire
use Rattle.redis_wire.specs.Scalar.{line_answer, text_answer}
use Rattle.redis_wire.specs.declared.kind.LineKind.TheVariants as lines
use Rattle.redis_wire.specs.declared.limits.Limits.{Limits}
use Rattle.redis_connection.specs.Link.{Link, Receives, Stands, Waits}
use Rattle.redis_connection.specs.Passing.{Passes, ReceivesAnswer, AwaitsAnswer, IsAnswerInPlace}
use Rattle.redis_connection.proofs.LinkLemmas.{waits_on}
use Rattle.worker_producer.specs.Learnt.{Took}
use Rattle.worker_producer.specs.Machine.{Standing}
use Rattle.worker_producer.specs.Session.{BeginsAsLine, HearsOne, Unheard}
use Rattle.worker_producer.specs.Unheard.{IsNoError}
use Rattle.worker_producer.specs.declared.error.RunError.{RunError}
use Rattle.worker_producer.specs.declared.error.RunError.TheVariants as causes
use Rattle.worker_producer.proofs.TakenLemmas.{more_taken}

-- ---- a line that is no error

abbrev NoError : Result wire.Answer Halt → Type 0
NoError (Ok a) = IsNoError a
NoError (Err e) = Unit {0}

either : (b : Bool) (x y : Result wire.Answer Halt) → NoError x → NoError y → NoError (if b then x else y)
either true x y p q = p
either false x y p q = q

text_fine : (line : List ℕ) → NoError (text_answer line)
text_fine line = either (is_utf8 line) _ _ tt tt

status_fine : (line : List ℕ) → NoError (line_answer lines.Status line)
unfolding line_answer
status_fine line = either (bytes_eq line (codes "OK")) _ _ tt (text_fine line)

value_fine : (limits : Limits) (d : ℕ) (text : List ℕ) (a : wire.Answer) → IsValue limits d (43 ∷ text) a → IsNoError a
unfolding IsValue
value_fine limits zero text a s = absurd s
value_fine limits (suc d) text a s = subst NoError s.at_second.made (status_fine s.a)

pub line_fine : (limits : Limits) (text : List ℕ) (a : wire.Answer) → IsReply limits text a → BeginsAsLine text
    → IsNoError a
unfolding IsAnyReply
line_fine limits text a r begins = by text r.reply begins
  where
    by : (text : List ℕ) → IsAnyReply limits text a → BeginsAsLine text → IsNoError a
    by [] s m = absurd m
    by (b ∷ text) s m =
        let P : ℕ → Type 0 = λ c. IsAnyReply limits (c ∷ text) a in
        value_fine limits limits.depth text a (subst P m s)

-- -- bytes that arrived after those that were held

receives_behind : (old mid new : Link) (a : wire.Answer) → Waits old mid → Receives mid new a → Receives old new a
receives_behind old mid new a w r = record {
  taken = w.0 ++ r.taken;
  text = r.text;
  consumes = Consumes-trans old.coming mid.coming new.coming w.0 r.taken w.1.consumes r.consumes;
  bytes = sym (append_assoc old.held.bytes w.0 r.taken) ∙ ap (λ bs. bs ++ r.taken) (sym w.1.bytes) ∙ r.bytes;
  reply = subst (λ l. IsReply l r.text a) w.1.limits r.reply;
  limits = r.limits ∙ w.1.limits;
  written = r.written ∙ w.1.written;
  passed = r.passed ∙ w.1.passed;
}

passes_behind : (n : ℕ) (old mid between new : Link) (a : wire.Answer) → Waits old mid → Passes n mid between
    → Receives between new a → (x : Link) × Passes n old x × Receives x new a
passes_behind zero old mid between new a w p r =
    (old, refl, receives_behind old mid new a w (subst (λ (l : Link). Receives l new a) p r))
passes_behind (suc n) old mid between new a w p r =
    let one = p.2 in
    let before = passes_behind n old mid p.0 one.between one.message w p.1 one.receives in (
      between,
      (
        before.0,
        before.1,
        record {
          message = one.message;
          is_message = one.is_message;
          between = one.between;
          receives = before.2;
          counted = one.counted;
        },
      ),
      r,
    )

waits_behind : (n : ℕ) (old mid between new : Link) → Waits old mid → Passes n mid between → Waits between new
    → (x : Link) × Passes n old x × Waits x new
waits_behind zero old mid between new w p r =
    (old, refl, waits_on old mid new w (subst (λ (l : Link). Waits l new) p r))
waits_behind (suc n) old mid between new w p r =
    let one = p.2 in
    let before = passes_behind n old mid p.0 one.between one.message w p.1 one.receives in (
      between,
      (
        before.0,
        before.1,
        record {
          message = one.message;
          is_message = one.is_message;
          between = one.between;
          receives = before.2;
          counted = one.counted;
        },
      ),
      r,
    )

passes_more : (n m k : ℕ) (old mid new : Link) → k ≡ n + m → Passes m old mid → Passes n mid new → Passes k old new
passes_more zero m k old mid new e p q =
    let is : m ≡ k = omega (arith, e) in
    subst (λ (l : Link). Passes k old l) (sym q) (subst (λ (j : ℕ). Passes j old mid) is p)
passes_more (suc n) m zero old mid new e p q = absurd (omega (arith, e))
passes_more (suc n) m (suc k) old mid new e p q =
    let is : k ≡ n + m = omega (arith, e) in
    (q.0, passes_more n m k old mid q.0 is p q.1, q.2)

pub receives_after : (old mid new : Link) (a : wire.Answer) → AwaitsAnswer old mid → ReceivesAnswer mid new a
    → ReceivesAnswer old new a
receives_after old mid new a w r =
    let b = passes_behind r.count w.between mid r.between new a w.waits r.passes r.receives in
    record {
      count = r.count + w.count;
      between = b.0;
      passes = passes_more r.count w.count (r.count + w.count) old w.between b.0 refl w.passes b.1;
      receives = b.2;
      is_answer = r.is_answer;
    }

awaits_after : (old mid new : Link) → AwaitsAnswer old mid → AwaitsAnswer mid new → AwaitsAnswer old new
awaits_after old mid new w r =
    let b = waits_behind r.count w.between mid r.between new w.waits r.passes r.waits in
    record {
      count = r.count + w.count;
      between = b.0;
      passes = passes_more r.count w.count (r.count + w.count) old w.between b.0 refl w.passes b.1;
      waits = b.2;
    }

unheard_after : (base count : ℕ) (old mid new : Link) (w : Standing) (e : RunError) → AwaitsAnswer old mid
    → Unheard base count mid new w e → Unheard base count old new w e
unheard_after base count old mid new w (causes.Request e) p u = absurd u
unheard_after base count old mid new w (causes.Send e) p u = absurd u
unheard_after base count old mid new w (causes.Receive e) p u = (awaits_after old mid new p u.0, u.1)
unheard_after base count old mid new w (causes.Answer e) p u =
    (u.0, u.1, receives_after old mid new u.1 p u.2, u.3)

-- ---- the same of what is returned

pub heard_after : {A : Type 0} (r : Result A RunError) (b base count : ℕ) (old mid new : Link) (w v x : Standing)
    → b ≡ base → v ≡ w → AwaitsAnswer old mid → OnOk r (HearsOne b count mid new v x)
    → OnOk r (HearsOne base count old new w x)
heard_after (Err e) b base count old mid new w v x is same p h = tt
heard_after (Ok y) b base count old mid new w v x is same p h = (
  h.0,
  receives_after old mid new h.0 p h.1,
  subst (λ (k : ℕ). Took k count w x h.0) is (subst (λ (u : Standing). Took b count u x h.0) same h.2),
)

pub failed_after : {A : Type 0} (r : Result A RunError) (b base count : ℕ) (old mid new : Link) (w v : Standing)
    → b ≡ base → v ≡ w → AwaitsAnswer old mid → IfErr r (Unheard b count mid new v)
    → IfErr r (Unheard base count old new w)
failed_after (Ok y) b base count old mid new w v is same p h = tt
failed_after (Err e) b base count old mid new w v is same p h =
    subst (λ (k : ℕ). Unheard k count old new w e) is
    (subst (λ (u : Standing). Unheard b count old new u e) same (unheard_after b count old mid new v e p h))

-- ---- a line that was taken

pub line_held : (old new : Link) (len : ℕ) → IsAnswerInPlace old new len → AwaitsAnswer old new
line_held old new len s = record {
  count = s.1.count;
  between = s.1.between;
  passes = s.1.passes;
  waits = (s.1.stands.taken, s.1.stands.takes);
}

pub line_heard : (base count : ℕ) (old mid new : Link) (len : ℕ) (bytes : List ℕ) (w x : Standing)
    → IsAnswerInPlace old mid len → (len ≤ mid.in_place → bytes ≡ take len mid.held.bytes) → BeginsAsLine bytes
    → ((before : Link) (a : wire.Answer) → Stands before mid len a → Receives before new a)
    → 1 < w.coming → x.coming + 1 ≡ w.coming → x.stage ≡ w.stage → HearsOne base count old new w x
line_heard base count old mid new len bytes w x s received begins gives some fewer same =
    let fine : IsNoError s.0 =
    line_fine s.1.between.held.limits (take len mid.held.bytes) s.0 s.1.stands.reply
    (subst BeginsAsLine (received s.1.stands.within) begins) in
    let is : x ≡ record { stage = w.stage; coming = x.coming } =
    ap (λ st. let y : Standing = record { stage = st; coming = x.coming } in y) same in (
      s.0,
      record {
        count = s.1.count;
        between = s.1.between;
        passes = s.1.passes;
        receives = gives s.1.between s.0 s.1.stands;
        is_answer = s.1.is_answer;
      },
      more_taken w.coming x.coming base count w x s.0 fewer (omega (arith, some, fewer)) fine is,
    )
