-- Lemmas on the rounds of a session.
use Rattle.std.proofs.Common.{◌≡◌, ◌+◌, ◌<◌, ℕ, zero, suc, true, false, List, [], ◌∷◌, ◌++◌, length, Option, Some}
use Rattle.std.proofs.Common.{arith, refl, sym, ◌∙◌, ap, subst, append_assoc, append-nil}
use Rattle.std.proofs.Common.{Result, Ok, Err, IfErr, IfOk, OnErr}
use Rattle.std.specs.Prelude.{codes, if◌then◌else◌}
use Rattle.std.proofs.KnownBytes.{Appends-nil, Appends-trans, Consumes-nil, Consumes-trans}
use Rattle.std.specs.Io.KnownBytes.{Appends, Consumes}
use Rattle.redis_wire.specs.Grammar.{IsReply}
use Rattle.redis_wire.specs.Next.{Held}
use Rattle.redis_wire.specs.Packed.{command_bytes}
use Rattle.redis_wire.specs.Reply as wire
use Rattle.redis_wire.specs.declared.limits.Limits.{Limits}
use Rattle.redis_wire.specs.declared.reply.Reply.{Reply}
use Rattle.redis_connection.specs.Ask.{Exchanges}
use Rattle.redis_connection.specs.Link.{Link, IsEnded, IsFaulty}
use Rattle.redis_connection.specs.Passing.{AwaitsAnswer, Passes, ReceivesAnswer}
use Rattle.redis_connection.specs.declared.error.ConnectionError.{ConnectionError}
use Rattle.model_server.specs.Group.Worker.{Verdict, Machine, own, after_commit}
use Rattle.stream_in_place.specs.Sent.{Pairs}
use Rattle.worker.specs.Answers.{Heard, told, no_group, group_made, hears, group_after}
use Rattle.worker.specs.Answered.{Went, GoesBy}
use Rattle.worker.specs.Errors.{received_for}
use Rattle.worker.specs.Gathered.{Doings}
use Rattle.worker.specs.Machine.{commits, at_request, machine_of}
use Rattle.worker.specs.Questions.{sentence}
use Rattle.worker.specs.Session.{Standing, Turn, answers_of, AreMessages, IsAnswerText, AreReplies, Converses, command, asking}
use Rattle.worker.specs.Session.{HasAsked, IsAsked}
use Rattle.worker.specs.Session.{having_heard, EndsBy, ends_before, after_turn, after_turns, bytes_asked, Ends}
use Rattle.worker.specs.Session.{Rounds, Turned, Ran, IsUnanswered, Breaks, Fails, Broke, FailuresBeginAgain}
use Rattle.worker.specs.Session.{IsUnsent, FailsUnanswered, after_failure, machine_after, standing_of}
use Rattle.worker.specs.Taken.{Awaited}
use Rattle.worker.specs.declared.error.RunError.{RunError}
use Rattle.worker.specs.declared.error.RunError.TheVariants as causes
use Rattle.worker.specs.declared.state.Asked.{Asked}
use Rattle.worker.specs.declared.state.Asked.TheVariants.{Nothing}
use Rattle.worker.specs.declared.state.GroupState.{GroupState}
use Rattle.worker.specs.declared.state.Settings.{Settings}
use Rattle.worker.specs.declared.worker.Progress.{Progress}
use Rattle.worker.specs.declared.worker.Worker.{Worker}
use Rattle.worker.specs.declared.worker.Progress.TheVariants.{GoesOn, Stopped}

-- ---- what goes over the connection

pub replies_more : (limits : Limits) (bytes text : List ℕ) (came : List wire.Answer) (a : wire.Answer)
    → AreReplies limits bytes came → IsAnswerText limits text a → AreReplies limits (bytes ++ text) (came ++ a ∷ [])
replies_more limits bytes text [] a none reply =
    (text, [], ap (λ b. b ++ text) none ∙ sym (append-nil text), reply, refl)
replies_more limits bytes text (b ∷ came) a h reply = (
  h.0,
  h.1 ++ text,
  ap (λ x. x ++ text) h.2 ∙ append_assoc h.0 h.1 text,
  h.3,
  replies_more limits h.1 text came a h.4 reply,
)

pub converses_none : (link : Link) → Converses link link [] []
converses_none link = record {
  appends = Appends-nil link.written;
  taken = [];
  texts = [];
  consumes = Consumes-nil link.coming;
  bytes = append-nil link.held.bytes;
  replies = refl;
  limits = refl;
}

-- messages that were passed over, as the bytes that they were
record Flat (old new : Link) (n : ℕ) : Type 0 where
  taken : List ℕ
  texts : List ℕ
  consumes : Consumes old.coming new.coming taken
  bytes : old.held.bytes ++ taken ≡ texts ++ new.held.bytes
  messages : AreMessages old.held.limits n texts
  limits : new.held.limits ≡ old.held.limits
  written : new.written ≡ old.written

-- bytes that came in behind, and were given out behind
joined : (a b c taken more text texts : List ℕ) → a ++ taken ≡ texts ++ b → b ++ more ≡ text ++ c
    → a ++ (taken ++ more) ≡ (texts ++ text) ++ c
joined a b c taken more text texts p q = sym (append_assoc a taken more) ∙ ap (λ x. x ++ more) p
    ∙ append_assoc texts b more ∙ ap (λ x. texts ++ x) q ∙ sym (append_assoc texts text c)

flat : (n : ℕ) (old new : Link) → Passes n old new → Flat old new n
flat zero old new p = subst (λ (l : Link). Flat old l 0) (sym p) (record {
  taken = [];
  texts = [];
  consumes = Consumes-nil old.coming;
  bytes = append-nil old.held.bytes;
  messages = refl;
  limits = refl;
  written = refl;
})
flat (suc n) old new p =
    let mid = p.0 in
    let f = flat n old mid p.1 in
    let r = p.2.receives in
    subst (λ (l : Link). Flat old l (suc n)) (sym p.2.counted) (record {
      taken = f.taken ++ r.taken;
      texts = f.texts ++ r.text;
      consumes = Consumes-trans old.coming mid.coming p.2.between.coming f.taken r.taken f.consumes r.consumes;
      bytes = joined old.held.bytes mid.held.bytes p.2.between.held.bytes f.taken r.taken r.text f.texts f.bytes r.bytes;
      messages = (
        f.texts,
        r.text,
        p.2.message,
        refl,
        f.messages,
        subst (λ l. IsReply l r.text p.2.message) f.limits r.reply,
        p.2.is_message,
      );
      limits = r.limits ∙ f.limits;
      written = r.written ∙ f.written;
    })

pub converses_more : (old mid new : Link) (out : List ℕ) (came : List wire.Answer) (args : List (List ℕ))
    (a : wire.Answer) → Converses old mid out came → Exchanges mid new args a
    → Converses old new (out ++ command_bytes args) (came ++ a ∷ [])
converses_more old mid new out came args a c x =
    let s = x.sends in
    let p = x.receives in
    let f = flat p.count x.between p.between p.passes in
    let r = p.receives in
    let went : Appends mid.written new.written (command_bytes args) =
    subst (λ w. Appends mid.written w (command_bytes args)) (sym (r.written ∙ f.written)) s.appends in
    let consumed : Consumes mid.coming new.coming (f.taken ++ r.taken) =
    subst (λ l. Consumes l new.coming (f.taken ++ r.taken)) s.coming
    (Consumes-trans x.between.coming p.between.coming new.coming f.taken r.taken f.consumes r.consumes) in
    let held : mid.held.bytes ++ (f.taken ++ r.taken) ≡ (f.texts ++ r.text) ++ new.held.bytes =
    ap (λ (h : Held). h.bytes ++ (f.taken ++ r.taken)) (sym s.held)
    ∙ joined x.between.held.bytes p.between.held.bytes new.held.bytes f.taken r.taken r.text f.texts f.bytes r.bytes in
    let first : x.between.held.limits ≡ old.held.limits = ap (λ (h : Held). h.limits) s.held ∙ c.limits in
    record {
      appends = Appends-trans old.written mid.written new.written out (command_bytes args) c.appends went;
      taken = c.taken ++ (f.taken ++ r.taken);
      texts = c.texts ++ (f.texts ++ r.text);
      consumes = Consumes-trans old.coming mid.coming new.coming c.taken (f.taken ++ r.taken) c.consumes consumed;
      bytes = joined old.held.bytes mid.held.bytes new.held.bytes c.taken (f.taken ++ r.taken) (f.texts ++ r.text) c.texts
          c.bytes held;
      replies = replies_more old.held.limits c.texts (f.texts ++ r.text) came a c.replies (record {
        count = p.count;
        messages = f.texts;
        answer = r.text;
        is = refl;
        pushed = subst (λ l. AreMessages l p.count f.texts) first f.messages;
        reply = subst (λ l. IsReply l r.text a) (f.limits ∙ first) r.reply;
        is_answer = p.is_answer;
      });
      limits = r.limits ∙ f.limits ∙ first;
    }

-- ---- turns, and one more

answers_more : (turns : List Turn) (t : Turn) → answers_of (turns ++ t ∷ []) ≡ answers_of turns ++ t.answer ∷ []
answers_more [] t = refl
answers_more (u ∷ turns) t = ap (λ l. u.answer ∷ l) (answers_more turns t)

count_more : (turns : List Turn) (t : Turn) → length (turns ++ t ∷ []) ≡ length turns + 1
count_more [] t = refl
count_more (u ∷ turns) t = omega (arith, count_more turns t)

before_one : (turns : List Turn) (t : Turn) (p : Progress) → ends_before (turns ++ t ∷ []) p ≡ GoesOn
before_one [] t p = refl
before_one (u ∷ turns) t p = refl

before_some : (turns : List Turn) → ends_before turns GoesOn ≡ GoesOn
before_some [] = refl
before_some (u ∷ turns) = refl

pub standing_is : {R : Type 0} (x : Standing R) (m : Machine) (b : GroupState) (q : Asked) (r : R) → x.machine ≡ m
    → x.group ≡ b → x.asked ≡ q → x.history ≡ r
    → x ≡ (let y : Standing R = record { machine = m; group = b; asked = q; history = r } in y)
standing_is {R = R} x m b q r im ib iq ir =
    ap (λ v. let y : Standing R = record x { machine = v } in y)
    im
    ∙ ap (λ v. let y : Standing R = record { machine = m; group = v; asked = x.asked; history = x.history } in y) ib
    ∙ ap (λ v. let y : Standing R = record { machine = m; group = b; asked = v; history = x.history } in y) iq
    ∙ ap (λ v. let y : Standing R = record { machine = m; group = b; asked = q; history = v } in y) ir

module _ {R : Type 0} (with_verdict : R → List ℕ × Pairs → Verdict → R) (with_commit : R → R)
    (settings : Settings) where
  stands_more : (w : Standing R) (turns : List Turn) (t : Turn)
      → after_turns with_verdict with_commit settings w (turns ++ t ∷ [])
      ≡ after_turn with_verdict with_commit settings (after_turns with_verdict with_commit settings w turns) t
  stands_more w [] t = refl
  stands_more w (u ∷ turns) t = stands_more (after_turn with_verdict with_commit settings w u) turns t

  bytes_more : (w : Standing R) (turns : List Turn) (t : Turn)
      → bytes_asked with_verdict with_commit settings w (turns ++ t ∷ [])
      ≡ bytes_asked with_verdict with_commit settings w turns
      ++ command_bytes (command settings (after_turns with_verdict with_commit settings w turns))
  bytes_more w [] t = append-nil (command_bytes (command settings w))
  bytes_more w (u ∷ turns) t =
      let x : Standing R = after_turn with_verdict with_commit settings w u in
      ap (λ b. command_bytes (command settings w) ++ b) (bytes_more x turns t)
      ∙ sym (append_assoc (command_bytes (command settings w)) (bytes_asked with_verdict with_commit settings x turns)
      (command_bytes (command settings (after_turns with_verdict with_commit settings x turns))))

  ends_more : (w : Standing R) (turns : List Turn) (t : Turn) (p : Progress)
      → Ends with_verdict with_commit settings w turns GoesOn
      → EndsBy (hears settings
      (asking with_commit settings (after_turns with_verdict with_commit settings w turns)).asked t.answer) t.verdicts p
      → Ends with_verdict with_commit settings w (turns ++ t ∷ []) p
  ends_more w [] t p h e = (e, tt)
  ends_more w (u ∷ turns) t p h e =
      let x : Standing R = after_turn with_verdict with_commit settings w u in
      let heard : Option Heard = hears settings (asking with_commit settings w).asked u.answer in (
        subst (EndsBy heard u.verdicts) (before_some turns ∙ sym (before_one turns t p)) h.0,
        ends_more x turns t p h.1 e,
      )

  -- what a worker did with an answer is a turn
  module _ (w x : Standing R) (a : wire.Answer) (p : Progress) where
    abbrev IsTurn : Type 0
    IsTurn = (verdicts : List Verdict)
        × (x ≡ having_heard with_verdict w (group_after settings w.group w.asked a) (hears settings w.asked a) verdicts)
        × EndsBy (hears settings w.asked a) verdicts p

    of_heard : (h : Heard) (k : GroupState) → x.group ≡ k → x.asked ≡ Nothing
        → GoesBy with_verdict h w.machine x.machine w.history x.history p
        → (verdicts : List Verdict) × (x ≡ having_heard with_verdict w k (Some h) verdicts) × EndsBy (Some h) verdicts p
    of_heard (told answer) k group asked g =
        (g.verdicts, standing_is x _ _ _ _ g.machine group asked g.history, g.ended)
    of_heard no_group k group asked g = ([], standing_is x _ _ _ _ g.0 group asked g.1, g.2)
    of_heard group_made k group asked g = ([], standing_is x _ _ _ _ g.0 group asked g.1, g.2)

    pub turn_of : Went with_verdict settings w.asked a w.machine x.machine w.history x.history p
        → x.group ≡ group_after settings w.group w.asked a → x.asked ≡ Nothing → IsTurn
    turn_of g group asked =
        let k : GroupState = group_after settings w.group w.asked a in
        let P : Option Heard → Type 0 = λ o. (verdicts : List Verdict) × (x ≡ having_heard with_verdict w k o verdicts)
        × EndsBy o verdicts p in
        subst P (sym g.said) (of_heard g.heard k group asked g.goes)

  -- ---- rounds, and one more

  pub rounds_none : (link : Link) (w : Standing R) → Rounds with_verdict with_commit settings link link w w 0 GoesOn
  rounds_none link w = record { turns = []; count = refl; converses = converses_none link; stands = refl; ends = tt }

  pub none_turns : (link : Link) (w : Standing R) → (rounds_none link w).turns ≡ []
  unfolding rounds_none
  none_turns link w = refl

  pub rounds_more : (old mid new : Link) (w y x : Standing R) (n : ℕ) (question : Asked) (p : Progress)
      → Rounds with_verdict with_commit settings old mid w y n GoesOn
      → Turned with_verdict with_commit settings mid new y x question p
      → Rounds with_verdict with_commit settings old new w x (n + 1) p
  rounds_more old mid new w y x n question p r t =
      let turns = r.turns ++ t.turn ∷ [] in
      let c = converses_more old mid new _ _ _ t.turn.answer r.converses t.exchanges in
      record {
        turns = turns;
        count = count_more r.turns t.turn ∙ ap (λ k. k + 1) r.count;
        converses =
            subst (λ (l : List wire.Answer). Converses old new (bytes_asked with_verdict with_commit settings w turns) l)
            (sym (answers_more r.turns t.turn))
            (subst (λ b. Converses old new b (answers_of r.turns ++ t.turn.answer ∷ []))
            (sym (bytes_more w r.turns t.turn))
            (subst (λ (v : Standing R). Converses old new
            (bytes_asked with_verdict with_commit settings w r.turns ++ command_bytes (command settings v))
            (answers_of r.turns ++ t.turn.answer ∷ [])) r.stands c));
        stands = t.stands ∙ ap (λ (v : Standing R). after_turn with_verdict with_commit settings v t.turn) r.stands
            ∙ sym (stands_more w r.turns t.turn);
        ends = ends_more w r.turns t.turn p r.ends
            (subst (λ (v : Standing R). EndsBy (hears settings (asking with_commit settings v).asked t.turn.answer)
            t.turn.verdicts p) r.stands t.ends);
      }

  pub more_turns : (old mid new : Link) (w y x : Standing R) (n : ℕ) (question : Asked) (p : Progress)
      (r : Rounds with_verdict with_commit settings old mid w y n GoesOn)
      (t : Turned with_verdict with_commit settings mid new y x question p)
      → (rounds_more old mid new w y x n question p r t).turns ≡ r.turns ++ t.turn ∷ []
  unfolding rounds_more
  more_turns old mid new w y x n question p r t = refl

  -- ---- how a session ends

  pub failing : (old new : Link) (w x : Standing R) (e : RunError) → IsUnanswered with_commit settings old new w x e
      → Breaks with_verdict with_commit settings old new w x e
  failing old new w x (causes.Request e) u = u
  failing old new w x (causes.Send e) u = u
  failing old new w x (causes.Receive named e) u = u
  failing old new w x (causes.Answer e) u = absurd u

  pub ran_all : (old new : Link) (w x : Standing R) (rounds n : ℕ) → n ≡ rounds
      → Rounds with_verdict with_commit settings old new w x n GoesOn
      → Ran with_verdict with_commit settings old new w x rounds GoesOn
  ran_all old new w x rounds n all r = (n, all, r)

  pub ran_stopped : (old new : Link) (w x : Standing R) (rounds n : ℕ) → n < rounds
      → Rounds with_verdict with_commit settings old new w x (n + 1) Stopped
      → Ran with_verdict with_commit settings old new w x rounds Stopped
  ran_stopped old new w x rounds n fewer r = (n + 1, (omega arith, omega (arith, fewer)), r)

  module _ (s : Settings) (same : s ≡ settings) where
    pub turns_on : (old mid new : Link) (w y x : Standing R) (n : ℕ) (question : Asked) (p : Progress)
        → Rounds with_verdict with_commit settings old mid w y n GoesOn
        → Turned with_verdict with_commit s mid new y x question p
        → Rounds with_verdict with_commit settings old new w x (n + 1) p
    turns_on old mid new w y x n question p r t =
        rounds_more old mid new w y x n question p r
        (subst (λ (v : Settings). Turned with_verdict with_commit v mid new y x question p) same t)

    pub breaks : (old mid new : Link) (w y x : Standing R) (rounds n : ℕ) (e : RunError) → n < rounds
        → Rounds with_verdict with_commit settings old mid w y n GoesOn
        → Fails with_verdict with_commit s mid new y x e
        → Broke with_verdict with_commit settings old new w x rounds e
    breaks old mid new w y x rounds n e fewer r f =
        record {
          n = n;
          fewer = fewer;
          link = mid;
          before = y;
          made = r;
          fails = subst (λ (v : Settings). Fails with_verdict with_commit v mid new y x e) same f;
        }

-- ---- after a failure

-- a worker that begins again, if a command may have gone out
pub stands_failed : {R : Type 0} (w w' : Worker) (r : R) (e : RunError)
    → machine_of w' ≡ machine_after e (machine_of w) → w'.group ≡ w.group → w'.asked ≡ w.asked
    → standing_of w' r ≡ after_failure e (standing_of w r)
stands_failed w w' r e machine group asked = standing_is (standing_of w' r) _ _ _ _ machine group asked refl

module _ {R : Type 0} (with_verdict : R → List ℕ × Pairs → Verdict → R) (with_commit : R → R)
    (settings : Settings) (old new : Link) (w y x : Standing R) (e f : RunError) (same : f ≡ e)
    (is : x ≡ after_failure e y) where
  pub failed_unanswered : IsUnanswered with_commit settings old new w y e
      → FailsUnanswered with_commit settings old new w x f
  failed_unanswered u =
      subst (λ (c : RunError). FailsUnanswered with_commit settings old new w x c) (sym same) (y, u, is)

  pub failed_round : Breaks with_verdict with_commit settings old new w y e
      → Fails with_verdict with_commit settings old new w x f
  failed_round b =
      subst (λ (c : RunError). Fails with_verdict with_commit settings old new w x c) (sym same) (y, b, is)

phase_kept : (m : Machine) → (at_request m).phase ≡ m.phase
phase_kept m = elim (commits m) as (λ b. (if b then after_commit m else m).phase ≡ m.phase) [
  | true ↦ refl
  | false ↦ refl
]

begun_again : (e : RunError) (m : Machine) → (IsUnsent e → ⊥) → (machine_after e m).phase ≡ own (codes "0")
begun_again (causes.Request e) m sent = absurd (sent tt)
begun_again (causes.Send e) m sent = refl
begun_again (causes.Receive named e) m sent = refl
begun_again (causes.Answer e) m sent = refl

pub failures_begin_again : FailuresBeginAgain
failures_begin_again settings old new w x e f sent =
    ap (λ p. sentence settings x.group p (at_request x.machine).to_acknowledge)
    (phase_kept x.machine ∙ ap (λ (v : Standing Doings). v.machine.phase) f.2 ∙ begun_again e f.0.machine sent)

-- ---- what a receive returns, with the command in its error

pub received_ok : {A : Type 0} (P : A → Type 0) (question : Asked) (r : Result A ConnectionError) (s : Result A RunError)
    → s ≡ received_for question r → IfOk r P → IfOk s P
received_ok P question (Ok a) s is h = rw is h
received_ok P question (Err e) s is h = rw is tt

pub not_received : {A : Type 0} (question : Asked) (old new : Link) (r : Result A ConnectionError) (s : Result A RunError)
    → s ≡ received_for question r → OnErr r (AwaitsAnswer old new) → IfErr r (IsEnded new)
    → IfErr r (IsFaulty new.held) → IfErr s (Awaited question old new)
not_received question old new (Ok a) s is awaits ended faulty = rw is tt
not_received question old new (Err e) s is awaits ended faulty = rw is (awaits, ended, faulty, refl)

module _ {R : Type 0} (with_commit : R → R) (settings : Settings) where
  pub was_asked : (old m new : Link) (w x : Standing R) (question : Asked) (r : Result Reply ConnectionError)
      (s : Result Reply RunError) → HasAsked with_commit settings old m w x → s ≡ received_for question r
      → IfOk r (λ reply. ReceivesAnswer m new (wire.answer reply))
      → IfOk s (λ reply. IsAsked with_commit settings old new w x (wire.answer reply))
  was_asked old m new w x question (Ok reply) s asked is h =
      rw is (asked.0, record { between = m; sends = asked.1; receives = h })
  was_asked old m new w x question (Err e) s asked is h = rw is tt

  unanswered_by : (old m new : Link) (w x : Standing R) (question : Asked) (e : RunError)
      → HasAsked with_commit settings old m w x → question ≡ x.asked → Awaited question m new e
      → IsUnanswered with_commit settings old new w x e
  unanswered_by old m new w x question (causes.Receive named e) asked is h =
      (asked.0, (m, asked.1, h.0), h.1, h.2, h.3 ∙ is)
  unanswered_by old m new w x question (causes.Request e) asked is h = absurd h
  unanswered_by old m new w x question (causes.Send e) asked is h = absurd h
  unanswered_by old m new w x question (causes.Answer e) asked is h = absurd h

  pub unanswered : {A : Type 0} (old m new : Link) (w x : Standing R) (question : Asked) (s : Result A RunError)
      → HasAsked with_commit settings old m w x → question ≡ x.asked → IfErr s (Awaited question m new)
      → IfErr s (IsUnanswered with_commit settings old new w x)
  unanswered old m new w x question (Ok a) asked is h = tt
  unanswered old m new w x question (Err e) asked is h = unanswered_by old m new w x question e asked is h
