-- A round over a connection: an answer that is taken where it stands.
use Rattle.std.proofs.Common.{◌≡◌, ◌≤◌, ℕ, List, [], ◌++◌, length, take, Ok, Err, refl, sym, ◌∙◌, ap, subst}
use Rattle.std.proofs.Common.{append-nil}
use Rattle.std.proofs.Math.Seq.{take-length}
use Rattle.redis_wire.specs.Decoded.{NoReply}
use Rattle.redis_wire.specs.Grammar.{IsReply}
use Rattle.redis_wire.specs.Push.{reply_at}
use Rattle.redis_wire.specs.Reading.{Read}
use Rattle.redis_wire.specs.Reply as wire
use Rattle.redis_wire.specs.declared.limits.Limits.{Limits}
use Rattle.redis_wire.proofs.FitsLemmas.{reply_fits}
use Rattle.redis_connection.specs.Ask.{Exchanges}
use Rattle.redis_connection.specs.Link.{Link, Receives, Stands}
use Rattle.redis_connection.specs.Passing.{IsAnswerInPlace, ReceivesAnswer}
use Rattle.redis_connection.specs.declared.error.ConnectionError.TheVariants.{Memory}
use Rattle.model_server.specs.Group.Worker.{Verdict}
use Rattle.stream_in_place.specs.Sent.{Pairs}
use Rattle.worker.specs.Answered.{Failed}
use Rattle.worker.specs.Answers.{group_after, hears}
use Rattle.worker.specs.InPlace.{Heads, WentInPlace, FailedInPlace}
use Rattle.worker.specs.Session.{Standing, Breaks, HasAsked, Turned, EndsBy, command, having_heard}
use Rattle.worker.specs.Taken.{Takes, TakesNot}
use Rattle.worker.specs.declared.error.AnswerError.{AnswerError}
use Rattle.worker.specs.declared.error.InPlaceError.TheVariants as in_place
use Rattle.worker.specs.declared.error.RunError.{RunError}
use Rattle.worker.specs.declared.error.RunError.TheVariants as causes
use Rattle.worker.specs.declared.state.Asked.{Asked}
use Rattle.worker.specs.declared.state.Settings.{Settings}
use Rattle.worker.specs.declared.worker.Progress.{Progress}
use Rattle.worker.proofs.SessionLemmas.{turn_of}

answer_in : Read wire.Answer → wire.Answer → wire.Answer
answer_in (Ok x) a = x.0
answer_in (Err e) a = a

-- the reply at the head of bytes that are a reply is that one
same_answer : (limits : Limits) (bytes : List ℕ) (a b : wire.Answer) → IsReply limits bytes a → Heads limits bytes b
    → b ≡ a
unfolding answer_in
same_answer limits bytes a b r h =
    let f = reply_fits limits in
    let joined : bytes ++ [] ≡ h.text ++ h.rest = append-nil bytes ∙ h.is in
    ap (λ (x : Read wire.Answer). answer_in x a) (sym (f.again h.text h.rest b h.reply)
    ∙ ap (reply_at limits) (sym joined) ∙ f.again bytes [] a r.reply)

-- the next answer is held, and this is what is read of it
module _ {R : Type 0} (with_verdict : R → List ℕ × Pairs → Verdict → R)
    (settings : Settings) (old here : Link) (y x : Standing R) (len : ℕ)
    (stood : IsAnswerInPlace old here len) (limits : Limits) (text : List ℕ)
    (within : limits ≡ here.held.limits) (received : len ≤ here.in_place → text ≡ take len here.held.bytes) where
  abbrev answer : wire.Answer
  answer = stood.0

  abbrev before_it : Link
  before_it = stood.1.between

  abbrev stands : Stands before_it here len answer
  stands = stood.1.stands

  is_reply : IsReply limits text answer
  is_reply =
      subst (λ (l : Limits). IsReply l text answer) (sym (within ∙ stands.takes.limits))
      (subst (λ (t : List ℕ). IsReply before_it.held.limits t answer) (sym (received stands.within)) stands.reply)

  pub no_fault : (((more : List ℕ) → NoReply limits (text ++ more))) → ⊥
  no_fault none = subst (NoReply limits) (append-nil text) (none []) (length text) answer
      (subst (λ (t : List ℕ). IsReply limits t answer) (sym (take-length text)) is_reply)

  pub not_short : NoReply limits text → ⊥
  not_short none = none (length text) answer
      (subst (λ (t : List ℕ). IsReply limits t answer) (sym (take-length text)) is_reply)

  pub held : x ≡ y → TakesNot with_verdict settings old here y x (causes.Receive y.asked Memory)
  held same = (
    same,
    (
      record {
        count = stood.1.count;
        between = before_it;
        passes = stood.1.passes;
        waits = (stands.taken, stands.takes);
      },
      tt,
      tt,
      refl,
    ),
  )

  module _ (new : Link) (given : (before : Link) (a : wire.Answer) → Stands before here len a → Receives before new a)
    where
      came : (b : wire.Answer) → Heads limits text b → ReceivesAnswer old new b
      came b h =
          subst (λ (a : wire.Answer). ReceivesAnswer old new a)
          (sym (same_answer limits text answer b is_reply h)) (record {
            count = stood.1.count;
            between = before_it;
            passes = stood.1.passes;
            receives = given before_it answer stands;
            is_answer = stood.1.is_answer;
          })

      pub taken : (p : Progress) → WentInPlace with_verdict settings limits text y x p
          → Takes with_verdict settings old new y x p
      taken p g = (g.0, came g.0 g.1, g.2, g.3, g.4)

      pub refused : (e : AnswerError) → FailedInPlace with_verdict settings limits text y x (in_place.Answer e)
          → TakesNot with_verdict settings old new y x (causes.Answer e)
      refused e g = (g.0, came g.0 g.1, g.2, g.3, g.4, g.5)

-- a command that went out, and what was made of the next answer
module _ {R : Type 0} (with_verdict : R → List ℕ × Pairs → Verdict → R) (with_commit : R → R)
    (settings : Settings) (old mid new : Link) (w y x : Standing R) (asked : HasAsked with_commit settings old mid w y)
    (s : Settings) (same : s ≡ settings) where
  exchanged : (a : wire.Answer) → ReceivesAnswer mid new a → Exchanges old new (command settings w) a
  exchanged a r = record { between = mid; sends = asked.1; receives = r }

  pub turned : (q : Asked) (p : Progress) → q ≡ y.asked → Takes with_verdict s mid new y x p
      → Turned with_verdict with_commit settings old new w x q p
  turned q p is took =
      let g = subst (λ (v : Settings). Takes with_verdict v mid new y x p) same took in
      let t = turn_of with_verdict with_commit settings y x g.0 p g.2 g.3 g.4 in
      record {
        turn = record { answer = g.0; verdicts = t.0 };
        asked = is ∙ ap (λ (v : Standing R). v.asked) asked.0;
        exchanges = exchanged g.0 g.1;
        stands = subst (λ (v : Standing R). x ≡ having_heard with_verdict v
            (group_after settings v.group v.asked g.0) (hears settings v.asked g.0) t.0) asked.0 t.1;
        ends = subst (λ (v : Standing R). EndsBy (hears settings v.asked g.0) t.0 p) asked.0 t.2;
      }

  broken : (e : RunError) → TakesNot with_verdict settings mid new y x e
      → Breaks with_verdict with_commit settings old new w x e
  broken (causes.Request e) n = absurd n
  broken (causes.Send e) n = absurd n
  broken (causes.Receive named e) n = (
    n.0 ∙ asked.0,
    (mid, asked.1, n.1.0),
    n.1.1,
    n.1.2,
    n.1.3 ∙ sym (ap (λ (v : Standing R). v.asked) n.0),
  )
  broken (causes.Answer e) n = (
    n.0,
    exchanged n.0 n.1,
    subst (λ (v : Standing R). Failed with_verdict settings v.asked n.0 v.machine x.machine v.history x.history e.error)
        asked.0 n.2,
    n.3 ∙ ap (λ (v : Standing R). group_after settings v.group v.asked n.0) asked.0,
    n.4,
    n.5 ∙ ap (λ (v : Standing R). v.asked) asked.0,
  )

  pub breaks_so : (e : RunError) → TakesNot with_verdict s mid new y x e
      → Breaks with_verdict with_commit settings old new w x e
  breaks_so e n = broken e (subst (λ (v : Settings). TakesNot with_verdict v mid new y x e) same n)
