-- What a producer promises are steps of the model.
use Rattle.std.proofs.Common.{◌≡◌, ◌&&◌, refl, sym, ap, ◌∙◌, ℕ, List, [], ◌∷◌, take, drop, Option, Some, None}
use Rattle.std.specs.Prelude.{if◌then◌else◌}
use Rattle.std.specs.Option.{is_none}
use Rattle.model_server.specs.Once.Feed.{Numbered, Stage, Answer, Request, numbered, asking, knows, waits, learns, request, requested}
use Rattle.model_server.specs.Once.Feed.{waiting, adding}
use Rattle.model_server.specs.Once.Producer.{Producer, sends, hears}
use Rattle.worker_producer.specs.Machine.{Standing, next_batch, stands_at, asks_of}
use Rattle.worker_producer.specs.Records.{Fields}
use Rattle.worker_producer.specs.Step.{RequestsStayInStep, AnswersStayInStep, BreaksStayInStep, on_the_way}
use Rattle.worker_producer.specs.declared.settings.Settings.{Settings}
use Rattle.worker_producer.specs.declared.stage.Asked.{Asked}

-- the model's producer sends if nothing is on the way
pub sends_then : (n : ℕ) (all : List (Numbered Fields)) (p : Producer Fields) → p.sent ≡ None → p.answer ≡ None
    → sends n all p ≡ record p { stage = requested n all p.stage; sent = request n all p.stage }
sends_then n all p unsent unanswered =
    let q : Producer Fields = record p { stage = requested n all p.stage; sent = request n all p.stage } in
    ap (λ (o : Option (Request Fields)). if is_none o && is_none p.answer then q else p) unsent
    ∙ ap (λ (o : Option Answer). if is_none o then q else p) unanswered

waits_as : (m : ℕ) (b : List (Numbered Fields)) → waiting m b ≡ (stands_at (knows m) b).stage
waits_as m [] = refl
waits_as m (r ∷ rs) = refl

adds_as : (m : ℕ) (b : List (Numbered Fields)) → adding b ≡ on_the_way (asks_of (knows m) b) b
adds_as m [] = refl
adds_as m (r ∷ rs) = refl

-- its state after that, by what it knows
pub stands_as : (s : Settings) (records : List Fields) (base : ℕ) → base ≡ s.base → (st : Stage)
    → requested s.batch (numbered base records) st ≡ (stands_at st (next_batch s records st)).stage
stands_as s records base is asking = refl
stands_as s records base is (knows m) =
    ap (λ (k : ℕ). waiting m (take s.batch (drop m (numbered k records)))) is
    ∙ waits_as m (take s.batch (drop m (numbered s.base records)))
stands_as s records base is (waits m n) = refl

-- and what is on the way
pub asks_as : (s : Settings) (records : List Fields) (base : ℕ) → base ≡ s.base → (st : Stage)
    → request s.batch (numbered base records) st ≡ on_the_way (asks_of st (next_batch s records st)) (next_batch s records st)
asks_as s records base is asking = refl
asks_as s records base is (knows m) =
    ap (λ (k : ℕ). adding (take s.batch (drop m (numbered k records)))) is
    ∙ adds_as m (take s.batch (drop m (numbered s.base records)))
asks_as s records base is (waits m n) = refl

pub requests_stay : RequestsStayInStep
requests_stay s setting base w unsent unanswered out more new a sent =
    let p : Producer Fields = w.producer in
    let sends_it = sends_then s.batch (numbered setting.base setting.records) p unsent unanswered in
    let b = next_batch s setting.records p.stage in (
      ap (λ (q : Producer Fields). q.stage) sends_it ∙ stands_as s setting.records setting.base base p.stage
          ∙ ap (λ (n : Standing). n.stage) (sym sent.stands),
      ap (λ (q : Producer Fields). q.sent) sends_it ∙ asks_as s setting.records setting.base base p.stage
          ∙ ap (λ (x : Asked). on_the_way x b) (sym sent.asks),
    )

pub answers_stay : AnswersStayInStep
answers_stay setting w x there count a said new l =
    let same : Some x ≡ Some l.hears = sym said ∙ l.is in
    let eq : x ≡ l.hears = cc in
    ap (λ (o : Option Answer). (hears setting.base o w.producer).stage) there
    ∙ (ap (λ y. learns setting.base w.producer.stage y) eq ∙ sym l.knows)

pub breaks_stay : BreaksStayInStep
breaks_stay setting w = refl
