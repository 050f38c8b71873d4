-- A producer of the code beside the producer of the model.
use Rattle.std.specs.Prelude.{◌≡◌, ℕ, List, Option, Some, None}
use Rattle.redis_wire.specs.Reply as wire
use Rattle.model_server.specs.Once.Feed as feed
use Rattle.model_server.specs.Once.Feed.{Numbered, Request, ask_last, batch}
use Rattle.model_server.specs.Once.World.{Setting, World, Send, Hear, Break, happens}
use Rattle.worker_producer.specs.Learnt.{Learns}
use Rattle.worker_producer.specs.Machine.{Sent, Standing, idle, next_batch}
use Rattle.worker_producer.specs.Records.{Fields}
use Rattle.worker_producer.specs.Replies.{heard}
use Rattle.worker_producer.specs.declared.settings.Settings.{Settings}
use Rattle.worker_producer.specs.declared.stage.Asked.{Asked}
use Rattle.worker_producer.specs.declared.stage.Asked.TheVariants as asked

-- the commands on the way to the server, after this request, with these records
abbrev pub on_the_way : Asked → List (Numbered Fields) → Option (Request Fields)
on_the_way asked.Nothing b = None
on_the_way asked.LastId b = Some ask_last
on_the_way asked.Records b = Some (batch b)

-- the contract of `request` while no reply is expected is the step `Send` of the model: the model's producer is then in
-- the state of this one, and its commands are on the way
abbrev pub RequestsStayInStep : Type 0
RequestsStayInStep = (s : Settings) (setting : Setting Fields) → setting.base ≡ s.base → (w : World Fields)
    → w.producer.sent ≡ None → w.producer.answer ≡ None → (out more : List ℕ) (new : Standing) (a : Asked)
    → Sent s (next_batch s setting.records w.producer.stage) out more w.producer.stage new a
    → ((happens setting w (Send s.batch)).producer.stage ≡ new.stage)
    × ((happens setting w (Send s.batch)).producer.sent
    ≡ on_the_way a (next_batch s setting.records w.producer.stage))

-- the contract of `answered` for the last reply is a step of the model, if the reply is the one on its way
abbrev pub AnswersStayInStep : Type 0
AnswersStayInStep = (setting : Setting Fields) (w : World Fields) (x : feed.Answer) → w.producer.answer ≡ Some x
    → (count : ℕ) (a : wire.Answer) → heard w.producer.stage a ≡ Some x
    → (new : feed.Stage) → Learns setting.base count w.producer.stage new a
    → (happens setting w Hear).producer.stage ≡ new

-- the other results of `answered`, and `disconnected`, are steps too: the connection of the model breaks
abbrev pub BreaksStayInStep : Type 0
BreaksStayInStep = (setting : Setting Fields) (w : World Fields)
    → (happens setting w Break).producer.stage ≡ idle.stage
