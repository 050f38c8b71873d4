-- A producer and a worker over one server: each record gets into the worker's file once.
use Rattle.std.specs.Prelude.{◌≡◌, ◌<◌, ℕ, List, [], ◌++◌, Option, Some}
use Rattle.redis_connection.specs.Link.{Link}
use Rattle.model_server.specs.Group.Group.{ids_of}
use Rattle.model_server.specs.Group.Law.{Among}
use Rattle.model_server.specs.Group.Worker.{Entry, news}
use Rattle.model_server.specs.Once.Feed.{entries}
use Rattle.model_server.specs.Once.Law.{AreFirst, Fit, HasEachOnce, IsDrained, NoOtherAcks, NoOtherAdds, Once, after}
use Rattle.model_server.specs.Once.Order.{AllInOrder}
use Rattle.model_server.specs.Once.World.{Event, Setting, first_world}
use Rattle.model_workers.specs.Files.Files.{Fields}
use Rattle.model_workers.specs.System.Once.{HearsTheAnswer, Meantime, Runs, round_events}
use Rattle.worker.specs.Answers.{hears, told}
use Rattle.worker.specs.Gathered.{Doings, committed_too, done_too}
use Rattle.worker.specs.Session.{EndsBy, Standing, Turn, after_turn, asking}
use Rattle.worker.specs.declared.state.Settings.{Settings}
use Rattle.worker.specs.declared.worker.Progress.{Progress}
use Rattle.worker_producer.specs.Machine.{Standing as Producer}
use Rattle.worker_producer.specs.Schedule as feed
use Rattle.worker_producer.specs.Session.{IsRound}
use Rattle.worker_producer.specs.declared.settings.Settings.{Settings as FeedSettings}
use Rattle.worker_producer.specs.declared.stage.Asked.TheVariants.{Nothing}

-- a producer and a worker made these events together: rounds, failures, crashes and starts of each, in any
-- order. Batches and acknowledgements may arrive late, and others may use the server. `worker` is the state of
-- the worker after them
pub record BothRun (s : Setting Fields) (events : List (Event Fields)) (worker : Standing Doings) : Type 0 where
  pub feed_settings : FeedSettings
  pub producer : Producer
  pub feeds : feed.Runs s feed_settings events producer
  pub settings : Settings
  pub drains : Runs s settings events worker

-- the law: if nobody else adds, no record is twice in the worker's file, and each entry of the file is a record, with
-- its own fields
abbrev pub NothingComesOutTwice : Type 0
NothingComesOutTwice = (s : Setting Fields) → Fit s → (events : List (Event Fields)) (worker : Standing Doings)
    → BothRun s events worker → NoOtherAdds events
    → Once (ids_of worker.history.committed)
    × ((e : Entry Fields) → Among e worker.history.committed → Among e (entries s.base s.records))

-- the law: if the worker reads all entries in order, the file is the first records, in order
abbrev pub FirstOnesComeOut : Type 0
FirstOnesComeOut = (s : Setting Fields) → Fit s → (events : List (Event Fields)) (worker : Standing Doings)
    → BothRun s events worker → NoOtherAdds events → AllInOrder s first_world events
    → AreFirst worker.history.committed (entries s.base s.records)

-- ---- both ended

-- the last round of a producer sent nothing, since all records are added. So `fill` of `stream_fill` returns Ok
pub record IsFilled (s : Setting Fields) (events : List (Event Fields)) : Type 0 where
  pub settings : FeedSettings
  pub some : 0 < settings.batch
  pub standing : Producer
  pub runs : feed.Runs s settings events standing
  pub known : Option (List Fields)
  pub count : ℕ
  pub old : Link
  pub new : Link
  pub ends : Producer
  pub last : IsRound settings known count old new standing ends Nothing
  pub sends : feed.SendsTheRecords s settings standing last.asks.0

-- after these events the last round of a worker requests new entries, and there are none. So `drain` of `stream_drain`
-- returns Ok
pub record ReadsNoMore (s : Setting Fields) (events : List (Event Fields)) : Type 0 where
  pub settings : Settings
  pub some : 0 < settings.count
  pub standing : Standing Doings
  pub runs : Runs s settings events standing
  pub meantime : Meantime
  pub turn : Turn
  pub progress : Progress
  pub ends : EndsBy (hears settings (asking committed_too settings standing).asked turn.answer) turn.verdicts progress
  pub heard : HearsTheAnswer settings standing meantime s (after s events) turn.answer
  pub none : hears settings (asking committed_too settings standing).asked turn.answer ≡ Some (told (news []))

module _ {s : Setting Fields} {events : List (Event Fields)} (r : ReadsNoMore s events) where
  -- all events, including those of the last round
  abbrev pub to_the_end : List (Event Fields)
  to_the_end = events ++ round_events r.settings r.standing r.meantime r.turn.verdicts

  -- the entries of the worker's file after the last round
  abbrev pub file_at_the_end : List (Entry Fields)
  file_at_the_end = (after_turn done_too committed_too r.settings r.standing r.turn).history.committed

-- the law: if the producer and the worker both ended, and the worker reads all in order, the file is the
-- records, in order
abbrev pub WhatGoesInComesOut : Type 0
WhatGoesInComesOut = (s : Setting Fields) → Fit s → (events more : List (Event Fields)) → IsFilled s events
    → (r : ReadsNoMore s (events ++ more)) → NoOtherAdds (to_the_end r) → AllInOrder s first_world (to_the_end r)
    → file_at_the_end r ≡ entries s.base s.records

-- the law: the file has each record once, in whatever order the worker reads. The producer ended, and the group
-- is drained. Nothing was deleted, and no other client acknowledged
abbrev pub EachComesOutOnce : Type 0
EachComesOutOnce = (s : Setting Fields) → Fit s → (events more : List (Event Fields)) → IsFilled s events
    → (settings : Settings) (worker : Standing Doings) → Runs s settings (events ++ more) worker
    → NoOtherAdds (events ++ more) → NoOtherAcks (events ++ more) → IsDrained (after s (events ++ more))
    → (after s (events ++ more)).stream.deleted ≡ []
    → HasEachOnce worker.history.committed (entries s.base s.records)
