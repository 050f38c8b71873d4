-- The program with `--look-up` is the consumer of `model_server::failover`, whose server may return to an
-- earlier state.
use Rattle.std.specs.Prelude.{◌≡◌, ◌≤◌, ℕ, List, [], ◌++◌, take, Bool, Option, Some}
use Rattle.worker_journal.specs.EntryLine.{Entry}
use Rattle.model_server.specs.Failover.Law.{after, ProducerAlwaysWaits}
use Rattle.model_server.specs.Failover.World.{Event}
use Rattle.redis_connection.specs.declared.wait.Wait.{Wait}
use Rattle.model_server.specs.Group.Group.{ids_of}
use Rattle.model_server.specs.Group.Law.{Among}
use Rattle.model_server.specs.Group.Worker.{Id}
use Rattle.stream_in_place.specs.Sent.{Pairs}
use Rattle.model_server.specs.Once.Consumer.{Consumer, new_consumer}
use Rattle.model_server.specs.Once.Feed.{entries, known_in}
use Rattle.model_server.specs.Once.Law.{Fit, HasEachOnce, IsDone, IsDrained, IsKept, Once, log}
use Rattle.model_server.specs.Once.World.{Setting}
use Rattle.worker.specs.Session.{Standing, standing_of}
use Rattle.worker.specs.declared.state.Settings.{Settings}
use Rattle.worker.specs.declared.worker.Worker.{Worker}
use Rattle.model_workers.specs.Failover.Keeps.{Keeps, LooksUp}
use Rattle.model_workers.specs.Failover.Rounds.{StartsOver, added_last, file_left}
use Rattle.model_workers.specs.Failover.Schedule.{NobodyElse, Runs, file_after}
use Rattle.stream_drain.specs.Once.{written_as}
use Rattle.stream_drain.specs.Resumed.{BeginsWithLast, KnowsItsFile}
use Rattle.stream_drain.specs.Written.{Written, committed_with, lines_in, written_too}

-- the program's handler and its lines, as JSON or as text
abbrev pub keeps_lines : Bool → Keeps Written
keeps_lines json = record {
  with_verdict = written_too;
  with_commit = committed_with;
  written = λ lines file. written_as json (record new_consumer { lines = lines; file = file });
}

-- the law: the handler finds out for each entry whether its file has the entry
abbrev pub LinesLookUp : Type 0
LinesLookUp = (json : Bool) → LooksUp (keeps_lines json)

-- the law: the start of the program after a crash is a start of `model_workers::failover`. The premises are
-- that the file consists of the lines of the entries that the crash leaves, and that the ids of the file are
-- known. Also, the program must read back all lines of the last commit.
abbrev pub StartsOverTheModel : Type 0
StartsOverTheModel = (number : ℕ) (settings : Settings) (json : Bool) (known : Id → Bool) (c : Consumer Pairs) (kept : ℕ)
    (worker : Worker) (history : Written) → added_last c kept ≤ number
    → KnowsItsFile json (lines_in json (file_left c kept)) (Some known)
    → BeginsWithLast number settings json (Some known) (lines_in json (file_left c kept)) (standing_of worker history)
    → StartsOver (keeps_lines json) settings c (standing_of worker history)

-- the committed text consists of the lines of the entries `es`
abbrev pub HasLines : Bool → Standing Written → List Entry → Type 0
HasLines json w es = w.history.committed ≡ Some (lines_in json es)

-- the law: after any failover no id occurs twice in the file, with or without `WAIT`
abbrev pub LinesOnce : Type 0
LinesOnce = (json : Bool) (s : Setting Pairs) (wait : Option Wait) (settings : Settings) (events : List (Event Pairs))
    (w : Standing Written) → Runs (keeps_lines json) s wait settings events w
    → HasLines json w (file_after s events) × Once (ids_of (file_after s events))

-- the law: Let the program and the producer use `WAIT`. Then after any failover each entry of the file is in
-- the log, with its own fields, and is delivered to nobody as new.
abbrev pub LinesAreOfTheLog : Type 0
LinesAreOfTheLog = (json : Bool) (s : Setting Pairs) (wait : Wait) (settings : Settings) (events : List (Event Pairs))
    (w : Standing Written) → Runs (keeps_lines json) s (Some wait) settings events w → ProducerAlwaysWaits events
    → HasLines json w (file_after s events) × ((e : Entry) → Among e (file_after s events)
    → Among e (log (after s events).now) × (Among e (after s events).now.stream.fresh → ⊥))

-- the law: Let nobody else add or acknowledge entries, and let the program and the producer use `WAIT`. Take a
-- record that the producer counted as added. Whatever happens later, the record is not yet delivered, is
-- pending, has a line in the file, or was deleted.
abbrev pub LinesLoseNothing : Type 0
LinesLoseNothing = (json : Bool) (s : Setting Pairs) → Fit s → (wait : Wait) (settings : Settings)
    (earlier later : List (Event Pairs)) (w : Standing Written)
    → Runs (keeps_lines json) s (Some wait) settings (earlier ++ later) w
    → NobodyElse earlier → NobodyElse later → (e : Entry)
    → Among e (take (known_in (after s earlier).now.producer.stage) (entries s.base s.records))
    → HasLines json w (file_after s (earlier ++ later)) × IsKept (after s (earlier ++ later)).now e

-- the law: Suppose that the producer once reported that all records are added, that the stream is drained, and
-- that no entry was deleted. Then the file has a line of each record, once.
abbrev pub LinesAreTheRecords : Type 0
LinesAreTheRecords = (json : Bool) (s : Setting Pairs) → Fit s → (wait : Wait) (settings : Settings)
    (earlier later : List (Event Pairs)) (w : Standing Written)
    → Runs (keeps_lines json) s (Some wait) settings (earlier ++ later) w
    → NobodyElse earlier → NobodyElse later → IsDone s (after s earlier).now
    → IsDrained (after s (earlier ++ later)).now → (after s (earlier ++ later)).now.stream.deleted ≡ []
    → HasLines json w (file_after s (earlier ++ later))
    × HasEachOnce (file_after s (earlier ++ later)) (entries s.base s.records)
