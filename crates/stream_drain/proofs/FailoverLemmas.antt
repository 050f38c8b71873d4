-- The program that looks up, over a server that may go back.
use Rattle.std.proofs.Common.{◌≡◌, ◌∙◌, refl, sym, ap, ℕ, Bool, List, [], ◌++◌, Some, append-nil}
use Rattle.worker_journal.specs.EntryLine.{Entry}
use Rattle.model_server.specs.Failover.World.{Event}
use Rattle.model_server.specs.Group.Group.{ids_of, listed}
use Rattle.model_server.specs.Group.Worker.{own_pending}
use Rattle.stream_in_place.specs.Sent.{Pairs}
use Rattle.model_server.specs.Once.Consumer.{new_consumer}
use Rattle.model_server.specs.Once.World.{Setting}
use Rattle.worker.specs.Session.{Standing, standing_of}
use Rattle.model_workers.specs.Failover.Keeps.{LooksUp}
use Rattle.model_workers.specs.Failover.Rounds.{file_left}
use Rattle.model_workers.specs.Failover.Schedule.{HasFile, file_after}
use Rattle.model_workers.proofs.FailoverLemmas.ScheduleLemmas.{code_loses_nothing, code_writes_each_record, code_writes_once}
use Rattle.model_workers.proofs.FailoverLemmas.ScheduleLemmas.{code_writes_the_log}
use Rattle.stream_drain.specs.Failover.{HasLines, LinesAreOfTheLog, LinesLookUp, LinesLoseNothing, LinesOnce}
use Rattle.stream_drain.specs.Failover.{LinesAreTheRecords, StartsOverTheModel, keeps_lines}
use Rattle.stream_drain.specs.Once.{over_file}
use Rattle.stream_drain.specs.Written.{Written, lines_in}
use Rattle.stream_drain.proofs.ModelLemmas.{looks_up_as_the_model}
use Rattle.stream_drain.proofs.ReachLemmas.{starts_looking_up}
use Rattle.stream_drain.proofs.ResumedLemmas.{starts_over_its_file}

pub lines_look_up : LinesLookUp
lines_look_up json = record {
  reply = λ lines file es verdicts. looks_up_as_the_model.reply json (record new_consumer { lines = lines; file = file })
      (own_pending es) verdicts;
  commit = λ lines file. looks_up_as_the_model.commit json (record new_consumer { lines = lines; file = file });
}

over_a_file : (json : Bool) (es : List Entry) → over_file json es ≡ (keeps_lines json).written [] es
over_a_file json es =
    ap (λ (xs : List Entry). record {
      json = json;
      known = Some (listed (ids_of xs));
      loose = [];
      committed = Some (lines_in json es);
    }) (sym (append-nil es))

pub starts_over_the_model : StartsOverTheModel
starts_over_the_model number settings json known c kept worker history enough knows begins =
    let es : List Entry = file_left c kept in
    record {
      kept = kept;
      number = number;
      worker = worker;
      enough = enough;
      started = starts_over_its_file number settings json (Some known) es worker history begins;
      stands = ap (λ (h : Written). standing_of worker h)
          (starts_looking_up number settings json known es (standing_of worker history) knows begins
          ∙ over_a_file json es);
    }

has_lines : (json : Bool) (w : Standing Written) (es : List Entry) → HasFile (keeps_lines json) w es → HasLines json w es
has_lines json w es h = ap (λ (x : Written). x.committed) h.1

pub lines_once : LinesOnce
lines_once json s wait settings events w r =
    let h = code_writes_once (keeps_lines json) (lines_look_up json) s wait settings events w r in
    (has_lines json w (file_after s events) h.0, h.1)

pub lines_are_of_the_log : LinesAreOfTheLog
lines_are_of_the_log json s wait settings events w r waits =
    let h = code_writes_the_log (keeps_lines json) (lines_look_up json) s wait settings events w r waits in
    (has_lines json w (file_after s events) h.0, h.1)

pub lines_lose_nothing : LinesLoseNothing
lines_lose_nothing json s fit wait settings earlier later w r h j e known =
    let k = code_loses_nothing (keeps_lines json) (lines_look_up json) s fit wait settings earlier later w r h j e known in
    (has_lines json w (file_after s (earlier ++ later)) k.0, k.1)

pub lines_are_the_records : LinesAreTheRecords
lines_are_the_records json s fit wait settings earlier later w r h j is_done drained none =
    let k = code_writes_each_record (keeps_lines json) (lines_look_up json) s fit wait settings earlier later w r h j is_done
    drained none in
    (has_lines json w (file_after s (earlier ++ later)) k.0, k.1)
