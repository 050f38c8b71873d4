-- No id occurs twice in the file of a worker with `--look-up`, whatever the server delivers.
use Rattle.std.specs.Prelude.{◌≡◌, ℕ, List, [], Bool, Some}
use Rattle.worker_journal.specs.EntryLine.{Entry}
use Rattle.worker_journal.specs.Holds.{with_more}
use Rattle.worker_journal.specs.Lines.{StartsWith}
use Rattle.redis_connection.specs.Link.{Link}
use Rattle.model_server.specs.Group.Group.{ids_of, listed}
use Rattle.model_server.specs.Group.Worker.{Answer, Id, Verdict, entries_in, told_in}
use Rattle.stream_in_place.specs.Sent.{Pairs}
use Rattle.model_server.specs.Once.Consumer.{Consumer, restarts, syncs}
use Rattle.model_server.specs.Once.Law.{Once}
use Rattle.model_server.specs.Failover.Lookup.{lines_of, looks_up}
use Rattle.worker.specs.Handling.{with_all}
use Rattle.worker.specs.Session.{Standing, Turned, Fails}
use Rattle.worker.specs.declared.error.RunError.{RunError}
use Rattle.worker.specs.declared.state.Asked.{Asked}
use Rattle.worker.specs.declared.state.Settings.{Settings}
use Rattle.worker.specs.declared.worker.Progress.{Progress}
use Rattle.stream_drain.specs.Resumed.{BeginsWithLast, KnowsItsFile, ids_in}
use Rattle.stream_drain.specs.Written.{Written, committed_with, lines_in, written_too}

-- the state of a handler that has gathered nothing, and whose file consists of the lines of the entries `es`.
-- The ids of `es` are known.
abbrev pub over_file : Bool → List Entry → Written
over_file json es =
    record { json = json; known = Some (listed (ids_in es)); loose = []; committed = Some (lines_in json es) }

-- The states of a worker with `--look-up`. At first the file consists of lines of entries, and no id occurs
-- twice. In each round the worker receives any reply, or the round fails. The worker may end or crash at any
-- time. This leaves a file with the committed lines, followed by a prefix of the gathered lines. Then another
-- worker starts over this file.
pub data Reaches (json : Bool) : Standing Written → Type 0 where
  begins : (es : List Entry) (w : Standing Written) → Once (ids_in es) → w.history ≡ over_file json es → Reaches json w
  turns : (settings : Settings) (w x : Standing Written) (old new : Link) (q : Asked) (p : Progress) → Reaches json w
      → Turned written_too committed_with settings old new w x q p → Reaches json x
  fails : (settings : Settings) (w x : Standing Written) (old new : Link) (e : RunError) → Reaches json w
      → Fails written_too committed_with settings old new w x e → Reaches json x
  crashes : (w x : Standing Written) (kept es : List Entry) → Reaches json w
      → StartsWith (lines_in json kept) w.history.loose
      → with_more (lines_in json kept) w.history.committed ≡ Some (lines_in json es) → x.history ≡ over_file json es
      → Reaches json x

-- the committed text consists of the lines of entries, and no id occurs twice
pub record HasEachOnce (json : Bool) (w : Standing Written) : Type 0 where
  pub es : List Entry
  pub committed : w.history.committed ≡ Some (lines_in json es)
  pub once : Once (ids_in es)

-- the law: no id occurs twice in the file of any worker that `Reaches` describes
abbrev pub NoIdIsTwice : Type 0
NoIdIsTwice = (json : Bool) (w : Standing Written) → Reaches json w → HasEachOnce json w

-- the law: a worker over a file with the lines of entries, whose ids are known, starts in the state `over_file`
abbrev pub StartsLookingUp : Type 0
StartsLookingUp = (number : ℕ) (settings : Settings) (json : Bool) (known : Id → Bool) (es : List Entry) (w : Standing Written)
    → KnowsItsFile json (lines_in json es) (Some known)
    → BeginsWithLast number settings json (Some known) (lines_in json es) w → w.history ≡ over_file json es

-- the state of a handler that has the gathered lines and the file of the consumer `c` of
-- `model_server::failover`
abbrev pub written_as : Bool → Consumer Pairs → Written
written_as json c = record {
  json = json;
  known = Some (listed (ids_of (lines_of c)));
  loose = lines_in json c.lines;
  committed = Some (lines_in json c.file);
}

-- the law: the handler's lines and the consumer of `model_server::failover` change in the same manner. This
-- holds for the entries of a reply, for a commit, and for a crash followed by a start.
pub record LooksUpAsTheModel : Type 0 where
  pub reply : (json : Bool) (c : Consumer Pairs) (a : Answer Pairs) (verdicts : List Verdict)
      → with_all written_too (written_as json c) (told_in (entries_in a) verdicts)
      ≡ written_as json (looks_up verdicts (Some a) c)
  pub commit : (json : Bool) (c : Consumer Pairs) → committed_with (written_as json c) ≡ written_as json (syncs c)
  pub start : (json : Bool) (every kept more : ℕ) (c : Consumer Pairs)
      → over_file json (restarts every kept more c).file ≡ written_as json (restarts every kept more c)
