-- The file after a crash: the lines of the entries that were committed.
use Rattle.std.specs.Prelude.{◌≡◌, ◌⊎◌, ℕ, List, ◌++◌, Bool, true, Some, IfSome}
use Rattle.worker_journal.specs.EntryLine.{Entry}
use Rattle.worker_journal.specs.Lines.{AreLines, EachStartsWith, HasLine, StartsWith}
use Rattle.redis_connection.specs.Link.{Link}
use Rattle.model_server.specs.Group.Law.{Among}
use Rattle.model_server.specs.Group.Worker.{Id}
use Rattle.stream_in_place.specs.Sent.{Pairs}
use Rattle.worker.specs.Gathered.{Doings}
use Rattle.worker.specs.Session.{Standing, asking}
use Rattle.worker.specs.declared.state.Settings.{Settings}
use Rattle.stream_drain.specs.Line.{line_in}
use Rattle.stream_drain.specs.Lived.{LeadsSo, LivesSo}
use Rattle.model_workers.specs.Loops.Loop.{Drains}
use Rattle.stream_drain.specs.Known.{Known, is_known, lines_for}
use Rattle.stream_drain.specs.Written.{Beginning, Written, committed_with, lines_in, written_of}

-- After any crash the file begins with its first content, followed by the lines of the entries `es` in order.
-- Each entry has a line in the file.
pub record AreFiled (json : Bool) (first : List ℕ) (es : List Entry) (may_leave : List ℕ → Type 0) : Type 0 where
  pub in_order : EachStartsWith (first ++ lines_in json es) may_leave
  pub each : (e : Entry) → Among e es → (c : List ℕ) → may_leave c → HasLine (line_in json e) c

-- the start of a handler whose file has the content `first`
abbrev pub with_bytes : Bool → Known → List ℕ → Beginning
with_bytes json known first = record { json = json; known = known; first = Some first }

-- The rounds lead to this state of the worker, if the first content of the file consists of complete lines. At
-- the end each committed entry that had no line before has one, after any crash.
abbrev pub FiledFrom : Settings → Link → Link → Standing Written → Standing Written → (List ℕ → Type 0) → Type 0
FiledFrom settings old new w x may_leave = (json : Bool) (known : Known) (first : List ℕ) (d : Doings) → AreLines first
    → w.history ≡ written_of (with_bytes json known first) d
    → (l : LeadsSo (Drains settings) old new w x (with_bytes json known first) d)
    × AreFiled json first (lines_for known l.doings.committed) may_leave

-- the file `c` has a line of an entry with this id
abbrev pub IsFiled : Bool → Id → List ℕ → Type 0
IsFiled json id c = (fields : Pairs) × HasLine (line_in json (id, fields)) c

-- the file `c` has a line of an entry with each known id
abbrev pub AreThere : Bool → Known → List ℕ → Type 0
AreThere json known c = (id : Id) → is_known known id ≡ true → IsFiled json id c

-- the law: Before a worker acknowledges an id, each file that begins with the lines committed at that time has a
-- line with this id. Otherwise the server reported that the entry was deleted. A crash leaves only such files, by
-- `commit` of worker_journal. With `--look-up` the ids known at first are in the file.
abbrev pub AcknowledgedIsFiled : Type 0
AcknowledgedIsFiled = (settings : Settings) (json : Bool) (known : Known) (first : List ℕ) (w : Standing Written)
    (deleted : List Id) (c : List ℕ) → AreLines first → AreThere json known first
    → LivesSo settings (with_bytes json known first) w deleted
    → IfSome (asking committed_with settings w).history.committed (λ lines. StartsWith lines c)
    → (id : Id) → Among id (asking committed_with settings w).machine.to_acknowledge
    → IsFiled json id c ⊎ Among id deleted
