-- What an event does to the log depends on the log alone.
use Rattle.std.proofs.Common.{◌≡◌, refl, sym, ap, ◌∙◌, ℕ, Bool, true, false, ◌&&◌, List, [], ◌∷◌, ◌++◌, Option, Some, None}
use Rattle.std.proofs.Common.{if◌then◌else◌}
use Rattle.worker_journal.specs.EntryLine.{Entry}
use Rattle.model_server.specs.Group.Worker.{Id, Verdict}
use Rattle.model_server.specs.Group.Group.{Name, Numbers, id_text, is_below, fits, listed, ids_of}
use Rattle.model_server.specs.Group.World.{World, Reply, Event, Append, Delete, Read, Reread, Claim, Claim_ids, Comes, Commit}
use Rattle.model_server.specs.Group.World.{Acknowledge, Ack_comes, Go_back, Crash, item, comes, ack_comes, empty_world, log_of}
use Rattle.model_server.specs.Group.World.{happens, run}
use Rattle.model_workers.specs.Files.Files.{Fields}

-- the log, and what of it was deleted
pub record Log : Type 0 where
  pub seen : List Entry
  pub fresh : List Entry
  pub last : Numbers
  pub deleted : List Id

abbrev pub log_in : World Fields → Log
log_in w = record { seen = w.seen; fresh = w.fresh; last = w.last; deleted = w.deleted }

abbrev with_log : Log → World Fields
with_log l = record (empty_world {F = Fields}) { seen = l.seen; fresh = l.fresh; last = l.last; deleted = l.deleted }

-- one event after others
pub run_last : (es : List (Event Fields)) (e : Event Fields) (w : World Fields)
    → run (es ++ e ∷ []) w ≡ happens (run es w) e
run_last [] e w = refl
run_last (x ∷ es) e w = run_last es e (happens w x)

appended : (w : World Fields) (n : Numbers) (fields : Fields) (b : Bool)
    → log_in (if b then record w { fresh = w.fresh ++ (id_text n, fields) ∷ []; last = n } else w)
    ≡ log_in (if b then record (with_log (log_in w)) { fresh = w.fresh ++ (id_text n, fields) ∷ []; last = n }
    else with_log (log_in w))
appended w n fields true = refl
appended w n fields false = refl

deleted : (w : World Fields) (id : Id) (b : Bool)
    → log_in (if b then record w { deleted = id ∷ w.deleted } else w)
    ≡ log_in (if b then record (with_log (log_in w)) { deleted = id ∷ w.deleted } else with_log (log_in w))
deleted w id true = refl
deleted w id false = refl

came : (w : World Fields) (k : ℕ) (vs : List Verdict) (r : Option (Reply Fields)) → log_in (comes w k r vs) ≡ log_in w
came w k vs None = refl
came w k vs (Some r) = refl

ack_came : (w : World Fields) (a : Option (Name × List Id)) → log_in (ack_comes w a) ≡ log_in w
ack_came w None = refl
ack_came w (Some a) = refl

logged : (w : World Fields) (e : Event Fields) → log_in (happens w e) ≡ log_in (happens (with_log (log_in w)) e)
logged w (Append n fields) = appended w n fields (is_below w.last n && fits n)
logged w (Delete id) = deleted w id (listed (ids_of (log_of w)) id)
logged w (Read c n) = refl
logged w (Reread c pick) = refl
logged w (Claim c pick next) = refl
logged w (Claim_ids c pick) = refl
logged w (Comes k vs) = came w k vs (item w.replies k)
logged w (Commit c) = refl
logged w (Acknowledge c) = refl
logged w (Ack_comes k) = ack_came w (item w.acks k)
logged w (Go_back c) = refl
logged w (Crash c every keeps ids) = refl

-- two worlds with the same log have the same log after the event
pub same_log : (w v : World Fields) (e : Event Fields) → log_in w ≡ log_in v → log_in (happens w e) ≡ log_in (happens v e)
same_log w v e q = logged w e ∙ ap (λ l. log_in (happens (with_log l) e)) q ∙ sym (logged v e)
