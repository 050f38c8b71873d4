-- What is acknowledged is a row.
use Rattle.std.proofs.Common.{◌≡◌, ◌∙◌, ◌⊎◌, refl, sym, ap, subst, inl, inr, ⊎_elim, ℕ, Bool, true, false, true≢false, List, [], ◌∷◌, ◌++◌}
use Rattle.std.proofs.Common.{Option, Some, None, IsSome, if◌then◌else◌}
use Rattle.redis_connection.specs.Link.{Link}
use Rattle.worker_table.specs.declared.row_table.cell.Column.{Column}
use Rattle.worker_table.specs.RowTable.Rows.{BeginsWith, Cell, Key, Row, find, with_known, with_row, with_rows}
use Rattle.worker_table.proofs.RowTableLemmas.RowsLemmas.{found_front, law}
use Rattle.model_server.specs.Group.Law.{Among}
use Rattle.model_server.specs.Group.Worker.{Entry, Id, Machine, Verdict, done, left_pending, stop, entries_in, told_in}
use Rattle.stream_in_place.specs.Sent.{Pairs}
use Rattle.worker.proofs.LifeLemmas.{only_committed}
use Rattle.worker.specs.Answered.{Failed}
use Rattle.worker.specs.Answers.{Heard, told, no_group, group_made}
use Rattle.worker.specs.Gathered.{committed_too}
use Rattle.worker.specs.Handling.{with_all}
use Rattle.worker.specs.Machine.{commits, at_request, history_at_request}
use Rattle.worker.specs.Requested.{Unasked}
use Rattle.worker.specs.Session.{Breaks, Standing, Turned, asking, having_heard}
use Rattle.worker.specs.declared.error.RequestError.{RequestError}
use Rattle.worker.specs.declared.error.RequestError.TheVariants.{NotCommitted, TooLong, Memory}
use Rattle.worker.specs.declared.error.RunError.{RunError}
use Rattle.worker.specs.declared.error.RunError.TheVariants as causes
use Rattle.worker.specs.declared.error.WorkerError.{WorkerError}
use Rattle.worker.specs.declared.error.WorkerError.TheVariants as faults
use Rattle.worker.specs.declared.state.Asked.{Asked}
use Rattle.worker.specs.declared.state.GroupState.{GroupState}
use Rattle.worker.specs.declared.state.Settings.{Settings}
use Rattle.worker.specs.declared.worker.Progress.{Progress}
use Rattle.redis_wire.specs.Reply as wire
use Rattle.worker_table.specs.Acknowledged.{AcknowledgedIsARow, AreSettled, IsThere, Reaches, acknowledges, asked_before, begins, turns, fails, crashes}
use Rattle.worker_table.specs.Kept.{Kept, committed_with, kept_of, kept_too, key_in, row_in, rows_in}
use Rattle.model_workers.specs.Loops.Shown.{with_doings}
use Rattle.worker_table.specs.Lived.{LivesSo}
use Rattle.worker_table.proofs.LivedLemmas.{commit_of, lived}

-- ---- what is committed, in a round

verdict_keeps : (k : Kept) (e : List ℕ × Pairs) (v : Verdict) → (kept_too k e v).committed ≡ k.committed
verdict_keeps k e done = refl
verdict_keeps k e left_pending = refl
verdict_keeps k e stop = refl

all_keep : (k : Kept) (ts : List ((List ℕ × Pairs) × Verdict)) → (with_all kept_too k ts).committed ≡ k.committed
all_keep k [] = refl
all_keep k (t ∷ ts) = all_keep (kept_too k t.0 t.1) ts ∙ verdict_keeps k t.0 t.1

heard_keeps : (w : Standing Kept) (g : GroupState) (o : Option Heard) (vs : List Verdict)
    → (having_heard kept_too w g o vs).history.committed ≡ w.history.committed
heard_keeps w g None vs = refl
heard_keeps w g (Some (told answer)) vs = all_keep w.history (told_in (entries_in answer) vs)
heard_keeps w g (Some no_group) vs = refl
heard_keeps w g (Some group_made) vs = refl

module _ (settings : Settings) where
  -- the rows that are committed once its request is made
  abbrev committed_then : Standing Kept → Option (List Row)
  committed_then w = (asking committed_with settings w).history.committed

  turn_keeps : (old new : Link) (w x : Standing Kept) (q : Asked) (p : Progress)
      → Turned kept_too committed_with settings old new w x q p → x.history.committed ≡ committed_then w
  turn_keeps old new w x q p t =
      ap (λ (s : Standing Kept). s.history.committed) t.stands
      ∙ heard_keeps (asking committed_with settings w) _ _ t.turn.verdicts

  failed_keeps : (q : Asked) (a : wire.Answer) (m n : Machine) (r s : Kept) (e : WorkerError)
      → Failed kept_too settings q a m n r s e → s.committed ≡ r.committed
  failed_keeps q a m n r s faults.NotAsked h = ap (λ (k : Kept). k.committed) h.2
  failed_keeps q a m n r s (faults.Server e) h = ap (λ (k : Kept). k.committed) h.5
  failed_keeps q a m n r s (faults.GroupIsGone e) h = ap (λ (k : Kept). k.committed) h.4
  failed_keeps q a m n r s faults.NotAnAnswer h = ap (λ (k : Kept). k.committed) h.3
  failed_keeps q a m n r s (faults.Parsing e) h = ap (λ (k : Kept). k.committed) h.3
  failed_keeps q a m n r s faults.OtherStream h = ap (λ (k : Kept). k.committed) h.3
  failed_keeps q a m n r s (faults.NilFields id) h = ap (λ (k : Kept). k.committed) h.3
  failed_keeps q a m n r s faults.Memory h = elim h.2 [
    | inl p ↦ ap (λ (k : Kept). k.committed) p.1
    | inr c ↦ ap (λ (k : Kept). k.committed) c.took.history ∙ all_keep r (told_in (entries_in c.answer) c.took.verdicts)
  ]

  -- the rows that are committed after a failed round: those before it, or those once its request was made
  unasked_keeps : (w : Standing Kept) (n : Machine) (s : Kept) (e : RequestError)
      → Unasked committed_with w.machine n w.history s e
      → (s.committed ≡ w.history.committed) ⊎ (s.committed ≡ committed_then w)
  unasked_keeps w n s NotCommitted h = inl (ap (λ (k : Kept). k.committed) h.2)
  unasked_keeps w n s TooLong h = inr (ap (λ (k : Kept). k.committed) h.1)
  unasked_keeps w n s Memory h = inr (ap (λ (k : Kept). k.committed) h.1)

  -- these rows with more
  abbrev HasMore : List Row → Option (List Row) → Type 0
  HasMore rows known = (more : List Row) × (known ≡ Some (with_rows rows more))

  asked_more : (w : Standing Kept) (rows : List Row) → w.history.committed ≡ Some rows → HasMore rows (committed_then w)
  asked_more w rows is = by (commits w.machine)
    where
      by : (b : Bool) → HasMore rows (if b then committed_with w.history else w.history).committed
      by true = (w.history.loose, ap (with_known w.history.loose) is)
      by false = ([], is)

-- ---- what is there

still_some : (k : Key) (rows more : List Row) → IsSome (find k rows) → IsSome (find k (with_rows rows more))
still_some k rows more = by (find k rows) refl
  where
    by : (o : Option (List Cell)) → find k rows ≡ o → IsSome o → IsSome (find k (with_rows rows more))
    by None e h = absurd (true≢false (sym h))
    by (Some text) e h = subst IsSome (sym (law.stays rows more k text e)) refl

front_some : (k : Key) (rows left : List Row) → BeginsWith rows left → IsSome (find k rows) → IsSome (find k left)
front_some k rows left starts = by (find k rows) refl
  where
    by : (o : Option (List Cell)) → find k rows ≡ o → IsSome o → IsSome (find k left)
    by None e h = absurd (true≢false (sym h))
    by (Some text) e h = subst IsSome
        (sym (ap (find k) starts.1 ∙ found_front rows starts.0 k text e)) refl

among_there : (columns : List Column) (rows : List Row) (es : List (Entry Pairs)) (e : Entry Pairs) → Among e es
    → IsSome (find (row_in columns e).0 (with_rows rows (rows_in columns es)))
among_there columns rows [] e among = absurd among
among_there columns rows (d ∷ es) e (inl is) =
    subst (λ (x : Entry Pairs). IsSome (find (row_in columns x).0 (with_rows rows (rows_in columns (d ∷ es))))) is
    (law.there rows [] (row_in columns d) (rows_in columns es))
among_there columns rows (d ∷ es) e (inr later) = among_there columns (with_row rows (row_in columns d)) es e later

among_both : (a b : List Id) (id : Id) → Among id (a ++ b) → Among id a ⊎ Among id b
among_both [] b id among = inr among
among_both (x ∷ a) b id (inl is) = inl (inl is)
among_both (x ∷ a) b id (inr later) = ⊎_elim (λ first. inl (inr first)) inr (among_both a b id later)

pub some_is : (a b : List Row) → Some a ≡ Some b → a ≡ b
some_is a b e = ap (λ (o : Option (List Row)). elim o [ None ↦ a | Some rows ↦ rows ]) e

module _ (settings : Settings) (columns : List Column) (gone : List Id) where
  -- each id that a worker acknowledges is there once its request is made
  asked_there : (first : List Row) (w : Standing Kept) (deleted : List Id) → LivesSo settings (columns, Some first) w deleted
      → ((id : Id) → Among id deleted → Among id gone) → (rows : List Row) → committed_then settings w ≡ Some rows
      → (id : Id) → Among id (acknowledges settings w) → IsThere rows id ⊎ Among id gone
  asked_there first w deleted l says rows is id among =
      let d = history_at_request committed_too w.machine l.doings in
      let kept : history_at_request committed_with w.machine w.history ≡ kept_of (columns, Some first) d =
      ap (history_at_request committed_with w.machine) l.kept ∙ commit_of settings (columns, Some first) w.machine l.doings in
      let all : with_rows first (rows_in columns d.committed) ≡ rows =
      some_is (with_rows first (rows_in columns d.committed)) rows (sym (ap (λ (k : Kept). k.committed) kept) ∙ is) in
      ⊎_elim (λ a. inl (subst (λ (rs : List Row). IsThere rs id) all (among_there columns first d.committed (id, a.0) a.1)))
      (λ out. inr (says id out)) (only_committed settings (with_doings w l.doings) deleted l.lives id among)

  -- the worker is in such a round of its life, and the ids that were reported to it are gone
  record IsLived (first : List Row) (w : Standing Kept) (deleted : List Id) : Type 0 where
    lives : LivesSo settings (columns, Some first) w deleted
    says : (id : Id) → Among id deleted → Among id gone

  lived_so : (first : List Row) (w : Standing Kept) (deleted acknowledged : List Id)
      → Reaches settings columns gone first w deleted acknowledged → IsLived first w deleted
  lived_so first w deleted acknowledged (begins rows apart) =
      record { lives = lived.begins settings (columns, Some rows); says = λ id none. absurd none }
  lived_so first w deleted acknowledged (turns rows v x before more acks old new q p r t l says) =
      record { lives = l; says = says }
  lived_so first w deleted acknowledged (fails rows v x before more acks old new e r f l says) =
      record { lives = l; says = says }
  lived_so first w deleted acknowledged (crashes rows v before acks all left r is starts apart) =
      record { lives = lived.begins settings (columns, Some left); says = λ id none. absurd none }

  -- what was acknowledged before is there after more were put in
  later_there : (rows more : List Row) (acks : List Id) → ((id : Id) → Among id acks → IsThere rows id ⊎ Among id gone)
      → (id : Id) → Among id acks → IsThere (with_rows rows more) id ⊎ Among id gone
  later_there rows more acks there id among =
      ⊎_elim (λ s. inl (still_some (key_in id) rows more s)) inr (there id among)

  -- after a round in which its command may have gone out
  after_asking : (first : List Row) (w x : Standing Kept) (deleted acks : List Id) → IsLived first w deleted
      → AreSettled settings columns gone w acks → x.history.committed ≡ committed_then settings w
      → AreSettled settings columns gone x (acks ++ acknowledges settings w)
  after_asking first w x deleted acks l s is =
      let more = asked_more settings w s.rows s.committed in
      let rows = with_rows s.rows more.0 in
      record {
        rows = rows;
        committed = is ∙ more.1;
        apart = law.apart s.rows more.0 s.apart;
        there = λ id among. ⊎_elim (later_there s.rows more.0 acks s.there id)
            (asked_there first w deleted l.lives l.says rows more.1 id)
            (among_both acks (acknowledges settings w) id among);
      }

  no_more : (acks : List Id) (id : Id) → Among id (acks ++ []) → Among id acks
  no_more acks id among = ⊎_elim (λ a. a) (λ none. absurd none) (among_both acks [] id among)

  -- after a round in which nothing went out
  without_asking : (w x : Standing Kept) (acks : List Id) → AreSettled settings columns gone w acks
      → (x.history.committed ≡ w.history.committed) ⊎ (x.history.committed ≡ committed_then settings w)
      → AreSettled settings columns gone x (acks ++ [])
  without_asking w x acks s (inl same) = record {
    rows = s.rows;
    committed = same ∙ s.committed;
    apart = s.apart;
    there = λ id among. s.there id (no_more acks id among);
  }
  without_asking w x acks s (inr is) =
      let more = asked_more settings w s.rows s.committed in
      record {
        rows = with_rows s.rows more.0;
        committed = is ∙ more.1;
        apart = law.apart s.rows more.0 s.apart;
        there = λ id among. later_there s.rows more.0 acks s.there id (no_more acks id among);
      }

  after_breaking : (first : List Row) (w y : Standing Kept) (deleted acks : List Id) (old new : Link) (e : RunError)
      → IsLived first w deleted → AreSettled settings columns gone w acks
      → Breaks kept_too committed_with settings old new w y e
      → AreSettled settings columns gone y (acks ++ asked_before e (acknowledges settings w))
  after_breaking first w y deleted acks old new (causes.Request e) l s h =
      without_asking w y acks s (unasked_keeps settings w y.machine y.history e h.1)
  after_breaking first w y deleted acks old new (causes.Send e) l s h =
      after_asking first w y deleted acks l s (ap (λ (v : Standing Kept). v.history.committed) h.0)
  after_breaking first w y deleted acks old new (causes.Receive named e) l s h =
      after_asking first w y deleted acks l s (ap (λ (v : Standing Kept). v.history.committed) h.0)
  after_breaking first w y deleted acks old new (causes.Answer e) l s h =
      after_asking first w y deleted acks l s
      (failed_keeps settings _ h.0 (at_request w.machine) y.machine (asking committed_with settings w).history y.history e.error h.2)

  -- seen after the failure
  settled_as : (x y : Standing Kept) (acks : List Id) → x.history ≡ y.history → AreSettled settings columns gone y acks
      → AreSettled settings columns gone x acks
  settled_as x y acks same s = record {
    rows = s.rows;
    committed = ap (λ (k : Kept). k.committed) same ∙ s.committed;
    apart = s.apart;
    there = s.there;
  }

  settled : (first : List Row) (w : Standing Kept) (deleted acknowledged : List Id)
      → Reaches settings columns gone first w deleted acknowledged → AreSettled settings columns gone w acknowledged
  settled first w deleted acknowledged (begins rows apart) =
      record { rows = rows; committed = refl; apart = apart; there = λ id none. absurd none }
  settled first w deleted acknowledged (turns rows v x before more acks old new q p r t l says) =
      after_asking rows v x before acks (lived_so rows v before acks r) (settled rows v before acks r)
      (turn_keeps settings old new v x q p t)
  settled first w deleted acknowledged (fails rows v x before more acks old new e r f l says) =
      settled_as x f.0 (acks ++ asked_before e (acknowledges settings v)) (ap (λ (s : Standing Kept). s.history) f.2)
      (after_breaking rows v f.0 before acks old new e (lived_so rows v before acks r) (settled rows v before acks r) f.1)
  settled first w deleted acknowledged (crashes rows v before acks all left r is starts apart) =
      let s = settled rows v before acks r in
      let same : s.rows ≡ all = some_is s.rows all (sym s.committed ∙ is) in
      record {
        rows = left;
        committed = refl;
        apart = apart;
        there = λ id among. ⊎_elim
            (λ there. inl (front_some (key_in id) all left starts (subst (λ (rs : List Row). IsThere rs id) same there)))
            inr (s.there id among);
      }

pub law_holds : AcknowledgedIsARow
law_holds settings columns gone first w deleted acknowledged r = settled settings columns gone first w deleted acknowledged r
