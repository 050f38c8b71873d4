-- A run of the program, by its outcome.
use Rattle.std.proofs.Common.{◌≡◌, ◌<◌, ◌≤◌, ◌⊎◌, [], ℕ, Err, IfOk, IsErr, IsTrue, List, Ok, OnErr, OnOk, Option, Result, ap, arith, false, inl, inr, refl, subst, true, ◌∙◌}
use Rattle.command_lines.specs.Words.{Text}
use Rattle.redis_connection.specs.Link.{Link}
use Rattle.model_server.specs.Group.Worker.{start}
use Rattle.model_workers.specs.Loops.Loop.{Drains, Loops, Stops}
use Rattle.worker.specs.Machine.{machine_of}
use Rattle.worker.specs.Session.{Standing, standing_of}
use Rattle.worker.specs.declared.state.Asked.TheVariants.{Nothing}
use Rattle.worker.specs.declared.state.GroupState.TheVariants.{Unknown}
use Rattle.worker.specs.declared.state.Settings.{Settings}
use Rattle.worker.specs.declared.worker.Worker.{Worker}
use Rattle.worker_table.specs.Forwarded.{forwarding_kept}
use Rattle.worker_table.specs.Kept.{Kept, kept_by}
use Rattle.worker_table.specs.Lived.{Leads}
use Rattle.worker_table.specs.RowTable.OfPost.{all_posted}
use Rattle.worker_table.specs.RowTable.Posts.{Stored, rows_known}
use Rattle.worker_table.specs.RowTable.Rows.{Row}
use Rattle.worker_table.specs.declared.row_table.cell.Column.{Column}
use Rattle.worker_table.specs.declared.row_table.post.PostedRow.{PostedRow}
use Rattle.worker_table.specs.declared.row_table.row.Row as memory
use Rattle.stream_sqlite.specs.Forwards.{Ends, Forwards}
use Rattle.stream_sqlite.specs.Options.{AreOptionsOf}
use Rattle.stream_sqlite.specs.Program.{EndsAsSaid, EndsBy, Files, IsRun, Rounds, RoundsAndEnd, RunsAsSaid, RunsBy, SendsAll, SendsSome, Starts, first_kept, kept_first, settings_with}
use Rattle.stream_sqlite.specs.declared.options.Options.{Options}

-- ---- the loop

with_loops : (settings : Settings) (old new : Link) (w x : Standing Kept) → Leads (Loops settings) old new w x
    → Leads (Drains settings) old new w x
with_loops settings old new w x a p d is =
    let l = a p d is in
    record { doings = l.doings; told = l.told; leads = inl l.leads; drawn = l.drawn }

with_stops : (settings : Settings) (old new : Link) (w x : Standing Kept) → Leads (Stops settings) old new w x
    → Leads (Drains settings) old new w x
with_stops settings old new w x a p d is =
    let l = a p d is in
    record { doings = l.doings; told = l.told; leads = inr l.leads; drawn = l.drawn }

-- a new worker's run, by its state and that at the end
module _ {A E : Type 0} (r : Result A E) (settings : Settings) (old new : Link) (worker : Worker) (kept : Kept)
    (x : Standing Kept) (same : worker.settings ≡ settings) (machine : machine_of worker ≡ start settings.every)
    (group : worker.group ≡ Unknown) (asked : worker.asked ≡ Nothing) where
  abbrev w : Standing Kept
  w = standing_of worker kept

  starts : Starts settings kept w
  starts = record { machine = machine; group = group; asked = asked; begins = refl }

  went_so : Leads (Drains worker.settings) old new w x → IsRun settings Drains kept old new
  went_so went = record {
    first = w;
    last = x;
    starts = starts;
    went = subst (λ (s : Settings). Leads (Drains s) old new w x) same went;
  }

  pub ends_so : OnOk r (Leads (Loops worker.settings) old new w x) → OnOk r (IsRun settings Loops kept old new)
  ends_so = elim r as (λ r. OnOk r (Leads (Loops worker.settings) old new w x)
      → OnOk r (IsRun settings Loops kept old new)) [
        | Ok a ↦ λ went. record {
          first = w;
          last = x;
          starts = starts;
          went = subst (λ (s : Settings). Leads (Loops s) old new w x) same went;
        }
        | Err e ↦ λ went. tt
      ]

  pub stops_so : OnErr r (Leads (Stops worker.settings) old new w x) → OnErr r (IsRun settings Drains kept old new)
  stops_so = elim r as (λ r. OnErr r (Leads (Stops worker.settings) old new w x)
      → OnErr r (IsRun settings Drains kept old new))
      [ Ok a ↦ λ stops. tt | Err e ↦ λ stops. went_so (with_stops worker.settings old new w x stops) ]

  -- however it ended, the rounds went so
  pub either_way : OnOk r (Leads (Loops worker.settings) old new w x)
      → OnErr r (Leads (Stops worker.settings) old new w x) → IsRun settings Drains kept old new
  either_way = elim r as (λ r. OnOk r (Leads (Loops worker.settings) old new w x)
      → OnErr r (Leads (Stops worker.settings) old new w x) → IsRun settings Drains kept old new) [
        | Ok a ↦ λ loops stops. went_so (with_loops worker.settings old new w x loops)
        | Err e ↦ λ loops stops. went_so (with_stops worker.settings old new w x stops)
      ]

pub run_drains : (settings : Settings) (kept : Kept) (old new : Link) → IsRun settings Loops kept old new
    → IsRun settings Drains kept old new
run_drains settings kept old new run = record {
  first = run.first;
  last = run.last;
  starts = run.starts;
  went = with_loops settings old new run.first run.last run.went;
}

-- ---- the loop that forwards entries

-- rounds are such rounds with an end, of which nothing more is known
forwards_ends : (settings : Settings) (old new : Link) (s t : Option Stored) (w x : Standing Kept)
    → Forwards settings old s w new t x → Ends settings old new s w x
forwards_ends settings old new s t w x went =
    record { between = new; known = t; stands = x; forwards = went; ends = inr refl }

-- the same of a worker that forwards entries
module _ {A E : Type 0} (r : Result A E) (settings : Settings) (old new : Link) (s t : Option Stored)
    (worker : Worker) (kept : Kept) (x : Standing Kept) (rows : rows_known s ≡ kept.committed)
    (same : worker.settings ≡ settings) (machine : machine_of worker ≡ start settings.every)
    (group : worker.group ≡ Unknown) (asked : worker.asked ≡ Nothing) where
  abbrev v : Standing Kept
  v = standing_of worker kept

  begun : Starts settings kept v
  begun = record { machine = machine; group = group; asked = asked; begins = refl }

  some_so : Ends worker.settings old new s v x → SendsSome settings kept old new
  some_so went = record {
    stored = s;
    first = v;
    last = x;
    rows = rows;
    starts = begun;
    went = subst (λ (y : Settings). Ends y old new s v x) same went;
  }

  pub all_sent : OnOk r (Forwards worker.settings old s v new t x) → OnOk r (SendsAll settings kept old new)
  all_sent = elim r as (λ r. OnOk r (Forwards worker.settings old s v new t x)
      → OnOk r (SendsAll settings kept old new)) [
        | Ok a ↦ λ went. record {
          stored = s;
          left = t;
          first = v;
          last = x;
          rows = rows;
          starts = begun;
          went = subst (λ (y : Settings). Forwards y old s v new t x) same went;
        }
        | Err e ↦ λ went. tt
      ]

  pub some_sent : OnErr r (Ends worker.settings old new s v x) → OnErr r (SendsSome settings kept old new)
  some_sent = elim r as (λ r. OnErr r (Ends worker.settings old new s v x) → OnErr r (SendsSome settings kept old new))
      [ Ok a ↦ λ went. tt | Err e ↦ λ went. some_so went ]

  -- however it ended, this was sent
  pub sent_either_way : OnOk r (Forwards worker.settings old s v new t x)
      → OnErr r (Ends worker.settings old new s v x) → SendsSome settings kept old new
  sent_either_way = elim r as (λ r. OnOk r (Forwards worker.settings old s v new t x)
      → OnErr r (Ends worker.settings old new s v x) → SendsSome settings kept old new) [
        | Ok a ↦ λ went ended. some_so (forwards_ends worker.settings old new s t v x went)
        | Err e ↦ λ went ended. some_so ended
      ]

pub all_are_some : (settings : Settings) (kept : Kept) (old new : Link) → SendsAll settings kept old new
    → SendsSome settings kept old new
all_are_some settings kept old new all = record {
  stored = all.stored;
  first = all.first;
  last = all.last;
  rows = all.rows;
  starts = all.starts;
  went = forwards_ends settings old new all.stored all.left all.first all.last all.went;
}

-- ---- what follows the loop

module _ {A E : Type 0} (ended result : Result A E) (P : Type 0) where
  -- it ended well if all of it did
  pub well_after : IfOk result (λ a. ended ≡ Ok a) → OnOk ended P → OnOk result P
  well_after = elim result as (λ r. IfOk r (λ a. ended ≡ Ok a) → OnOk ended P → OnOk r P)
      [ Ok a ↦ λ is p. subst (λ (r : Result A E). OnOk r P) is p | Err e ↦ λ is p. tt ]

  -- whether it ended well, and what follows did not
  pub failed_after : OnOk ended P → (Q : Type 0) → (P → Q) → OnErr ended Q → OnErr result Q
  failed_after = elim ended as (λ r. OnOk r P → (Q : Type 0) → (P → Q) → OnErr r Q → OnErr result Q)
      [ Ok a ↦ λ p Q f q. on_err result Q (f p) | Err e ↦ λ p Q f q. on_err result Q q ]
    where
      on_err : {B F : Type 0} (r : Result B F) (Q : Type 0) → Q → OnErr r Q
      on_err (Ok b) Q q = tt
      on_err (Err f) Q q = q

-- what a handler has first, of a table with these rows
pub first_rows : (columns wanted : List Column) (loose : List memory.Row) (known rows : Option (List Row))
    → columns ≡ wanted → loose ≡ [] → known ≡ rows → kept_by columns loose known ≡ first_kept wanted rows
first_rows columns wanted loose known rows cs none same = ap (λ (c : List Column). kept_by c loose known) cs
    ∙ (ap (λ (l : List memory.Row). kept_by wanted l known) none
    ∙ ap (λ (k : Option (List Row)). kept_by wanted [] k) same)

-- the same of a table with an outbox
pub first_forwarded : (columns wanted : List Column) (loose : List PostedRow) (known : Option Stored)
    (rows : Option (List Row)) → columns ≡ wanted → loose ≡ [] → rows_known known ≡ rows
    → forwarding_kept columns (all_posted loose) known ≡ first_kept wanted rows
first_forwarded columns wanted loose known rows cs none same =
    ap (λ (c : List Column). forwarding_kept c (all_posted loose) known) cs
    ∙ (ap (λ (l : List PostedRow). forwarding_kept wanted (all_posted l) known) none ∙ ap (first_kept wanted) same)

-- a run by options, over rows that are first there
module _ {A E : Type 0} (r : Result A E) (files : Files) (o : Options) (old new : Link) (kept : Kept)
    (same : kept ≡ kept_first files o) where
  pub ends_by : IfOk r (λ a. IsTrue o.until_empty)
      → OnOk r (Rounds o.forward (settings_with o.dead o.settings) kept old new) → OnOk r (EndsBy files o old new)
  ends_by = elim r as (λ r. IfOk r (λ a. IsTrue o.until_empty)
      → OnOk r (Rounds o.forward (settings_with o.dead o.settings) kept old new) → OnOk r (EndsBy files o old new)) [
        | Ok a ↦ λ asked went. record {
          asked = asked;
          ends = subst (λ (k : Kept). Rounds o.forward (settings_with o.dead o.settings) k old new) same went;
        }
        | Err e ↦ λ asked went. tt
      ]

  pub runs_by : OnErr r ((new ≡ old) ⊎ RoundsAndEnd o.forward (settings_with o.dead o.settings) kept old new)
      → OnErr r ((new ≡ old) ⊎ RunsBy files o old new)
  runs_by went = subst (λ (k : Kept). OnErr r ((new ≡ old)
      ⊎ RoundsAndEnd o.forward (settings_with o.dead o.settings) k old new)) same went

-- ---- the words

-- the options are those of the words
pub as_said : {A E : Type 0} (r : Result A E) (files : Files) (words : List Text) (o : Options) (old new : Link)
    → AreOptionsOf words o → OnOk r (EndsBy files o old new) → OnOk r (EndsAsSaid files words old new)
as_said (Ok a) files words o old new said ends = record { options = o; said = said; ends = ends }
as_said (Err e) files words o old new said ends = tt

pub runs_as_said : {A E : Type 0} (r : Result A E) (files : Files) (words : List Text) (o : Options) (old new : Link)
    → AreOptionsOf words o → OnErr r ((new ≡ old) ⊎ RunsBy files o old new)
    → OnErr r ((new ≡ old) ⊎ RunsAsSaid files words old new)
runs_as_said (Ok a) files words o old new said runs = tt
runs_as_said (Err e) files words o old new said runs =
    elim runs [ inl same ↦ inl same | inr runs ↦ inr (record { options = o; said = said; runs = runs }) ]

-- ---- the status

module _ {C F : Type 0} (status : C → ℕ) where
  -- 0 comes only after the loop
  pub at_zero : {A E : Type 0} (P : Type 0) (ended : Result A E) (result : Result C F) → OnOk ended P
      → OnErr ended (IsErr result) → IfOk result (λ code. status code ≡ 0 → P)
  at_zero P (Ok a) (Ok code) p none = λ is. p
  at_zero P (Ok a) (Err f) p none = tt
  at_zero P (Err e) (Ok code) p none = let h : false ≡ true = none in cc
  at_zero P (Err e) (Err f) p none = tt

  -- no other status comes then
  pub no_other : {A E : Type 0} (P : Type 0) (ended : Result A E) (result : Result C F)
      → OnOk ended (IfOk result (λ code. status code ≡ 0)) → OnErr ended (IsErr result)
      → IfOk result (λ code. 0 < status code → P)
  no_other P (Ok a) (Ok code) zero none = λ is. absurd (omega arith)
  no_other P (Ok a) (Err f) zero none = tt
  no_other P (Err e) (Ok code) zero none = let h : false ≡ true = none in cc
  no_other P (Err e) (Err f) zero none = tt

  pub two_at_most : {A E : Type 0} (ended : Result A E) (result : Result C F)
      → OnOk ended (IfOk result (λ code. status code ≡ 0)) → OnErr ended (IsErr result)
      → IfOk result (λ code. status code ≤ 2)
  two_at_most (Ok a) (Ok code) zero none = omega arith
  two_at_most (Ok a) (Err f) zero none = tt
  two_at_most (Err e) (Ok code) zero none = let h : false ≡ true = none in cc
  two_at_most (Err e) (Err f) zero none = tt
