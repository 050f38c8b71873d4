-- A run of the program, by its outcome.
use Rattle.std.proofs.Common.{◌≡◌, ◌⊎◌, ℕ, Bool, Err, IfOk, IfSome, IsSomeAnd, IsTrue, List, Ok, OnErr, OnOk, Option, Result, false, inl, inr, MatchResult, None, Some, ◌++◌, ◌∙◌, ap, append_assoc, drop, subst, sym, take}
use Rattle.std.proofs.lemmas.List.{take-append-drop}
use Rattle.worker_journal.specs.Holds.{committed_in}
use Rattle.worker_journal.specs.Lines.{IsRepaired, StartsWith}
use Rattle.model_workers.specs.Loops.Loop.{Drains, Loops, Stops}
use Rattle.redis_connection.specs.Link.{Link}
use Rattle.redis_connection.specs.declared.wait.Wait.{Wait}
use Rattle.worker.specs.Session.{Standing}
use Rattle.worker.specs.declared.dead_letters.search.DeadLetterSearch.{DeadLetterSearch}
use Rattle.worker.specs.declared.state.Asked.{Asked}
use Rattle.worker.specs.declared.state.Settings.{Settings}
use Rattle.stream_drain.specs.Lived.{Leads}
use Rattle.stream_drain.specs.Known.{Known}
use Rattle.stream_drain.specs.Options.{AreOptionsOf}
use Rattle.stream_drain.specs.Program.{BeginsFile, EndsAsSaid, EndsBy, EndsSo, Goes, GoesToTheEnd, IsRun, RunsAsSaid, RunsBy, SearchesAfter, Starts, StartsIn, settings_with}
use Rattle.command_lines.specs.Words.{Text}
use Rattle.stream_drain.specs.Resumed.{KnowsItsFile}
use Rattle.stream_drain.specs.declared.options.Options.{Options}
use Rattle.stream_drain.specs.Turn.{EachIsConfirmed}
use Rattle.stream_drain.specs.Written.{Written}
use Rattle.stream_drain.proofs.FiledLemmas.{with_loops, with_stops}

-- a search that is due, if any, and then rounds
pub searched_first : (settings : Settings) (dead : Option DeadLetterSearch) (asked : Asked) (l m n : Link)
    (w x : Standing Written) → IfSome dead (λ d. d.waits ≡ false → SearchesAfter d asked l m)
    → Leads (Loops settings) m n w x
    → IfSome dead (λ d. d.waits ≡ false → (k : Link) × SearchesAfter d asked l k × Leads (Loops settings) k n w x)
searched_first settings None asked l m n w x searched leads = searched
searched_first settings (Some d) asked l m n w x searched leads = λ waits. (m, searched waits, leads)

module _ {A E : Type 0} (r : Result A E) (settings : Settings) (wait : Option Wait) (old new : Link)
    (w x : Standing Written) where
  went_so : Leads (Drains settings) old new w x → Goes settings Drains w old new
  went_so went = record { last = x; went = went }

  pub ends_so : OnOk r (Leads (Loops settings) old new w x)
      → OnOk r (IfSome wait (λ one. EachIsConfirmed settings one old new w x))
      → OnOk r (GoesToTheEnd settings wait w old new)
  ends_so = elim r as (λ r. OnOk r (Leads (Loops settings) old new w x)
      → OnOk r (IfSome wait (λ one. EachIsConfirmed settings one old new w x))
      → OnOk r (GoesToTheEnd settings wait w old new)) [
        | Ok a ↦ λ went sure. record { last = x; went = went; confirmed = sure }
        | Err e ↦ λ went sure. tt
      ]

  pub stops_so : OnErr r (Leads (Stops settings) old new w x) → OnErr r (Goes settings Drains w old new)
  stops_so = elim r as (λ r. OnErr r (Leads (Stops settings) old new w x)
      → OnErr r (Goes settings Drains w old new))
      [ Ok a ↦ λ stops. tt | Err e ↦ λ stops. went_so (with_stops settings old new w x stops) ]

  -- however it ended, the rounds went so
  pub either_way : OnOk r (Leads (Loops settings) old new w x) → OnErr r (Leads (Stops settings) old new w x)
      → Goes settings Drains w old new
  either_way = elim r as (λ r. OnOk r (Leads (Loops settings) old new w x) → OnErr r (Leads (Stops settings) old new w x)
      → Goes settings Drains w old new) [
        | Ok a ↦ λ loops stops. went_so (with_loops settings old new w x loops)
        | Err e ↦ λ loops stops. went_so (with_stops settings old new w x stops)
      ]

-- a run, from where its worker started; the worker's settings `s` and the run's wait `v` are those of the options
module _ {A E : Type 0} (r : Result A E) (s settings : Settings) (lines : Written) (first : Standing Written)
    (old new : Link) (same : s ≡ settings) (starts : Starts settings lines first) where
  pub ends_over : (v wait : Option Wait) → v ≡ wait → OnOk r (GoesToTheEnd s v first old new)
      → OnOk r (EndsSo settings wait lines old new)
  ends_over v wait is = elim r as (λ r. OnOk r (GoesToTheEnd s v first old new)
      → OnOk r (EndsSo settings wait lines old new)) [
        | Ok a ↦ λ goes. record {
          first = first;
          starts = starts;
          goes = subst (λ (v : Option Wait). GoesToTheEnd settings v first old new) is
              (subst (λ (t : Settings). GoesToTheEnd t v first old new) same goes);
        }
        | Err e ↦ λ goes. tt
      ]

  pub runs_over : OnErr r (Goes s Drains first old new)
      → OnErr r ((new ≡ old) ⊎ IsRun settings Drains lines old new)
  runs_over = elim r as (λ r. OnErr r (Goes s Drains first old new)
      → OnErr r ((new ≡ old) ⊎ IsRun settings Drains lines old new)) [
        | Ok a ↦ λ goes. tt
        | Err e ↦ λ goes. inr (record {
          first = first;
          starts = starts;
          goes = subst (λ (t : Settings). Goes t Drains first old new) same goes;
        })
      ]

-- a file that was cut after its last complete line begins as it did
pub begins_file : (file new : Option Text) (len : ℕ) → IsRepaired file new → BeginsFile file (committed_in new len)
begins_file None new len repaired = tt
begins_file (Some bytes) new len repaired =
    let (lines, torn, parts, is) = repaired in
    subst (λ (n : Option Text). IsSomeAnd (committed_in n len) (λ front. StartsWith front bytes)) (sym is) (
      drop len lines ++ torn,
      parts.split ∙ (ap (λ (xs : Text). xs ++ torn) (sym (take-append-drop len lines))
          ∙ append_assoc (take len lines) (drop len lines) torn),
    )

pub opened_so : {L E F : Type 0} (seen : L → Option Text) (len : L → ℕ) (file : Option Text) (opened : Result L E)
    (result : Result L F) (P : F → Type 0) → MatchResult result (λ x. opened ≡ Ok x) P
    → IfOk opened (λ lines. IsRepaired file (seen lines))
    → IfOk result (λ lines. BeginsFile file (committed_in (seen lines) (len lines)))
opened_so {L = L} {E = E} seen len file opened (Ok x) P is repaired =
    begins_file file (seen x) (len x)
    (subst (λ (r : Result L E). IfOk r (λ lines. IsRepaired file (seen lines))) is repaired)
opened_so seen len file opened (Err e) P is repaired = tt

-- lines that were opened know the ids of their file
pub opened_knows : {L E F : Type 0} (seen : L → Option Text) (len : L → ℕ) (form : L → Bool) (known : L → Known)
    (N : L → Type 0) (file : Option Text) (json : Bool) (opened : Result L E) (result : Result L F) (P : F → Type 0)
    → ((lines : L) → N lines → form lines ≡ json) → MatchResult result (λ x. opened ≡ Ok x) P → IfOk opened N
    → IfOk opened (λ lines. IfSome file (λ _. IfSome (committed_in (seen lines) (len lines))
    (λ bytes. KnowsItsFile json bytes (known lines))))
    → IfOk result (λ lines. IfSome file (λ _. IfSome (committed_in (seen lines) (len lines))
    (λ bytes. KnowsItsFile (form lines) bytes (known lines))))
opened_knows {L = L} {E = E} seen len form known N file json opened (Ok x) P formed is new knows =
    let same = formed x (subst (λ (r : Result L E). IfOk r N) is new) in
    subst (λ (j : Bool). IfSome file (λ _. IfSome (committed_in (seen x) (len x))
    (λ bytes. KnowsItsFile j bytes (known x)))) (sym same)
    (subst (λ (r : Result L E). IfOk r (λ lines. IfSome file (λ _. IfSome (committed_in (seen lines) (len lines))
    (λ bytes. KnowsItsFile json bytes (known lines))))) is knows)
opened_knows seen len form known N file json opened (Err e) P formed is new knows = tt

-- a run by options, from where its lines began
module _ {A E : Type 0} (r : Result A E) (content : Text → Option Text) (o : Options) (old new : Link) (w : Written)
    (starts : StartsIn content o w) where
  pub ends_by : IfOk r (λ a. IsTrue o.until_empty) → OnOk r (EndsSo (settings_with o.dead o.settings) o.wait w old new)
      → OnOk r (EndsBy content o old new)
  ends_by = elim r as (λ r. IfOk r (λ a. IsTrue o.until_empty)
      → OnOk r (EndsSo (settings_with o.dead o.settings) o.wait w old new) → OnOk r (EndsBy content o old new)) [
        | Ok a ↦ λ asked ends. record { lines = w; starts = starts; asked = asked; ends = ends }
        | Err e ↦ λ asked ends. tt
      ]

  pub runs_by : OnErr r ((new ≡ old) ⊎ IsRun (settings_with o.dead o.settings) Drains w old new)
      → OnErr r ((new ≡ old) ⊎ RunsBy content o old new)
  runs_by = elim r as (λ r. OnErr r ((new ≡ old) ⊎ IsRun (settings_with o.dead o.settings) Drains w old new)
      → OnErr r ((new ≡ old) ⊎ RunsBy content o old new)) [
        | Ok a ↦ λ ran. tt
        | Err e ↦ elim [ inl same ↦ inl same | inr ran ↦ inr (record { lines = w; starts = starts; ran = ran }) ]
      ]

-- the options are those of the words
pub as_said : {A E : Type 0} (r : Result A E) (content : Text → Option Text) (words : List Text) (o : Options)
    (old new : Link) → AreOptionsOf words o → OnOk r (EndsBy content o old new) → OnOk r (EndsAsSaid content words old new)
as_said (Ok a) content words o old new said ends = record { options = o; said = said; ends = ends }
as_said (Err e) content words o old new said ends = tt

pub runs_as_said : {A E : Type 0} (r : Result A E) (content : Text → Option Text) (words : List Text) (o : Options)
    (old new : Link) → AreOptionsOf words o → OnErr r ((new ≡ old) ⊎ RunsBy content o old new)
    → OnErr r ((new ≡ old) ⊎ RunsAsSaid content words old new)
runs_as_said (Ok a) content words o old new said runs = tt
runs_as_said (Err e) content words o old new said runs =
    elim runs [ inl same ↦ inl same | inr runs ↦ inr (record { options = o; said = said; runs = runs }) ]
