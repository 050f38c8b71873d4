-- Moves that meet the premises: a worker gets the reply that the server sent, with an entry in it. It commits that,
-- crashes, and reads its line back.
use Rattle.std.proofs.Common.{◌≡◌, inl, inr, refl, sym, ap, subst, ◌∙◌, ℕ, true, List, [], ◌∷◌, ◌++◌, codes, string_bytes}
use Rattle.std.proofs.Common.{Option, Some}
use Rattle.std.specs.Fmt.{digits}
use Rattle.std.specs.Str.{chars, is_utf8}
use Rattle.std.specs.Char.{encode_utf8}
use Rattle.redis_resp.specs.Tree.{Tree, bulk, array, trees}
use Rattle.redis_wire.specs.Reply as wire
use Rattle.worker_journal.specs.EntryLine.{Entry}
use Rattle.worker_journal.specs.Lines.{AreLines}
use Rattle.model_server.specs.Group.Worker.{done, own_pending, entries_in}
use Rattle.model_server.specs.Group.Group.{Name}
use Rattle.model_server.specs.Group.World.{World, Append, Read, Reread, Ack_comes, empty_world}
use Rattle.model_server.specs.Group.World as group
use Rattle.model_server.specs.Rounds.Rounds.{all_done}
use Rattle.model_server.specs.Group.Law.{Among}
use Rattle.model_server.proofs.GroupLemmas.Among.{among_left}
use Rattle.stream_in_place.specs.SentReading.{sent_streams_reading}
use Rattle.model_workers.specs.Files.Files.{Fields, Form, lines, whole_lines}
use Rattle.model_workers.specs.Files.Law.{IsLineIn}
use Rattle.model_workers.proofs.FilesLemmas.LineLemmas.{line_stays, line_behind, are_lines, line_among}
use Rattle.model_workers.proofs.FilesLemmas.Whole.{lines_join, whole_are_lines, whole_behind}
use Rattle.worker.specs.Answers.{Heard, told, says, group_after, hears}
use Rattle.worker.specs.Gathered.{Doings, done_too}
use Rattle.worker.specs.Session.{Standing, having_heard}
use Rattle.worker.specs.declared.state.GroupState.{GroupState}
use Rattle.worker.specs.declared.state.Asked.TheVariants as asked
use Rattle.worker.specs.declared.state.Settings.{Settings}
use Rattle.model_workers.specs.System.System.{System, Move, Serves, Commits, Sends, Hears, first_system, with_worker}
use Rattle.model_workers.specs.System.System.{new_worker, still_coming, repaired, filed_then, moves, run}
use Rattle.model_workers.specs.System.Law.{IsReplyTo, AllHearTruly}
use Rattle.model_workers.specs.System.Rounds.{AreReadBack}
use Rattle.model_workers.specs.System.Drained.{page_for, HearsThePage}

abbrev ann : Name
ann = codes "ann"

abbrev fields : Fields
fields = (codes "a", codes "b") ∷ []

-- what the server sends: the stream `s` with the entry `1-0`
abbrev sent : Tree
sent = array (trees (array (trees (bulk (codes "s") ∷ array (trees (
    array (trees (bulk (codes "1-0") ∷ array (trees (bulk (codes "a") ∷ bulk (codes "b") ∷ [])) ∷ [])) ∷ [])) ∷ [])) ∷ []))

abbrev entry_told : Option Heard
entry_told = Some (told (own_pending ((codes "1-0", Some fields) ∷ [])))

it_says : says (codes "s") asked.First sent ≡ entry_told
unfolding sent_streams_reading chars is_utf8 encode_utf8
it_says = refl

module _ (settings : Settings) (key : string_bytes settings.key ≡ codes "s") (form : Form) (before : Name → List ℕ) where
  it_hears : hears settings asked.First (wire.value sent) ≡ entry_told
  it_hears = ap (λ k. says k asked.First sent) key ∙ it_says

  -- an entry is added and read, and the reply is lost; then ann requests its pending entries, and the reply is sent
  abbrev moves_before : List Move
  moves_before =
      Serves (Append (1, 0) fields) ∷ Serves (Read ann 1) ∷ Sends ann settings ∷ Serves (Reread ann (λ id. true)) ∷ []

  abbrev then_it_hears : List Move
  then_it_hears = Hears ann settings 0 (wire.value sent) (done ∷ []) ∷ Commits ann ∷ Sends ann settings ∷ Serves (Ack_comes 0) ∷ []

  pub all_hear_truly : AllHearTruly form (first_system before) (moves_before ++ then_it_hears)
  unfolding digits
  all_hear_truly =
      let s : System = run form moves_before (first_system before) in
      let P : Option Heard → Type 0 = λ o. IsReplyTo s ann 0 o in
      (tt, (tt, (tt, (tt, (subst P (sym it_hears) refl, (tt, (tt, (tt, tt))))))))

  -- it gets this, and commits
  abbrev hears_and_commits : Option Heard → System
  hears_and_commits o =
      let s : System = run form moves_before (first_system before) in
      let w : Standing Doings = s.workers ann in
      let state : GroupState = group_after settings w.group w.asked (wire.value sent) in
      moves form (record (with_worker s ann (having_heard done_too w state o (done ∷ []))) {
        server = record s.server { replies = still_coming s.server.replies 0 o };
      }) (Commits ann)

  abbrev then_it_commits : System
  then_it_commits = run form (Hears ann settings 0 (wire.value sent) (done ∷ []) ∷ Commits ann ∷ [])
      (run form moves_before (first_system before))

  abbrev entry : Entry
  entry = (codes "1-0", fields)

  pub filed : then_it_commits.filed ≡ entry ∷ []
  filed = let P : Option Heard → Type 0 = λ o. (hears_and_commits o).filed ≡ entry ∷ [] in subst P (sym it_hears) refl

  pub file : then_it_commits.file ann ≡ whole_lines (before ann) ++ lines form (entry ∷ [])
  file =
      let P : Option Heard → Type 0 =
      λ o. (hears_and_commits o).file ann ≡ whole_lines (before ann) ++ lines form (entry ∷ []) in
      subst P (sym it_hears) refl

  has_it : (torn : List ℕ) → IsLineIn (form.line entry) (repaired then_it_commits ann torn)
  has_it torn =
      let first : List ℕ = whole_lines (before ann) in
      let mine : List ℕ = lines form (entry ∷ []) in
      let whole : AreLines (first ++ mine) =
      lines_join first mine (whole_are_lines (before ann)) (are_lines form (entry ∷ [])) in
      let is : repaired then_it_commits ann torn ≡ (first ++ mine) ++ whole_lines torn =
      ap (λ xs. whole_lines (xs ++ torn)) file ∙ whole_behind (first ++ mine) torn whole in
      subst (λ xs. IsLineIn (form.line entry) xs) (sym is)
      (line_stays (form.line entry) (first ++ mine) (whole_lines torn)
      (line_behind (form.line entry) first mine (whole_are_lines (before ann)) (line_among form entry (entry ∷ []) (inl refl))))

  -- whatever the crash leaves, its line is one that it may read back
  pub are_read_back : (torn : List ℕ) → AreReadBack form then_it_commits ann torn (entry ∷ [])
  are_read_back torn e (inr h) = absurd h
  are_read_back torn e (inl q) =
      let P : Entry → Type 0 = λ x. Among x (filed_then form then_it_commits ann torn)
      × IsLineIn (form.line x) (repaired then_it_commits ann torn) in
      subst P q (
        among_left entry then_it_commits.filed _ (subst (λ es. Among entry es) (sym filed) (inl refl)),
        has_it torn,
      )

  -- a page that was read before, and the worker that requests it first
  abbrev read_before : World Fields
  read_before = group.run (Append (1, 0) fields ∷ Read ann 1 ∷ []) empty_world

  pub hears_the_page : settings.count ≡ 1
      → HearsThePage settings ann read_before (new_worker 1 [] []) (record { answer = wire.value sent; verdicts = done ∷ [] })
  unfolding digits
  hears_the_page count = record {
    heard = it_hears ∙ ap (λ n. Some (told (page_for n ann read_before))) (sym count);
    all = ap (λ n. all_done (entries_in (page_for n ann read_before))) (sym count);
  }
