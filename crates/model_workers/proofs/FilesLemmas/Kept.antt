-- What is committed is in a file or has a dead letter, at any moment.
use Rattle.std.proofs.Common.{◌≡◌, ◌⊎◌, inl, inr, refl, sym, ap, subst, ◌∙◌, ℕ, Bool, true, false, not, List, [], ◌∷◌, ◌++◌}
use Rattle.std.proofs.Common.{filter, append_assoc, append-nil}
use Rattle.worker_journal.specs.EntryLine.{Entry}
use Rattle.worker_journal.specs.Lines.{AreLines, StartsWith}
use Rattle.model_server.specs.Group.Worker.{Id}
use Rattle.model_server.specs.Group.Group.{Name}
use Rattle.model_server.specs.Group.World.{World, log_of, empty_world}
use Rattle.model_server.specs.Group.World as group
use Rattle.model_server.specs.Group.Law as group_law
use Rattle.model_server.specs.Group.Law.{Among}
use Rattle.model_server.proofs.GroupLemmas.Among.{among_left, among_right, among_split, among_filter, among_filtered}
use Rattle.model_server.proofs.GroupLemmas.Among.{filtered_passes}
use Rattle.model_server.proofs.GroupLemmas.Lost as lost
use Rattle.model_workers.specs.Files.Files.{Form, Fields, Files, Event, Goes, Commits, Reopens, first_files, batch, commits}
use Rattle.model_workers.specs.Files.Files.{is_in, repaired, reopens, happens, run, whole_lines}
use Rattle.model_workers.specs.Files.Law.{after, IsLineIn, IsInAFile, HasLetter, IsKept, EachEntryIsKept, IsSettled}
use Rattle.model_workers.specs.Files.Law.{AcknowledgedIsInAFile, FilesGrow, LettersStay, LettersAreOfTheLog}
use Rattle.model_workers.proofs.FilesLemmas.Whole.{lines_join, whole_are_lines, whole_behind}
use Rattle.model_workers.proofs.FilesLemmas.LineLemmas.{line_stays, line_behind, are_lines, line_among}
use Rattle.model_workers.proofs.FilesLemmas.HasLine.{is_line}
use Rattle.model_workers.proofs.FilesLemmas.Step.{of_all, alone, by_kind, at_one, at_each, each_starts}

module _ (form : Form) where
  -- the line of the entry is committed to some file
  abbrev pub IsWritten : Files → Entry → Type 0
  IsWritten f e = (name : Name) × IsLineIn (form.line e) (f.file name)

  pub record Inv (f : Files) : Type 0 where
    pub are_lines : (name : Name) → AreLines (f.file name)
    pub placed : (e : Entry) → Among e f.stream.committed → IsWritten f e ⊎ HasLetter f e
    pub letters : (e : Entry) → HasLetter f e → Among e f.stream.committed

  -- ---- files and letters only grow

  pub record Grows (f g : Files) : Type 0 where
    pub file : (name : Name) → StartsWith (f.file name) (g.file name)
    pub letters : (e : Entry) → HasLetter f e → HasLetter g e

  as_it_was : (f : Files) (name : Name) → StartsWith (f.file name) (f.file name)
  as_it_was f name = ([], sym (append-nil (f.file name)))

  still_written : (f g : Files) → Grows f g → (e : Entry) → IsWritten f e → IsWritten g e
  still_written f g grows e h = (
    h.0,
    subst (λ xs. IsLineIn (form.line e) xs) (sym (grows.file h.0).1)
        (line_stays (form.line e) (f.file h.0) (grows.file h.0).0 h.1),
  )

  still_placed : (f g : Files) → Grows f g → (e : Entry) → IsWritten f e ⊎ HasLetter f e → IsWritten g e ⊎ HasLetter g e
  still_placed f g grows e (inl h) = inl (still_written f g grows e h)
  still_placed f g grows e (inr h) = inr (grows.letters e h)

  commit_grows : (f : Files) (c : Name) (g : Entry → Bool) → Grows f (commits form f c g)
  commit_grows f c g = record {
    file = each_starts f.file c (f.file c ++ batch form f c g) (batch form f c g, refl);
    letters = λ e h. among_left e f.letters (filter g (f.stream.loose c)) h;
  }

  reopen_grows : (f : Files) → Inv f → (c : Name) (every : ℕ) (torn : List ℕ) (ids : List Id)
      → Grows f (reopens form f c every torn ids)
  reopen_grows f i c every torn ids = record {
    file = each_starts f.file c (whole_lines (f.file c ++ torn))
        (whole_lines torn, whole_behind (f.file c) torn (i.are_lines c));
    letters = λ e h. h;
  }

  -- ---- each event keeps it

  -- what a handler did is written, or has a dead letter
  loose_placed : (f : Files) → Inv f → (c : Name) (g : Entry → Bool) (e : Entry) → Among e (f.stream.loose c)
      → IsWritten (commits form f c g) e ⊎ HasLetter (commits form f c g) e
  loose_placed f i c g e h =
      let es : List Entry = f.stream.loose c in
      let keeps : Entry → Bool = λ x. not (g x) in
      let case : (b : Bool) → g e ≡ b → IsWritten (commits form f c g) e ⊎ HasLetter (commits form f c g) e
      = λ b. elim b as (λ b. g e ≡ b → IsWritten (commits form f c g) e ⊎ HasLetter (commits form f c g) e) [
        | true ↦ λ q. inr (among_right e f.letters (filter g es) (among_filter g e es h q))
        | false ↦ λ q. inl (
          c,
          subst (λ xs. IsLineIn (form.line e) xs) (sym (at_one f.file c (f.file c ++ batch form f c g)))
              (line_behind (form.line e) (f.file c) (batch form f c g) (i.are_lines c)
              (line_among form e (filter keeps es) (among_filter keeps e es h (ap not q)))),
        )
      ] in
      case (g e) refl

  on_commit : (f : Files) → Inv f → (c : Name) (g : Entry → Bool) → Inv (commits form f c g)
  on_commit f i c g =
      let es : List Entry = f.stream.loose c in
      record {
        are_lines = at_each f.file c (f.file c ++ batch form f c g) (λ n xs. AreLines xs) i.are_lines
            (lines_join (f.file c) (batch form f c g) (i.are_lines c) (are_lines form (filter (λ x. not (g x)) es)));
        placed = λ e h. elim (among_split e f.stream.committed es h) [
          | inl a ↦ still_placed f (commits form f c g) (commit_grows f c g) e (i.placed e a)
          | inr a ↦ loose_placed f i c g e a
        ];
        letters = λ e h. elim (among_split e f.letters (filter g es) h) [
          | inl a ↦ among_left e f.stream.committed es (i.letters e a)
          | inr a ↦ among_right e f.stream.committed es (among_filtered g e es a)
        ];
      }

  -- what a crash kept is written
  kept_written : (f : Files) (c : Name) (every : ℕ) (torn : List ℕ) (ids : List Id) (e : Entry)
      → is_in form (repaired f c torn) e ≡ true → IsWritten (reopens form f c every torn ids) e
  kept_written f c every torn ids e h = (
    c,
    subst (λ xs. IsLineIn (form.line e) xs) (sym (at_one f.file c (repaired f c torn)))
        (is_line (form.line e) (repaired f c torn) (form.whole e) h),
  )

  on_reopen : (f : Files) → Inv f → (c : Name) (every : ℕ) (torn : List ℕ) (ids : List Id)
      → Inv (reopens form f c every torn ids)
  on_reopen f i c every torn ids =
      let is_there : Entry → Bool = is_in form (repaired f c torn) in
      record {
        are_lines = at_each f.file c (repaired f c torn) (λ n xs. AreLines xs) i.are_lines
            (whole_are_lines (f.file c ++ torn));
        placed = λ e h. elim (among_split e f.stream.committed (filter is_there (f.stream.loose c)) h) [
          | inl a ↦ still_placed f (reopens form f c every torn ids) (reopen_grows f i c every torn ids) e (i.placed e a)
          | inr a ↦ inl (kept_written f c every torn ids e (filtered_passes is_there e (f.stream.loose c) a))
        ];
        letters = λ e h. among_left e f.stream.committed (filter is_there (f.stream.loose c)) (i.letters e h);
      }

  on_other : (f : Files) → Inv f → (e : group.Event Fields) → (group.happens f.stream e).committed ≡ f.stream.committed
      → Inv (record f { stream = group.happens f.stream e })
  on_other f i e same = record {
    are_lines = i.are_lines;
    placed = λ x h. i.placed x (let P : List Entry → Type 0 = λ es. Among x es in subst P same h);
    letters = λ x h. let P : List Entry → Type 0 = λ es. Among x es in subst P (sym same) (i.letters x h);
  }

  pub each : (f : Files) → Inv f → (e : Event) → Inv (happens form f e)
  each f i (Goes e) = by_kind form f Inv (on_commit f i) (λ c every ids. on_reopen f i c every [] ids) (on_other f i) e
  each f i (Commits c g) = on_commit f i c g
  each f i (Reopens c every torn ids) = on_reopen f i c every torn ids

  each_grows : (f : Files) → Inv f → (e : Event) → Grows f (happens form f e)
  each_grows f i (Goes e) =
      by_kind form f (Grows f) (commit_grows f) (λ c every ids. reopen_grows f i c every [] ids)
      (λ x same. record { file = as_it_was f; letters = λ x h. h }) e
  each_grows f i (Commits c g) = commit_grows f c g
  each_grows f i (Reopens c every torn ids) = reopen_grows f i c every torn ids

  pub over : (es : List Event) (f : Files) → Inv f → Inv (run form es f)
  over [] f i = i
  over (e ∷ es) f i = over es (happens form f e) (each f i e)

  grow_on : (f g h : Files) → Grows f g → Grows g h → Grows f h
  grow_on f g h one two = record {
    file = λ name. (
      (one.file name).0 ++ (two.file name).0,
      (two.file name).1 ∙ ap (λ xs. xs ++ (two.file name).0) (one.file name).1
          ∙ append_assoc (f.file name) (one.file name).0 (two.file name).0,
    );
    letters = λ e k. two.letters e (one.letters e k);
  }

  pub grow_over : (es : List Event) (f : Files) → Inv f → Grows f (run form es f)
  grow_over [] f i = record { file = as_it_was f; letters = λ e h. h }
  grow_over (e ∷ es) f i =
      grow_on f (happens form f e) (run form es (happens form f e)) (each_grows f i e)
      (grow_over es (happens form f e) (each f i e))

  pub at_first : (before : Name → List ℕ) → Inv (first_files before)
  at_first before = record {
    are_lines = λ name. whole_are_lines (before name);
    placed = λ e h. absurd h;
    letters = λ e h. absurd h;
  }

  pub always : (before : Name → List ℕ) (es : List Event) → Inv (after form before es)
  always before es = over es (first_files before) (at_first before)

  -- ---- where an entry is

  -- whatever a crash leaves of the file has the line
  whatever_is_left : (f : Files) (e : Entry) → IsWritten f e → IsInAFile form f e
  whatever_is_left f e h = (
    h.0,
    λ bytes left. subst (λ xs. IsLineIn (form.line e) xs) (sym left.1)
        (line_stays (form.line e) (f.file h.0) left.0 h.1),
  )

  placed_at : (f : Files) → Inv f → (e : Entry) → Among e f.stream.committed → IsInAFile form f e ⊎ HasLetter f e
  placed_at f i e h = elim (i.placed e h) [ inl w ↦ inl (whatever_is_left f e w) | inr l ↦ inr l ]

  kept_at : (f : Files) → Inv f → (e : Entry) → group_law.IsKept f.stream e → IsKept form f e
  kept_at f i e (inl fresh) = inl fresh
  kept_at f i e (inr (inl pending)) = inr (inl pending)
  kept_at f i e (inr (inr (inl committed))) =
      inr (inr (elim (placed_at f i e committed) [ inl w ↦ inl w | inr l ↦ inr (inl l) ]))
  kept_at f i e (inr (inr (inr deleted))) = inr (inr (inr (inr deleted)))

  settled_at : (f : Files) → Inv f → (id : Id) → group_law.IsSettled f.stream id → IsSettled form f id
  settled_at f i id (inl h) = inl (h.0, placed_at f i (id, h.0) h.1)
  settled_at f i id (inr deleted) = inr deleted

-- the stream after these events is one of `model_server::group`
pub stream_after : (form : Form) (before : Name → List ℕ) (es : List Event)
    → (after form before es).stream ≡ group.run (of_all form (first_files before) es) empty_world
stream_after form before es = alone form es (first_files before)

pub each_entry_is_kept : EachEntryIsKept
each_entry_is_kept form before es more e h =
    let f : Files = after form before es in
    let g : Files = run form more f in
    let one : f.stream ≡ group.run (of_all form (first_files before) es) empty_world = stream_after form before es in
    let both : g.stream ≡ group.run (of_all form (after form before es) more) (group.run (of_all form (first_files before) es) empty_world) =
    alone form more f ∙ ap (λ w. group.run (of_all form (after form before es) more) w) one in
    let P : World Fields → Type 0 = λ w. Among e (log_of w) in
    let Q : World Fields → Type 0 = λ w. group_law.IsKept w e in
    kept_at form g (over form more f (always form before es)) e
    (subst Q (sym both) (lost.each_kept (of_all form (first_files before) es) (of_all form (after form before es) more) e (subst P one h)))

pub acknowledged_is_in_a_file : AcknowledgedIsInAFile
acknowledged_is_in_a_file form before es id h =
    let one = stream_after form before es in
    let P : World Fields → Type 0 = λ w. Among id w.acknowledged_ids in
    let Q : World Fields → Type 0 = λ w. group_law.IsSettled w id in
    settled_at form (after form before es) (always form before es) id
    (subst Q (sym one) (lost.acked_settled (of_all form (first_files before) es) id (subst P one h)))

pub files_grow : FilesGrow
files_grow form before es more name =
    (grow_over form more (after form before es) (always form before es)).file name

pub letters_stay : LettersStay
letters_stay form before es more e h =
    (grow_over form more (after form before es) (always form before es)).letters e h

pub group_inv : (form : Form) (before : Name → List ℕ) (es : List Event) → lost.Inv (after form before es).stream
group_inv form before es =
    let P : World Fields → Type 0 = λ w. lost.Inv w in
    subst P (sym (stream_after form before es)) (lost.always (of_all form (first_files before) es))

-- what was handled is of the log
pub handled_logged : (w : World Fields) → lost.Inv w → (e : Entry) → Among e w.handled → Among e (log_of w)
handled_logged w i e h = among_left e w.seen w.fresh (i.of_log e h)

pub letters_are_of_the_log : LettersAreOfTheLog
letters_are_of_the_log form before es e h =
    let f : Files = after form before es in
    let i = group_inv form before es in
    handled_logged f.stream i e (i.committed e ((always form before es).letters e h))
