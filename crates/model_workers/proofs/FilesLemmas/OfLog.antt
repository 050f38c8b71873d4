-- If each crash leaves only first bytes, a file has only lines of entries that are committed, so of the log.
use Rattle.std.proofs.Common.{◌≡◌, inl, inr, refl, sym, ap, subst, ◌∙◌, ℕ, Bool, false, not, List, [], ◌∷◌, ◌++◌, true}
use Rattle.std.proofs.Common.{filter, append_assoc, append-nil}
use Rattle.worker_journal.specs.EntryLine.{Entry}
use Rattle.worker_journal.specs.Lines.{StartsWith}
use Rattle.model_server.specs.Group.Worker.{Id}
use Rattle.model_server.specs.Group.Group.{Name}
use Rattle.model_server.specs.Group.World.{log_of}
use Rattle.model_server.specs.Group.World as group
use Rattle.model_server.specs.Group.Law.{Among}
use Rattle.model_server.proofs.GroupLemmas.Among.{among_left, among_right, among_split, among_filter, among_filtered}
use Rattle.model_workers.specs.Files.Files.{Form, Fields, Files, Event, Goes, Commits, Reopens, first_files, lines, batch, commits}
use Rattle.model_workers.specs.Files.Files.{is_in, repaired, reopens, happens, run, whole_lines}
use Rattle.model_workers.specs.Files.Law.{after, IsLineIn, LeavesFront, AllLeaveFronts, FilesAreOfTheLog}
use Rattle.model_workers.specs.Files.Law.{LinesAreOfTheLog}
use Rattle.model_workers.proofs.FilesLemmas.Whole.{whole_behind}
use Rattle.model_workers.proofs.FilesLemmas.LineLemmas.{first_of, line_behind, line_among, lines_append, entry_told}
use Rattle.model_workers.proofs.FilesLemmas.HasLine.{test_finds}
use Rattle.model_workers.proofs.FilesLemmas.Step.{by_kind, at_each}
use Rattle.model_workers.proofs.FilesLemmas.Kept as kept

module _ (form : Form) (before : Name → List ℕ) where
  -- the file is what it was at first, and lines of some of all entries
  pub record IsOf (all : List Entry) (name : Name) (bytes : List ℕ) : Type 0 where
    pub es : List Entry
    pub logged : (e : Entry) → Among e es → Among e all
    pub is : bytes ≡ whole_lines (before name) ++ lines form es

  abbrev pub AllOf : Files → Type 0
  AllOf f = (name : Name) → IsOf f.stream.committed name (f.file name)

  in_longer : (all more : List Entry) → ((e : Entry) → Among e all → Among e more) → (name : Name) (bytes : List ℕ)
      → IsOf all name bytes → IsOf more name bytes
  in_longer all more grows name bytes o = record { es = o.es; logged = λ e h. grows e (o.logged e h); is = o.is }

  -- with more lines
  with_more : (all : List Entry) (name : Name) (bytes : List ℕ) (more : List Entry) → IsOf all name bytes
      → ((e : Entry) → Among e more → Among e all) → IsOf all name (bytes ++ lines form more)
  with_more all name bytes more o logged = record {
    es = o.es ++ more;
    logged = λ e h. elim (among_split e o.es more h) [ inl a ↦ o.logged e a | inr a ↦ logged e a ];
    is = ap (λ xs. xs ++ lines form more) o.is ∙ append_assoc (whole_lines (before name)) (lines form o.es) (lines form more)
        ∙ ap (λ xs. whole_lines (before name) ++ xs) (sym (lines_append form o.es more));
  }

  module _ (f : Files) (i : kept.Inv form f) (all : AllOf f) where
    -- what was committed, and is of the file, and these more
    all_longer : (more : List Entry) (name : Name) → IsOf (f.stream.committed ++ more) name (f.file name)
    all_longer more name =
        in_longer f.stream.committed (f.stream.committed ++ more) (λ e h. among_left e f.stream.committed more h) name
        (f.file name) (all name)

    on_commit : (c : Name) (p : Entry → Bool) → AllOf (commits form f c p)
    on_commit c p =
        let did : List Entry = f.stream.loose c in
        at_each f.file c (f.file c ++ batch form f c p) (IsOf (f.stream.committed ++ did)) (all_longer did)
        (with_more (f.stream.committed ++ did) c (f.file c) (filter (λ x. not (p x)) did) (all_longer did c)
        (λ e h. among_right e f.stream.committed did (among_filtered (λ x. not (p x)) e did h)))

    on_reopen : (c : Name) (every : ℕ) (torn : List ℕ) (ids : List Id) (p : Entry → Bool)
        → StartsWith torn (batch form f c p) → AllOf (reopens form f c every torn ids)
    on_reopen c every torn ids p front =
        let did : List Entry = f.stream.loose c in
        let is_there : Entry → Bool = is_in form (repaired f c torn) in
        let first = first_of form (filter (λ x. not (p x)) did) torn front.0 front.1 in
        let is : repaired f c torn ≡ f.file c ++ lines form first.kept =
        whole_behind (f.file c) torn (i.are_lines c) ∙ ap (λ xs. f.file c ++ xs) first.whole in
        let there : (e : Entry) → Among e first.kept → is_there e ≡ true =
        λ e h. test_finds (form.line e) (repaired f c torn) (subst (λ xs. IsLineIn (form.line e) xs) (sym is)
        (line_behind (form.line e) (f.file c) (lines form first.kept) (i.are_lines c) (line_among form e first.kept h))) in
        let kept_too : (e : Entry) → Among e first.kept → Among e (f.stream.committed ++ filter is_there did) =
        λ e h. among_right e f.stream.committed (filter is_there did)
        (among_filter is_there e did (among_filtered (λ x. not (p x)) e did (first.within e h)) (there e h)) in
        at_each f.file c (repaired f c torn) (IsOf (f.stream.committed ++ filter is_there did))
        (all_longer (filter is_there did))
        (subst (λ xs. IsOf (f.stream.committed ++ filter is_there did) c xs) (sym is)
        (with_more (f.stream.committed ++ filter is_there did) c (f.file c) first.kept (all_longer (filter is_there did) c)
        kept_too))

    on_other : (e : group.Event Fields) → (group.happens f.stream e).committed ≡ f.stream.committed
        → AllOf (record f { stream = group.happens f.stream e })
    on_other e same name = subst (λ es. IsOf es name (f.file name)) (sym same) (all name)

    pub each : (e : Event) → LeavesFront form f e → AllOf (happens form f e)
    each (Goes e) h = by_kind form f AllOf on_commit
        (λ c every ids. on_reopen c every [] ids (λ x. false) (batch form f c (λ x. false), refl)) on_other e
    each (Commits c p) h = on_commit c p
    each (Reopens c every torn ids) h = on_reopen c every torn ids h.0 h.1

  over : (es : List Event) (f : Files) → kept.Inv form f → AllOf f → AllLeaveFronts form f es → AllOf (run form es f)
  over [] f i all h = all
  over (e ∷ es) f i all h = over es (happens form f e) (kept.each form f i e) (each f i all e h.0) h.1

  pub at_first : AllOf (first_files before)
  at_first name = record { es = []; logged = λ e h. absurd h; is = sym (append-nil (whole_lines (before name))) }

  pub always : (es : List Event) → AllLeaveFronts form (first_files before) es → AllOf (after form before es)
  always es h = over es (first_files before) (kept.at_first form before) at_first h

-- what is committed is of the log
committed_logged : (form : Form) (before : Name → List ℕ) (es : List Event) (e : Entry)
    → Among e (after form before es).stream.committed → Among e (log_of (after form before es).stream)
committed_logged form before es e h =
    let g = kept.group_inv form before es in
    kept.handled_logged (after form before es).stream g e (g.committed e h)

pub files_are_of_the_log : FilesAreOfTheLog
files_are_of_the_log form before es fronts name =
    let o = always form before es fronts name in
    (o.es, λ e h. committed_logged form before es e (o.logged e h), o.is)

pub lines_are_of_the_log : LinesAreOfTheLog
lines_are_of_the_log form before es fronts name new e h =
    let o = always form before es fronts name in
    let is : (after form before es).file name ≡ lines form o.es =
    o.is ∙ ap (λ xs. whole_lines xs ++ lines form o.es) new in
    committed_logged form before es e
    (o.logged e (entry_told form o.es e (subst (λ xs. IsLineIn (form.line e) xs) is h)))
