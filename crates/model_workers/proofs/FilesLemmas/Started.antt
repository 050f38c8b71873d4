-- What a worker that is started again begins to acknowledge.
use Rattle.std.proofs.Common.{◌≡◌, inl, inr, refl, sym, ap, subst, ◌∙◌, ℕ, Bool, true, false, List, [], ◌∷◌, ◌++◌}
use Rattle.std.proofs.Common.{filter, if◌then◌else◌}
use Rattle.std.proofs.lemmas.Slice.Eq.{bytes_eq-Decides}
use Rattle.std.specs.Str.{bytes_eq}
use Rattle.worker_journal.specs.EntryLine.{Entry}
use Rattle.model_server.specs.Group.Worker.{Id, Machine, begins_with}
use Rattle.model_server.specs.Group.Group.{Name, listed, ids_of}
use Rattle.model_server.specs.Group.World.{committed_after, among_ids}
use Rattle.model_server.specs.Group.Law.{Among}
use Rattle.model_server.proofs.GroupLemmas.Among.{among_split, among_map, among_of_map, among_filter, among_filtered, filtered_passes}
use Rattle.model_server.proofs.GroupLemmas.Among.{listed_among}
use Rattle.model_workers.specs.Files.Files.{Form, Fields, Files, Reopens, lines, is_in, repaired, read_back, reopens}
use Rattle.model_workers.specs.Files.Files.{whole_lines}
use Rattle.model_workers.specs.Files.Law.{after, IsLineIn, BeginsWithItsLines, BeginsWithAllItReads}
use Rattle.model_workers.proofs.FilesLemmas.HasLine.{is_line, test_finds}
use Rattle.model_workers.proofs.FilesLemmas.LineLemmas.{entry_told}
use Rattle.model_workers.proofs.FilesLemmas.Step.{at_one}
use Rattle.model_workers.proofs.FilesLemmas.Kept as kept
use Rattle.model_workers.proofs.FilesLemmas.OfLog as of_log

-- ---- ids of entries

pub all_pass : {A : Type 0} (p : A → Bool) (xs : List A) → ((x : A) → Among x xs → p x ≡ true) → filter p xs ≡ xs
all_pass p [] h = refl
all_pass p (x ∷ xs) h =
    ap (λ t. if t then x ∷ filter p xs else filter p xs) (h x (inl refl))
    ∙ ap (λ zs. x ∷ zs) (all_pass p xs (λ y k. h y (inr k)))

among_listed : (ids : List Id) (id : Id) → Among id ids → listed ids id ≡ true
among_listed [] id h = absurd h
among_listed (x ∷ xs) id (inl q) = ap (λ t. if t then true else listed xs id) ((bytes_eq-Decides x id).1 q)
among_listed (x ∷ xs) id (inr h) =
    let case : (t : Bool) → (if t then true else listed xs id) ≡ true
    = λ t. elim t as (λ t. (if t then true else listed xs id) ≡ true) [ true ↦ refl | false ↦ among_listed xs id h ] in
    case (bytes_eq x id)

-- ids that are all those of entries
pub all_listed : (es : List Entry) (ids : List Id) → ((id : Id) → Among id ids → Among id (ids_of es))
    → among_ids es ids ≡ ids
all_listed es ids h = all_pass (listed (ids_of es)) ids (λ id k. among_listed (ids_of es) id (h id k))

listed_there : (es : List Entry) (ids : List Id) (id : Id) → Among id (among_ids es ids) → Among id (ids_of es)
listed_there es ids id h = listed_among (ids_of es) id (filtered_passes (listed (ids_of es)) id ids h)

-- ids of entries that are all lines of these bytes
pub all_read : (form : Form) (bytes : List ℕ) (all es : List Entry) → ((e : Entry) → Among e es → Among e all)
    → ((e : Entry) → Among e es → IsLineIn (form.line e) bytes)
    → among_ids (filter (is_in form bytes) all) (ids_of es) ≡ ids_of es
all_read form bytes all es within there =
    let back : List Entry = filter (is_in form bytes) all in
    all_listed back (ids_of es) (λ id h.
    (let s = among_of_map (λ (e : Entry). e.0) id es h in
    subst (λ i. Among i (ids_of back)) s.is
    (among_map (λ (e : Entry). e.0) s.x back
    (among_filter (is_in form bytes) s.x all (within s.x s.within)
    (test_finds (form.line s.x) bytes (there s.x s.within))))))

-- ---- a worker that is started again

module _ (form : Form) (f : Files) (c : Name) (every : ℕ) (torn : List ℕ) where
  abbrev is_there : Entry → Bool
  is_there = is_in form (repaired f c torn)

  abbrev pub then_committed : List Entry
  then_committed = committed_after f.stream c is_there

  back_committed : (id : Id) → Among id (ids_of (read_back form f c torn)) → Among id (ids_of then_committed)
  back_committed id h =
      let s = among_of_map (λ (e : Entry). e.0) id (read_back form f c torn) h in
      subst (λ i. Among i (ids_of then_committed)) s.is
      (among_map (λ (e : Entry). e.0) s.x then_committed (among_filtered is_there s.x then_committed s.within))

  -- all ids of what is read back are committed
  pub all_its_own : (ids : List Id) → among_ids then_committed (among_ids (read_back form f c torn) ids)
      ≡ among_ids (read_back form f c torn) ids
  all_its_own ids =
      all_listed then_committed (among_ids (read_back form f c torn) ids)
      (λ id h. back_committed id (listed_there (read_back form f c torn) ids id h))

  -- it begins with those of the ids that are in its file
  pub begins : (ids : List Id)
      → (reopens form f c every torn ids).stream.workers c ≡ begins_with every (among_ids (read_back form f c torn) ids)
  begins ids =
      at_one f.stream.workers c
      (begins_with every (among_ids then_committed (among_ids (read_back form f c torn) ids)))
      ∙ ap (λ l. begins_with every l) (all_its_own ids)

  -- it begins with all, if each is that of an entry that is committed and a line of the file
  pub begins_with_all : (es : List Entry) → ((e : Entry) → Among e es → Among e then_committed)
      → ((e : Entry) → Among e es → IsLineIn (form.line e) (repaired f c torn))
      → (reopens form f c every torn (ids_of es)).stream.workers c ≡ begins_with every (ids_of es)
  begins_with_all es committed there =
      begins (ids_of es)
      ∙ ap (λ l. begins_with every l) (all_read form (repaired f c torn) then_committed es committed there)

  -- an id of what is read back is that of a line of the file
  record OfItsFile (id : Id) : Type 0 where
    fields : Fields
    within : Among (id, fields) then_committed
    there : IsLineIn (form.line (id, fields)) (repaired f c torn)

  of_its_file : (id : Id) → Among id (ids_of (read_back form f c torn)) → OfItsFile id
  of_its_file id h =
      let s = among_of_map (λ (e : Entry). e.0) id (read_back form f c torn) h in
      subst OfItsFile s.is (record {
        fields = s.x.1;
        within = among_filtered is_there s.x then_committed s.within;
        there = is_line (form.line s.x) (repaired f c torn) (form.whole s.x)
            (filtered_passes is_there s.x then_committed s.within);
      })

pub begins_with_its_lines : BeginsWithItsLines
begins_with_its_lines form before events name every torn ids id h =
    let f : Files = after form before events in
    let g = kept.group_inv form before events in
    let here : Among id (among_ids (read_back form f name torn) ids) =
    subst (λ (m : Machine). Among id m.to_acknowledge) (begins form f name every torn ids) h in
    let o = of_its_file form f name every torn id (listed_there (read_back form f name torn) ids id here) in
    let did : Among (id, o.fields) f.stream.handled =
    elim (among_split (id, o.fields) f.stream.committed
    (filter (is_in form (repaired f name torn)) (f.stream.loose name)) o.within) [
      | inl a ↦ g.committed (id, o.fields) a
      | inr a ↦ g.loose name (id, o.fields)
          (among_filtered (is_in form (repaired f name torn)) (id, o.fields) (f.stream.loose name) a)
    ] in (
      among_filtered (listed (ids_of (read_back form f name torn))) id ids here,
      (
        o.fields,
        subst (λ xs. IsLineIn (form.line (id, o.fields)) xs) (sym (at_one f.file name (repaired f name torn))) o.there,
        kept.handled_logged f.stream g (id, o.fields) did,
      ),
    )

pub begins_with_all_it_reads : BeginsWithAllItReads
begins_with_all_it_reads form before events name every torn es fronts front new there =
    let f : Files = after form before events in
    let now : List ℕ = repaired f name torn in
    let all = of_log.each form before f (kept.always form before events) (of_log.always form before events fronts)
    (Reopens name every torn (ids_of es)) front in
    let o = all name in
    let file : (reopens form f name every torn (ids_of es)).file name ≡ now = at_one f.file name now in
    let is : now ≡ lines form o.es = sym file ∙ o.is ∙ ap (λ xs. whole_lines xs ++ lines form o.es) new in
    let in_it : (e : Entry) → Among e es → IsLineIn (form.line e) now =
    λ e h. subst (λ xs. IsLineIn (form.line e) xs) file (there e h) in
    begins_with_all form f name every torn es
    (λ e h. o.logged e (entry_told form o.es e (subst (λ xs. IsLineIn (form.line e) xs) is (in_it e h))))
    in_it
