-- A worker that acknowledges first what the last lines of its file say.
use Rattle.std.proofs.Common.{◌≡◌, ◌∙◌, ◌-◌, inl, inr, refl, sym, ap, ap₂, subst, ℕ, zero, suc, Bool, false, true, List, [], ◌∷◌, ◌++◌}
use Rattle.std.proofs.Common.{length, map, Some, None, append-nil, arith, drop}
use Rattle.std.proofs.lemmas.List.{drop-map}
use Rattle.worker_journal.specs.EntryLine.{Entry}
use Rattle.worker_journal.specs.LastLines.{last_of, lines_of}
use Rattle.worker_journal.specs.Lines.{AreLines, HasLine}
use Rattle.worker_journal.proofs.LastLinesLemmas.{last_all, last_join, lines_join}
use Rattle.model_server.specs.Group.Group.{listed}
use Rattle.model_server.specs.Group.Law.{Among}
use Rattle.model_server.specs.Group.Worker.{Id}
use Rattle.model_workers.specs.Loops.Shown.{with_doings}
use Rattle.model_server.proofs.GroupLemmas.Among.{among_of_map, listed_among}
use Rattle.model_server.proofs.OnceLemmas.Apart.{among_listed}
use Rattle.worker.specs.Life.{IsCommitted, Lives, done_before, resumes}
use Rattle.worker.specs.Session.{Standing}
use Rattle.worker.specs.declared.state.Settings.{Settings}
use Rattle.stream_drain.specs.Line.{line_in}
use Rattle.stream_drain.specs.Filed.{with_bytes}
use Rattle.stream_drain.specs.Lived.{LivesSo}
use Rattle.stream_drain.specs.Resumed.{AreLast, BeginsSo, BeginsWithLast, KnownAreThere, ResumedIsLived}
use Rattle.stream_drain.specs.Resumed.{StartsOverItsFile, TellEach}
use Rattle.stream_drain.specs.Resumed.{ids_in, resumed_so}
use Rattle.stream_drain.specs.Known.{Known}
use Rattle.stream_drain.specs.Written.{Written, lines_in}
use Rattle.stream_drain.proofs.FiledLemmas.{found_at}
use Rattle.stream_drain.proofs.LinesLemmas.{lines_are}
use Rattle.stream_drain.proofs.WrittenLemmas.{each_line, no_lines, none_known, none_newer}

-- nothing is gathered, and this is committed
abbrev written_as : Bool → Known → List ℕ → Written
written_as json known bytes = record { json = json; known = known; loose = []; committed = Some bytes }

-- ---- it lives so

-- each of these ids is one of these entries
each_is : (es : List Entry) (id : Id) → Among id (ids_in es) → IsCommitted (done_before es) id
each_is [] id none = absurd none
each_is (e ∷ es) id (inl is) = (e.1, inl (ap (λ (i : Id). (i, e.1)) is))
each_is (e ∷ es) id (inr later) = let found = each_is es id later in (found.0, inr found.1)

pub resumed_is_lived : ResumedIsLived
resumed_is_lived settings json first es = record {
  doings = done_before es;
  lives = resumes (ids_in es) es (each_is es);
  written = sym (ap₂ (λ (k : Known) (xs : List Entry). written_as json k (first ++ lines_in json xs)) (none_known es)
      (each_line es));
}

-- ---- what it knows is there

pub known_are_there : KnownAreThere
known_are_there json None es knows id is = absurd (let t : false ≡ true = is in cc)
known_are_there json (Some known) es knows id is =
    let among = listed_among (ids_in es) id (sym (knows es (lines_are json es) id) ∙ is) in
    let e = among_of_map (λ (e : Entry). e.0) id es among in
    let line = found_at json [] es (lines_in json es) (inl refl) ([], sym (append-nil (lines_in json es))) e.x e.within in
    (e.x.1, subst (λ (i : Id). HasLine (line_in json (i, e.x.1)) (lines_in json es)) e.is line)

-- ---- it is started so

pub starts_over_its_file : StartsOverItsFile
starts_over_its_file number settings json known es worker history begins =
    let so = begins es refl in
    record {
      machine = ap (λ (w : Standing Written). w.machine) so;
      group = ap (λ (w : Standing Written). w.group) so;
      asked = ap (λ (w : Standing Written). w.asked) so;
    }

-- ---- the last lines of the file

same_count : (json : Bool) (es : List Entry) → length (map (line_in json) es) ≡ length es
same_count json [] = refl
same_count json (e ∷ es) = omega (arith, same_count json es)

last_are : (number : ℕ) (json : Bool) (first : List ℕ) (es : List Entry) → AreLines first → AreLast number first es
    → last_of number (lines_of (first ++ lines_in json es)) ≡ map (line_in json) es
last_are number json first es whole (inl many) =
    ap (last_of number) (lines_join first (lines_in json es) whole
    ∙ ap (λ (ls : List (List ℕ)). lines_of first ++ ls) (lines_are json es))
    ∙ last_join number (lines_of first) (map (line_in json) es) (same_count json es ∙ many)
last_are number json first es whole (inr fewer) =
    ap (λ (xs : List ℕ). last_of number (lines_of (xs ++ lines_in json es))) fewer.0
    ∙ ap (last_of number) (lines_are json es)
    ∙ last_all number (map (line_in json) es) (omega (arith, same_count json es, fewer.1))

-- what each line tells is the id of its entry
told_are : (json : Bool) (es : List Entry) (ids : List Id) → TellEach json (map (line_in json) es) ids → ids_in es ≡ ids
told_are json [] [] tell = refl
told_are json [] (id ∷ ids) tell = absurd tell
told_are json (e ∷ es) [] tell = absurd tell
told_are json (e ∷ es) (id ∷ ids) tell =
    ap (λ (i : Id). i ∷ ids_in es) (tell.0 e refl) ∙ ap (λ (is : List Id). id ∷ is) (told_are json es ids tell.1)

-- the lines of the last entries
last_mapped : (number : ℕ) (json : Bool) (es : List Entry)
    → last_of number (map (line_in json) es) ≡ map (line_in json) (last_of number es)
last_mapped number json es =
    ap (λ (n : ℕ). drop (n - number) (map (line_in json) es)) (same_count json es)
    ∙ drop-map (line_in json) (length es - number) es

-- one of the last is one of all
among_last : (n : ℕ) (es : List Entry) (e : Entry) → Among e (drop n es) → Among e es
among_last zero es e among = among
among_last (suc n) [] e among = among
among_last (suc n) (x ∷ es) e among = inr (among_last n es e among)

id_among : (es : List Entry) (e : Entry) → Among e es → Among e.0 (ids_in es)
id_among [] e none = none
id_among (x ∷ es) e (inl same) = inl (ap (λ (z : Entry). z.0) same)
id_among (x ∷ es) e (inr later) = inr (id_among es e later)

is_listed : (es : List Entry) (e : Entry) → Among e es → listed (ids_in es) e.0 ≡ true
is_listed es e among = among_listed (ids_in es) e.0 (id_among es e among)

-- if nothing is looked up
begins_plainly : (number : ℕ) (settings : Settings) (json : Bool) (committed : List ℕ) (ids : List Id)
    → TellEach json (last_of number (lines_of committed)) ids
    → BeginsSo number settings json None committed (resumed_so settings json None ids committed)
begins_plainly number settings json committed ids tell first es whole is last =
    let same : ids_in es ≡ ids = told_are json es ids
    (subst (λ (ls : List (List ℕ)). TellEach json ls ids)
    (ap (λ (xs : List ℕ). last_of number (lines_of xs)) is ∙ last_are number json first es whole last) tell) in
    subst (λ (w : Standing Written). LivesSo settings (with_bytes json None first) w [])
    (ap (λ (i : List Id). resumed_so settings json None i (first ++ lines_in json es)) same
    ∙ ap (resumed_so settings json None ids) (sym is))
    (resumed_is_lived settings json first es)

-- the ids of the last entries
last_ids : (number : ℕ) (json : Bool) (committed : List ℕ) (es : List Entry) (ids : List Id)
    → TellEach json (last_of number (lines_of committed)) ids → committed ≡ lines_in json es
    → ids_in (last_of number es) ≡ ids
last_ids number json committed es ids tell is =
    let lines : last_of number (lines_of committed) ≡ map (line_in json) (last_of number es) =
    ap (λ (xs : List ℕ). last_of number (lines_of xs)) is
    ∙ (ap (last_of number) (lines_are json es) ∙ last_mapped number json es) in
    told_are json (last_of number es) ids (subst (λ (ls : List (List ℕ)). TellEach json ls ids) lines tell)

-- if entries are looked up
begins_knowing : (number : ℕ) (settings : Settings) (json : Bool) (known : Id → Bool) (committed : List ℕ) (ids : List Id)
    → TellEach json (last_of number (lines_of committed)) ids
    → BeginsSo number settings json (Some known) committed (resumed_so settings json (Some known) ids committed)
begins_knowing number settings json known committed ids tell es is knows =
    let last : List Entry = last_of number es in
    let all : (e : Entry) → Among e last → known e.0 ≡ true =
    λ e among. knows es (ap lines_of is ∙ lines_are json es) e.0 ∙ is_listed es e (among_last (length es - number) es e among) in
    let b = with_bytes json (Some known) committed in
    record {
      doings = done_before last;
      lives = subst (λ (i : List Id). Lives settings (with_doings (resumed_so settings json (Some known) i committed)
          (done_before last)) []) (last_ids number json committed es ids tell is)
          (resumes (ids_in last) last (each_is last));
      written = sym (ap₂ (λ (k : Known) (xs : List Entry). written_as json k (committed ++ lines_in json xs))
          (none_newer (Some known) last all) (no_lines (Some known) last all)
          ∙ ap (λ (xs : List ℕ). written_as json (Some known) xs) (append-nil committed));
    }

pub begins_so : (number : ℕ) (settings : Settings) (json : Bool) (known : Known) (committed : List ℕ) (ids : List Id)
    → TellEach json (last_of number (lines_of committed)) ids
    → BeginsSo number settings json known committed (resumed_so settings json known ids committed)
begins_so number settings json None committed ids tell = begins_plainly number settings json committed ids tell
begins_so number settings json (Some known) committed ids tell = begins_knowing number settings json known committed ids tell

pub begins_with_last : (number : ℕ) (settings : Settings) (json : Bool) (known : Known) (committed : List ℕ) (ids : List Id)
    → TellEach json (last_of number (lines_of committed)) ids
    → BeginsWithLast number settings json known committed (resumed_so settings json known ids committed)
begins_with_last number settings json known committed ids tell es is =
    ap (λ (i : List Id). resumed_so settings json known i committed)
    (sym (last_ids number json committed es ids tell is))
