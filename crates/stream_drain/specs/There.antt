-- The text of the file at the offset of a known id.
use Rattle.std.specs.Prelude.{◌≡◌, ◌-◌, ◌==◌, ◌&&◌, ◌||◌, ℕ, zero, suc, List, [], ◌∷◌, ◌++◌, length, drop, codes, Bool, true, false}
use Rattle.std.specs.Prelude.{Option, Some, None, IfSome, if◌then◌else◌}
use Rattle.worker_journal.specs.KnownIds.Known.{Place, has_at, places_in}
use Rattle.worker_journal.specs.KnownIds.Number.{number_of}
use Rattle.worker_journal.specs.KnownIds.Told.{begins, told}
use Rattle.worker_journal.specs.declared.known_ids.known.KnownIds.{KnownIds}
use Rattle.worker_journal.specs.EntryLine.{Entry}
use Rattle.worker_journal.specs.LastLines.{lines_of}
use Rattle.worker_journal.specs.Lines.{HasLine}
use Rattle.model_server.specs.Group.Worker.{Id}
use Rattle.stream_drain.specs.Line.{line_in}
use Rattle.stream_drain.specs.declared.lines.Fault.{Fault}
use Rattle.stream_drain.specs.declared.lines.Fault.TheVariants.{Log, NotAnId, OtherFields, Changed}
use Rattle.stream_drain.specs.declared.there.There.{There}
use Rattle.stream_drain.specs.declared.there.There.TheVariants.{Same, Other, Neither}

-- whether the text begins with a line end
abbrev pub ends : List ℕ → Bool
ends [] = false
ends (b ∷ rest) = b == 10

-- whether the text begins with a tab or a line end
abbrev pub ends_text : List ℕ → Bool
ends_text [] = false
ends_text (b ∷ rest) = (b == 9) || (b == 10)

-- whether the text begins with `line` and a line end
abbrev pub has_line : List ℕ → List ℕ → Bool
has_line line text = begins line text && ends (drop (length line) text)

-- whether the text begins like a line with this id, as JSON or as text with tabs
abbrev pub has_id : Bool → Id → List ℕ → Bool
has_id true id text = begins (codes "{\"id\":\"") text
    && (begins id (drop 7 text) && begins (codes "\",\"fields\":[") (drop (length id) (drop 7 text)))
has_id false id text = begins id text && ends_text (drop (length id) text)

-- `Same` if the text begins with `line`, `Other` if it begins like another line with this id, and else
-- `Neither`
abbrev pub found_in : Bool → Id → List ℕ → Option (List ℕ) → There
found_in json id line None = Neither
found_in json id line (Some text) = if has_line line text then Same else if has_id json id text then Other else Neither

-- the text at an offset, if a line begins there: at the first byte, or after a line end
abbrev pub begun : ℕ → List ℕ → Option (List ℕ)
begun zero bytes = Some bytes
begun (suc k) [] = None
begun (suc k) (b ∷ rest) = if b == 10 then Some rest else None

-- what the file `bytes` has at the offset `at`
abbrev pub there : Bool → Id → List ℕ → List ℕ → ℕ → There
there json id line bytes at = found_in json id line (begun at (drop (at - 1) bytes))

-- `P` holds for the committed text followed by the gathered text, if the file is known and not shorter than
-- before
abbrev pub OfAll : Option (List ℕ) → ℕ → List ℕ → (List ℕ → Type 0) → Type 0
OfAll committed len batch P = IfSome committed (λ bytes. len ≡ length bytes → P (bytes ++ batch))

-- the known offset of the entry `e` has `found`
abbrev pub Stands : There → Bool → Entry → List Place → List ℕ → Type 0
Stands found json e places bytes = (n at : ℕ) × (number_of e.0 ≡ Some n) × (has_at places n at ≡ true)
    × (there json e.0 (line_in json e) bytes at ≡ found)

-- what the file has at the known offset if an entry is not done because of this fault
abbrev pub Finds : Fault → There → Type 0
Finds (Log error) found = Unit {0}
Finds NotAnId found = ⊥
Finds OtherFields found = found ≡ Other
Finds Changed found = found ≡ Neither

-- why the entry `e` was not done
abbrev pub Says : Fault → Bool → Entry → List Place → List ℕ → Type 0
Says (Log error) json e places bytes = Unit {0}
Says NotAnId json e places bytes = number_of e.0 ≡ None
Says OtherFields json e places bytes = Stands Other json e places bytes
Says Changed json e places bytes = Stands Neither json e places bytes

-- the fault is an error of the log
abbrev pub IsOfLog : Fault → Type 0
IsOfLog (Log error) = Unit {0}
IsOfLog NotAnId = ⊥
IsOfLog OtherFields = ⊥
IsOfLog Changed = ⊥

-- why the entry `e` was not done, with or without `--look-up`
abbrev pub Explains : Fault → Bool → Entry → Option KnownIds → Option (List ℕ) → List ℕ → Type 0
Explains fault json e None committed batch = IsOfLog fault
Explains fault json e (Some ids) committed batch =
    IfSome committed (λ bytes. Says fault json e (places_in ids.ids.items) (bytes ++ batch))

-- the committed text followed by the gathered text has the line of the entry `e`
abbrev pub HasItsLine : Bool → Entry → Option (List ℕ) → List ℕ → Type 0
HasItsLine json e committed batch = IfSome committed (λ bytes. HasLine (line_in json e) (bytes ++ batch))

-- the known ids and offsets are exactly those of the lines of the file
abbrev pub KnowsPlaces : Bool → List ℕ → Option KnownIds → Type 0
KnowsPlaces json bytes None = Unit {0}
KnowsPlaces json bytes (Some ids) = IfSome (told json 0 (lines_of bytes))
    (λ places. (n at : ℕ) → has_at (places_in ids.ids.items) n at ≡ has_at places n at)
