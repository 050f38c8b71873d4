-- A line determines its entry.
use Rattle.std.specs.Prelude.{◌≡◌, Bool}
use Rattle.worker_journal.specs.EntryLine.{Entry}
use Rattle.model_workers.specs.Files.Files.{Form}
use Rattle.worker.specs.EntryJson.{AreOfBytes}
use Rattle.stream_drain.specs.Line.{line_in}

-- the names and the values of the entry are bytes
abbrev pub IsOfBytes : Entry → Type 0
IsOfBytes e = AreOfBytes e.1

-- the law: two entries with the same line, in text or in JSON, are equal
abbrev pub LinesTellEntries : Type 0
LinesTellEntries = (json : Bool) (a b : Entry) → IsOfBytes a → IsOfBytes b → line_in json a ≡ line_in json b → a ≡ b

-- the law: lines are a form of `model_workers::files`. For an entry whose names and values are bytes, the line
-- of this form is `line_in json e`.
abbrev pub LinesAreAForm : Type 0
LinesAreAForm = (json : Bool) → (form : Form) × ((e : Entry) → IsOfBytes e → form.line e ≡ line_in json e)
