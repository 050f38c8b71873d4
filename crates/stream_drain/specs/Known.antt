-- Known ids, and the entries that get a line.
use Rattle.std.specs.Prelude.{◌||◌, List, [], ◌∷◌, Bool, false, Option, Some, None, if◌then◌else◌, option_map}
use Rattle.std.specs.Str.{bytes_eq}
use Rattle.worker_journal.specs.KnownIds.Known.{Place, knows, places_in}
use Rattle.worker_journal.specs.declared.known_ids.known.KnownIds.{KnownIds}
use Rattle.worker_journal.specs.EntryLine.{Entry}
use Rattle.model_server.specs.Group.Worker.{Id}

-- Whether an id has a committed or gathered line. `None` without `--look-up`.
abbrev pub Known : Type 0
Known = Option (Id → Bool)

-- whether an entry with this id gets no line, since the id is known
abbrev pub is_known : Known → Id → Bool
is_known None id = false
is_known (Some known) id = known id

-- the known ids, and `id`
abbrev pub known_too : Known → Id → Known
known_too known id = option_map (λ before other. bytes_eq id other || before other) known

-- the ids whose numbers are in `places`
abbrev pub numbers_known : List Place → Known
numbers_known places = Some (knows places)

-- the ids in `KnownIds`, or `None` without `--look-up`
abbrev pub known_by : Option KnownIds → Known
known_by None = None
known_by (Some ids) = numbers_known (places_in ids.ids.items)

-- the entries that get a line: those whose id is not known, and is not the id of an entry before them in the
-- list
abbrev pub lines_for : Known → List Entry → List Entry
lines_for known [] = []
lines_for known (e ∷ es) = if is_known known e.0 then lines_for known es else e ∷ lines_for (known_too known e.0) es

-- the known ids after the entries got their lines
abbrev pub known_after : Known → List Entry → Known
known_after known [] = known
known_after known (e ∷ es) = if is_known known e.0 then known_after known es else known_after (known_too known e.0) es
