-- The text of a field of the first entry.
use Rattle.std.specs.Prelude.{ℕ, List, [], ◌∷◌, Option, None}
use Rattle.redis.specs.Words.{Entry, field_record, text_reading}

-- the text of the field `name` of the first entry. `None` if there is no entry or no such text
abbrev pub first_text : List ℕ → List Entry → Option (List ℕ)
first_text name [] = None
first_text name (e ∷ es) = field_record text_reading e.fields name
