-- The line of an entry: text with tabs, or JSON.
use Rattle.std.specs.Prelude.{ℕ, List, [], ◌∷◌, ◌++◌, codes, Bool, true, false}
use Rattle.json.specs.Print.{print}
use Rattle.json.specs.Token.{Token, begin_object, end_object, key, string}
use Rattle.worker.specs.EntryJson.{fields_tokens}
use Rattle.worker_journal.specs.EntryLine.{Entry, line_of}

-- the tokens before the fields
abbrev pub begin_tokens : List ℕ → List Token
begin_tokens id = begin_object ∷ key (codes "id") ∷ string id ∷ key (codes "fields") ∷ []

-- `{"id":"1-0","fields":[["name","value"],..]}`
abbrev pub entry_tokens : Entry → List Token
entry_tokens e = begin_tokens e.0 ++ (fields_tokens e.1 ++ end_object ∷ [])

-- the line of an entry, without its line end
abbrev pub line_in : Bool → Entry → List ℕ
line_in true e = print (entry_tokens e)
line_in false e = line_of e
