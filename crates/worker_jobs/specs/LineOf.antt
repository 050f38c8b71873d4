-- The line of an entry.
use Rattle.std.specs.Prelude.{ℕ, List, [], ◌∷◌, ◌++◌, codes}
use Rattle.worker.specs.EntryJson.{fields_tokens}
use Rattle.json.specs.Print.{print}
use Rattle.json.specs.Token.{Token, begin_object, end_object, key, string}
use Rattle.model_server.specs.Group.Worker.{Entry}
use Rattle.stream_in_place.specs.Sent.{Pairs}

-- the member `stream`, and the end of the object
abbrev pub stream_tokens : List ℕ → List Token
stream_tokens stream = key (codes "stream") ∷ string stream ∷ end_object ∷ []

-- the beginning of the object, before the fields
abbrev pub head_tokens : List ℕ → List Token
head_tokens id = begin_object ∷ key (codes "id") ∷ string id ∷ key (codes "fields") ∷ []

-- an object with the id, the fields and the stream
abbrev pub line_tokens : List ℕ → Entry Pairs → List Token
line_tokens stream e = head_tokens e.0 ++ (fields_tokens e.1 ++ stream_tokens stream)

-- `{"id":"1-0","fields":[["name","value"],..],"stream":"orders"}`
abbrev pub line_of : List ℕ → Entry Pairs → List ℕ
line_of stream e = print (line_tokens stream e)
