-- Lines that `stream_drain --json` writes, read as records.
use Rattle.std.specs.Prelude.{◌≡◌, ◌≢◌, ◌<◌, ℕ, List, [], ◌∷◌, Some, codes, if◌then◌else◌}
use Rattle.std.specs.List.{AllByRecursion}
use Rattle.std.specs.Str.{IsUtf8, is_utf8}
use Rattle.base64.specs.Engines as named
use Rattle.base64.specs.GeneralPurpose.{encode_of}
use Rattle.json.specs.Json.{Json, string, array, object, Items, no_items, item, no_members, member}
use Rattle.json.specs.Print.{print}
use Rattle.json.specs.Tree.{json_tokens}
use Rattle.worker_producer.specs.Records.{Fields}
use Rattle.stream_fill.specs.JsonRecord.{record_of_line}

-- a text as a string, or as `{"base64":".."}` if the bytes are not UTF-8
abbrev pub text_value : List ℕ → Json
text_value bytes =
    if is_utf8 bytes then string bytes
    else object (member (codes "base64") (string (encode_of named.standard bytes)) no_members)

-- the pair `["name","value"]` of a field
abbrev pub pair_value : List ℕ × List ℕ → Json
pair_value p = array (item (text_value p.0) (item (text_value p.1) no_items))

-- the pairs of the fields, in order
abbrev pub pair_values : Fields → Items
pair_values [] = no_items
pair_values (f ∷ fs) = item (pair_value f) (pair_values fs)

-- the object `{"id":"1-0","fields":[["name","value"],..]}` of an entry
abbrev pub entry_value : List ℕ → Fields → Json
entry_value id fs = object (member (codes "id") (string id) (member (codes "fields") (array (pair_values fs)) no_members))

-- the line of an entry
abbrev pub drained_line : List ℕ → Fields → List ℕ
drained_line id fs = print (json_tokens (entry_value id fs))

-- each number is a byte
abbrev pub AreBytes : List ℕ → Type 0
AreBytes xs = AllByRecursion (λ b. b < 256) xs

-- the law: The line of an entry is a record with exactly the entry's fields. The names and values must be
-- bytes, and there must be at least one field.
abbrev pub DrainedLinesComeBack : Type 0
DrainedLinesComeBack = (id : List ℕ) (fs : Fields) → IsUtf8 id → AllByRecursion (λ f. AreBytes f.0 × AreBytes f.1) fs
    → fs ≢ [] → record_of_line (drained_line id fs) ≡ Some fs
