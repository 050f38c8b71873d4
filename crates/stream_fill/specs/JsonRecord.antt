-- The record of a line of JSON, in terms of the line's JSON value.
use Rattle.std.specs.Prelude.{◌≡◌, ℕ, List, [], ◌∷◌, Bool, ◌&&◌, if◌then◌else◌, Option, Some, None, bytes_eq, codes, is_some, option_and_then, option_map}
use Rattle.std.specs.Str.{is_utf8}
use Rattle.base64.specs.Engines as named
use Rattle.base64.specs.GeneralPurpose.{decoded_of}
use Rattle.json.specs.Find.{as_array, as_object, as_str}
use Rattle.json.specs.Json.{Json, string, object, Items, no_items, item, Members, no_members, member, document}
use Rattle.json.specs.declared.error.Error.{Error}
use Rattle.json.specs.declared.error.Error.TheVariants as errors
use Rattle.worker_producer.specs.Records.{Fields}
use Rattle.stream_fill.specs.declared.json_records.NoRecord.{NoRecord}
use Rattle.stream_fill.specs.declared.json_records.NoRecord.TheVariants as causes

-- ---- a text

-- the bytes that a member `base64` encodes, or `None` for another member
abbrev pub decoded : List ℕ → Json → Option (List ℕ)
decoded name j = if bytes_eq name (codes "base64") then option_and_then (decoded_of named.standard) (as_str j) else None

-- the bytes that the member `base64` encodes, if it is the only member
abbrev pub only_decoded : Members → Option (List ℕ)
only_decoded (member name j no_members) = decoded name j
only_decoded _ = None

-- the bytes of a text, which is a string or `{"base64":".."}`
abbrev pub text_of : Json → Option (List ℕ)
text_of (string s) = Some s
text_of (object ms) = only_decoded ms
text_of _ = None

-- ---- fields

-- puts `first` before `rest`, if neither is `None`
abbrev pub first_and_rest : {A : Type 0} → Option A → Option (List A) → Option (List A)
first_and_rest first rest = option_and_then (λ x. option_map (λ xs. x ∷ xs) rest) first

-- the field of a member: the name and the text
abbrev pub field_of_member : List ℕ → Json → Option (List ℕ × List ℕ)
field_of_member name j = option_map (λ text. (name, text)) (text_of j)

-- a field for each member, in order
abbrev pub fields_of_members : Members → Option Fields
fields_of_members no_members = Some []
fields_of_members (member name j ms) = first_and_rest (field_of_member name j) (fields_of_members ms)

-- the field of two texts, a name and a value
abbrev pub field_of_two : Items → Option (List ℕ × List ℕ)
field_of_two (item first (item second no_items)) =
    option_and_then (λ name. option_map (λ text. (name, text)) (text_of second)) (text_of first)
field_of_two _ = None

-- the field of `["name","value"]`
abbrev pub field_of_pair : Json → Option (List ℕ × List ℕ)
field_of_pair j = option_and_then field_of_two (as_array j)

-- a field for each pair, in order
abbrev pub fields_of_pairs : Items → Option Fields
fields_of_pairs no_items = Some []
fields_of_pairs (item j js) = first_and_rest (field_of_pair j) (fields_of_pairs js)

-- whether the member is the id in a line of `stream_drain`
abbrev pub is_id : List ℕ → Json → Bool
is_id name j = bytes_eq name (codes "id") && is_some (as_str j)

-- the pairs in the members of a line of `stream_drain`, `{"id":"..","fields":[..]}`
abbrev pub pairs_of : Members → Option Items
pairs_of (member first i (member second j no_members)) =
    if is_id first i && bytes_eq second (codes "fields") then as_array j else None
pairs_of _ = None

-- ---- a line

-- the fields of the pairs, or of the members if there are no pairs
abbrev pub fields_of_either : Option Items → Members → Option Fields
fields_of_either (Some js) ms = fields_of_pairs js
fields_of_either None ms = fields_of_members ms

-- the fields of an object. It is a line of `stream_drain`, or has one field for each member.
abbrev pub fields_of_object : Members → Option Fields
fields_of_object ms = fields_of_either (pairs_of ms) ms

-- the fields of a value, which must be an object
abbrev pub fields_of_value : Json → Option Fields
fields_of_value j = option_and_then fields_of_object (as_object j)

-- the value of a line, which must be UTF-8 and JSON
abbrev pub value_of_line : List ℕ → Option Json
value_of_line line = if is_utf8 line then document line else None

-- the fields of a line
abbrev pub fields_of_line : List ℕ → Option Fields
fields_of_line line = option_and_then fields_of_value (value_of_line line)

-- the fields, or `None` if there are none
abbrev pub one_at_least : Fields → Option Fields
one_at_least [] = None
one_at_least (f ∷ fs) = Some (f ∷ fs)

-- the record of a line: its fields, of which there is at least one
abbrev pub record_of_line : List ℕ → Option Fields
record_of_line line = option_and_then one_at_least (fields_of_line line)

-- ---- why a line is no record

-- why a line is no record if its value could not be parsed
abbrev pub reason_of : Error → NoRecord
reason_of errors.Invalid = causes.NoJson
reason_of errors.OutOfMemory = causes.Memory
reason_of errors.TooLong = causes.NoJson
reason_of errors.DuplicateKey = causes.NoJson

-- why the value of a line could not be parsed: the line has no value, or memory ran out
abbrev pub IsNoValue : List ℕ → NoRecord → Type 0
IsNoValue line causes.NoJson = value_of_line line ≡ None
IsNoValue line causes.NoTexts = ⊥
IsNoValue line causes.NoField = ⊥
IsNoValue line causes.Memory = Unit {0}

-- why a text, a field or fields could not be read: the value has none, or memory ran out
abbrev pub IsNoText : {A : Type 0} → Option A → NoRecord → Type 0
IsNoText said causes.NoJson = ⊥
IsNoText said causes.NoTexts = said ≡ None
IsNoText said causes.NoField = ⊥
IsNoText said causes.Memory = Unit {0}

-- why a line is no record: it is not JSON, not an object of texts, has no field, or memory ran out
abbrev pub IsNoRecord : List ℕ → NoRecord → Type 0
IsNoRecord line causes.NoJson = value_of_line line ≡ None
IsNoRecord line causes.NoTexts = (j : Json) × (value_of_line line ≡ Some j) × (fields_of_value j ≡ None)
IsNoRecord line causes.NoField = fields_of_line line ≡ Some []
IsNoRecord line causes.Memory = Unit {0}
