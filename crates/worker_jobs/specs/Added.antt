-- Entries that a reply of JSON adds to other streams, `{"done":true,"add":[["results",{"id":"7"}]]}`.
use Rattle.std.specs.Prelude.{◌≡◌, ℕ, List, [], ◌∷◌, ◌++◌, Bool, true, false, ◌&&◌, Option, Some, None, if◌then◌else◌, codes, map}
use Rattle.std.specs.Prelude.{option_and_then, option_map}
use Rattle.std.specs.Str.{bytes_eq, is_utf8}
use Rattle.json.specs.Find.{as_str}
use Rattle.json.specs.Json.{Json, boolean, array, object, Items, no_items, item, Members, no_members, member, document}
use Rattle.redis_wire.specs.Packed.{command_bytes}
use Rattle.worker.specs.Letters.{Fields, words_of}

-- an entry to add: the stream, and the fields in order
pub record Added : Type 0 where
  pub stream : List ℕ
  pub fields : Fields

-- the arguments of the command `XADD stream * name value ..`
abbrev pub added_words : Added → List (List ℕ)
added_words a = codes "XADD" ∷ a.stream ∷ codes "*" ∷ words_of a.fields

-- the bytes of the command that adds the entry
abbrev pub added_bytes : Added → List ℕ
added_bytes a = command_bytes (added_words a)

-- the names and values of an object, or `None` if a value is not a string
abbrev pub fields_in : Members → Option Fields
fields_in no_members = Some []
fields_in (member name value rest) =
    option_and_then (λ text. option_map (λ fields. (name, text) ∷ fields) (fields_in rest)) (as_str value)

-- the entry of `stream` with these fields, or `None` if the stream or the fields are empty
abbrev pub entry_with : List ℕ → Option Fields → Option Added
entry_with stream None = None
entry_with stream (Some []) = None
entry_with [] (Some (field ∷ fields)) = None
entry_with (b ∷ stream) (Some (field ∷ fields)) =
    Some (record { stream = b ∷ stream; fields = field ∷ fields })

-- the entry of `stream`, or `None` if the value is not an object of fields
abbrev pub entry_of : List ℕ → Json → Option Added
entry_of stream (object fields) = entry_with stream (fields_in fields)
entry_of stream _ = None

-- the entry of the pair `["results",{"id":"7"}]`, or `None` if the items are not such a pair
abbrev pub entry_of_pair : Items → Option Added
entry_of_pair (item stream (item fields no_items)) = option_and_then (λ text. entry_of text fields) (as_str stream)
entry_of_pair _ = None

-- the entry of a value, or `None` if the value is not such a pair
abbrev pub entry_in : Json → Option Added
entry_in (array pair) = entry_of_pair pair
entry_in _ = None

-- the entries of an array of pairs, or `None` if one item is not such a pair
abbrev pub entries_in : Items → Option (List Added)
entries_in no_items = Some []
entries_in (item j rest) = option_and_then (λ a. option_map (λ more. a ∷ more) (entries_in rest)) (entry_in j)

-- whether the member is `"done":true`
abbrev pub is_done : List ℕ → Json → Bool
is_done name (boolean b) = b && bytes_eq name (codes "done")
is_done name _ = false

-- the items of the member `add`, or `None` if the member is another one
abbrev pub array_of : List ℕ → Json → Option Items
array_of name (array js) = if bytes_eq name (codes "add") then Some js else None
array_of name _ = None

-- the pairs that the members of a reply add. One member is `"done":true`, and the other member, if there is
-- one, is `add`.
abbrev pub added_by : Members → Option Items
added_by (member k v no_members) = if is_done k v then Some no_items else None
added_by (member k v (member l w no_members)) =
    if is_done k v then array_of l w else if is_done l w then array_of k v else None
added_by _ = None

-- the pairs that a reply adds, or `None` if the value is not an object of such members
abbrev pub added_of : Json → Option Items
added_of (object members) = added_by members
added_of _ = None

-- the entries that a reply adds, or `None` if the value is not a reply
abbrev pub entries_of : Json → Option (List Added)
entries_of j = option_and_then entries_in (added_of j)

-- the entries that a line adds, or `None` if the line is not a reply of JSON
abbrev pub entries_of_line : List ℕ → Option (List Added)
entries_of_line line = if is_utf8 line then option_and_then entries_of (document line) else None

-- `true`: the commands for the entries are queued after `old`. `false`: there are no entries since the line is
-- not a reply of JSON, and the queue is unchanged.
abbrev pub Queues : Option (List Added) → Bool → List (List ℕ) → List (List ℕ) → Type 0
Queues (Some entries) true old new = new ≡ old ++ map added_bytes entries
Queues (Some entries) false old new = ⊥
Queues None true old new = ⊥
Queues None false old new = new ≡ old

-- like `Queues`, but some commands may be queued though the line is not a reply of JSON
abbrev pub QueuesSome : Option (List Added) → Bool → List (List ℕ) → List (List ℕ) → Type 0
QueuesSome (Some entries) true old new = new ≡ old ++ map added_bytes entries
QueuesSome (Some entries) false old new = ⊥
QueuesSome None true old new = ⊥
QueuesSome None false old new = (more : List (List ℕ)) × (new ≡ old ++ more)

-- `true`: the command for the entry is queued after `old`. `false`: there is no entry, and the queue is
-- unchanged.
abbrev pub QueuesOne : Option Added → Bool → List (List ℕ) → List (List ℕ) → Type 0
QueuesOne (Some a) true old new = new ≡ old ++ added_bytes a ∷ []
QueuesOne (Some a) false old new = ⊥
QueuesOne None true old new = ⊥
QueuesOne None false old new = new ≡ old

-- `words` are the names and values of the fields, each value after its name
abbrev pub AreWords : Option Fields → List (List ℕ) → Type 0
AreWords None words = ⊥
AreWords (Some fields) words = words ≡ words_of fields
