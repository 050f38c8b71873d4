-- The kinds of cases of each module.
use Rattle.std.specs.Prelude.{ℕ, List, Bool, true, false, codes, if◌then◌else◌}
use Rattle.std.specs.Str.{bytes_eq}

-- replies that hold entries
abbrev pub is_row : List ℕ → Bool
is_row kind =
    if bytes_eq kind (codes "range") then true
    else if bytes_eq kind (codes "claim") then true
    else if bytes_eq kind (codes "read") then true
    else if bytes_eq kind (codes "forms") then true
    else if bytes_eq kind (codes "autoclaim") then true
    else if bytes_eq kind (codes "justid") then true
    else false

-- replies of XINFO
abbrev pub is_info : List ℕ → Bool
is_info kind =
    if bytes_eq kind (codes "stream") then true
    else if bytes_eq kind (codes "streamidmp") then true
    else if bytes_eq kind (codes "full") then true
    else if bytes_eq kind (codes "consumers") then true
    else if bytes_eq kind (codes "groups") then true
    else false

-- replies on pending entries, and status codes
abbrev pub is_other : List ℕ → Bool
is_other kind =
    if bytes_eq kind (codes "pending") then true
    else if bytes_eq kind (codes "pendingcount") then true
    else if bytes_eq kind (codes "xdelex") then true
    else if bytes_eq kind (codes "xackdel") then true
    else false

-- the kinds of the module `replies`
abbrev pub is_reply : List ℕ → Bool
is_reply kind =
    if is_row kind then true
    else if is_info kind then true
    else if is_other kind then true
    else false

-- numbers of each width
abbrev pub is_number : List ℕ → Bool
is_number kind =
    if bytes_eq kind (codes "u8") then true
    else if bytes_eq kind (codes "u16") then true
    else if bytes_eq kind (codes "u32") then true
    else if bytes_eq kind (codes "u64") then true
    else if bytes_eq kind (codes "usize") then true
    else if bytes_eq kind (codes "i32") then true
    else if bytes_eq kind (codes "i64") then true
    else false

-- texts, bytes, booleans and values
abbrev pub is_single : List ℕ → Bool
is_single kind =
    if bytes_eq kind (codes "String") then true
    else if bytes_eq kind (codes "RawBytes") then true
    else if bytes_eq kind (codes "bool") then true
    else if bytes_eq kind (codes "Value") then true
    else false

-- tuples of four members
abbrev pub is_tuple_of_four : List ℕ → Bool
is_tuple_of_four kind =
    if bytes_eq kind (codes "(u16, Option<u16>, i64, Option<usize>)") then true
    else if bytes_eq kind (codes "(String, String, String, u32)") then true
    else false

-- tuples
abbrev pub is_tuple : List ℕ → Bool
is_tuple kind =
    if bytes_eq kind (codes "(String, u32)") then true
    else if bytes_eq kind (codes "(String, String)") then true
    else if bytes_eq kind (codes "(u16, i64)") then true
    else if bytes_eq kind (codes "(u64, bool, u8)") then true
    else if bytes_eq kind (codes "(u16, u16, u16)") then true
    else if bytes_eq kind (codes "(i32, Option<u8>, i32)") then true
    else if is_tuple_of_four kind then true
    else false

-- lists of pairs and tables
abbrev pub is_table : List ℕ → Bool
is_table kind =
    if bytes_eq kind (codes "PairList<u16>") then true
    else if bytes_eq kind (codes "IndexMap<String, u16>") then true
    else if bytes_eq kind (codes "HashMap<String, Value>") then true
    else if bytes_eq kind (codes "BTreeMap<String, u16>") then true
    else false

-- lists, options, lists of pairs and tables
abbrev pub is_collection : List ℕ → Bool
is_collection kind =
    if bytes_eq kind (codes "Vec<String>") then true
    else if bytes_eq kind (codes "Vec<Value>") then true
    else if bytes_eq kind (codes "Option<u32>") then true
    else if bytes_eq kind (codes "Option<String>") then true
    else if is_table kind then true
    else false

-- the kinds of the module `readings`
abbrev pub is_reading : List ℕ → Bool
is_reading kind =
    if is_number kind then true
    else if is_single kind then true
    else if is_tuple kind then true
    else if is_collection kind then true
    else false

-- the kinds of the module `notation`
abbrev pub is_notation : List ℕ → Bool
is_notation kind =
    if bytes_eq kind (codes "notation") then true
    else if bytes_eq kind (codes "reads_as") then true
    else false

-- the kinds of the module `wire`
abbrev pub is_wire : List ℕ → Bool
is_wire kind =
    if bytes_eq kind (codes "wire") then true
    else if bytes_eq kind (codes "limited") then true
    else if bytes_eq kind (codes "decoded") then true
    else if bytes_eq kind (codes "pieces") then true
    else if bytes_eq kind (codes "nodes") then true
    else if bytes_eq kind (codes "reply-text") then true
    else if bytes_eq kind (codes "reply-texts") then true
    else if bytes_eq kind (codes "reply-number") then true
    else if bytes_eq kind (codes "pack") then true
    else false

-- the kinds of the module `refs`
abbrev pub is_refs : List ℕ → Bool
is_refs kind =
    if bytes_eq kind (codes "refs-range") then true
    else if bytes_eq kind (codes "refs-read") then true
    else if bytes_eq kind (codes "refs-claim") then true
    else if bytes_eq kind (codes "refs-justid") then true
    else if bytes_eq kind (codes "refs-fields") then true
    else if bytes_eq kind (codes "id") then true
    else if bytes_eq kind (codes "ids") then true
    else false

-- the kinds of the module `cluster`
abbrev pub is_cluster : List ℕ → Bool
is_cluster kind =
    if bytes_eq kind (codes "slot") then true
    else if bytes_eq kind (codes "slot-of-hex") then true
    else if bytes_eq kind (codes "error") then true
    else if bytes_eq kind (codes "partition") then true
    else if bytes_eq kind (codes "partition-name") then true
    else if bytes_eq kind (codes "slots") then true
    else if bytes_eq kind (codes "shards") then true
    else false

-- the kind of the module `sockets`
abbrev pub is_socket : List ℕ → Bool
is_socket kind = if bytes_eq kind (codes "socket") then true else false

-- the kind of the module `callers`
abbrev pub is_caller : List ℕ → Bool
is_caller kind = if bytes_eq kind (codes "caller") then true else false
