-- The fields of an entry as JSON.
use Rattle.std.specs.Prelude.{ℕ, List, [], ◌∷◌, ◌++◌, ◌<◌, flat_map, codes, Bool, true, false, if◌then◌else◌}
use Rattle.std.specs.List.{AllByRecursion, list_all}
use Rattle.std.specs.Str.{is_utf8}
use Rattle.base64.specs.Engines as named
use Rattle.base64.specs.GeneralPurpose.{encode_of}
use Rattle.json.specs.Token.{Token, begin_object, end_object, begin_array, end_array}
use Rattle.json.specs.Token.{key, string, number, boolean, null, bad}

-- the tokens of an object with the Base64 of `bytes`
abbrev pub base64_tokens : List ℕ → List Token
base64_tokens bytes =
    begin_object ∷ key (codes "base64") ∷ string (encode_of named.standard bytes) ∷ end_object ∷ []

-- the tokens of a name or a value. UTF-8 is a string, and other bytes are an object with their Base64
abbrev pub bytes_tokens : List ℕ → List Token
bytes_tokens bytes = if is_utf8 bytes then string bytes ∷ [] else base64_tokens bytes

-- the tokens of an array with a name and its value
abbrev pub field_tokens : List ℕ × List ℕ → List Token
field_tokens p = begin_array ∷ (bytes_tokens p.0 ++ (bytes_tokens p.1 ++ end_array ∷ []))

-- the tokens of `[["name","value"],..]`
abbrev pub fields_tokens : List (List ℕ × List ℕ) → List Token
fields_tokens ps = begin_array ∷ (flat_map field_tokens ps ++ end_array ∷ [])

-- each number is less than 256
abbrev pub AreBytes : List ℕ → Type 0
AreBytes xs = AllByRecursion (λ b. b < 256) xs

-- each name and each value is a list of bytes
abbrev pub AreOfBytes : List (List ℕ × List ℕ) → Type 0
AreOfBytes ps = AllByRecursion (λ p. AreBytes p.0 × AreBytes p.1) ps

-- whether the token is a bracket, a key or a string
abbrev pub is_text_or_bracket : Token → Bool
is_text_or_bracket begin_object = true
is_text_or_bracket end_object = true
is_text_or_bracket begin_array = true
is_text_or_bracket end_array = true
is_text_or_bracket (key s) = true
is_text_or_bracket (string s) = true
is_text_or_bracket (number s) = false
is_text_or_bracket (boolean b) = false
is_text_or_bracket null = false
is_text_or_bracket bad = false

-- whether each token is a bracket, a key or a string
abbrev pub are_texts : List Token → Bool
are_texts ts = list_all is_text_or_bracket ts
