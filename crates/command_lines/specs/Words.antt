-- How the arguments of a command line are parsed.
use Rattle.std.specs.Prelude.{◌≡◌, ◌==◌, ◌∷◌, ◌||◌, ◌-◌, [], ℕ, zero, suc, nat_lt, nat_eq, Bool, List, None, Option, Some, codes, drop, filter, if◌then◌else◌, length, map, slice_get, unwrap_or}
use Rattle.std.specs.List.{after_first, before_first, list_any, position_or_len, starts_with}
use Rattle.std.specs.Borrow.{Bor}
use Rattle.std.specs.Str.{bytes_eq}
use Rattle.command_lines.specs.declared.words.Line.{Line}

-- an argument, as bytes
abbrev pub Text : Type 0
Text = List ℕ

-- whether an argument that is not a value is an option: whether it begins with two hyphens
abbrev pub is_option : Text → Bool
is_option word = starts_with nat_eq word (codes "--")

-- The values in the arguments, each with its option. The first `n` arguments are values of `option`. `number`
-- gives the number of values of each option. The option of a positional argument is the empty text. The value
-- of a flag is the empty text. All arguments after `--` are positional. `--x=v` is the option `--x` with the
-- value `v`.
abbrev pub values_in : (Text → ℕ) → Text → ℕ → List Text → List (Text × Text)
values_in number option n [] = []
values_in number option (suc n) (word ∷ words) = (option, word) ∷ values_in number option n words
values_in number option zero (word ∷ words) =
    if bytes_eq word (codes "--") then values_in number [] (length words) words
    else if is_option word then
    (if nat_lt (position_or_len (λ b. b == 61) word) (length word)
    then (before_first (λ b. b == 61) word, after_first (λ b. b == 61) word) ∷ values_in number [] 0 words
    else if number word == 0 then (word, []) ∷ values_in number [] 0 words
    else values_in number word (number word) words)
    else ([], word) ∷ values_in number [] 0 words

-- the values of `option`, in order
abbrev pub said : Text → List (Text × Text) → List Text
said option values = map (λ v. v.1) (filter (λ v. bytes_eq v.0 option) values)

-- whether `option` is present
abbrev pub is_given : Text → List (Text × Text) → Bool
is_given option values = list_any (λ v. bytes_eq v.0 option) values

-- the last value, or `usual` if there are none
abbrev pub last_said : Text → List Text → Text
last_said usual values = unwrap_or (slice_get values (length values - 1)) usual

-- the two values, if there are exactly two
abbrev pub two_of : List Text → Option (Text × Text)
two_of (first ∷ second ∷ []) = Some (first, second)
two_of _ = None

-- the last two values, if there are at least two
abbrev pub last_pair : List Text → Option (Text × Text)
last_pair values = two_of (drop (length values - 2) values)

-- the option and the value, as texts
abbrev pub pair_of : Bor Text × Bor Text → Text × Text
pair_of v = (v.0.now, v.1.now)

-- the values of `line` with their options, as texts
abbrev pub texts_of : Line → List (Text × Text)
texts_of line = map pair_of line.values.items

-- the values, preceded by the first argument if that one is a value
abbrev pub values_then : Option (Bor Text × Bor Text) → List (Text × Text) → List (Text × Text)
values_then None values = values
values_then (Some value) values = pair_of value ∷ values

-- whether an argument that is not a value asks for the help or the version
abbrev pub is_help : Text → Bool
is_help word = starts_with nat_eq word (codes "-h") || starts_with nat_eq word (codes "-V")
    || bytes_eq word (codes "--help") || bytes_eq word (codes "--version")

-- whether any of the arguments, including values, asks for the help or the version
abbrev pub asks_help : List Text → Bool
asks_help words = list_any is_help words
