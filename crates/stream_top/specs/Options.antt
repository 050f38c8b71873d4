-- The task of the program, in terms of its arguments.
use Rattle.std.specs.Prelude.{◌≡◌, ◌∷◌, ◌&&◌, ◌-◌, ◌^◌, [], ℕ, Bool, IsTrue, List, None, Option, Some, codes, if◌then◌else◌, string_bytes}
use Rattle.std.specs.List.{AllZip, list_any}
use Rattle.std.specs.Str.{bytes_eq}
use Rattle.command_lines.specs.Said.{IsNumberOf}
use Rattle.command_lines.specs.Words.{Text, is_given, said, values_in}
use Rattle.stream_top.specs.Measured.{name_of}
use Rattle.stream_top.specs.declared.options.Form.{Form}
use Rattle.stream_top.specs.declared.options.Form.TheVariants.{Json, OpenMetrics}
use Rattle.stream_top.specs.declared.options.Key.{Key}
use Rattle.stream_top.specs.declared.options.Task.{Task}
use Rattle.stream_top.specs.declared.options.Task.TheVariants as tasks
use Rattle.stream_top.specs.declared.options.Word.{Word}

-- the number of values of an option: no option has a value
abbrev pub number_of_values : Text → ℕ
number_of_values option = 0

-- the text that an argument is shown as
abbrev pub text_of : Word → Text
text_of word = string_bytes word.text

-- the bytes of an argument
abbrev pub bytes_of : Word → List ℕ
bytes_of word = word.bytes.0.items

-- the bytes of a key
abbrev pub key_bytes : Key → List ℕ
key_bytes key = key.bytes.0.items

-- whether one of the arguments is shown as the name of `key` and has its bytes
abbrev pub is_word : List Word → Key → Bool
is_word words key =
    list_any (λ word. bytes_eq (text_of word) (name_of key) && bytes_eq (bytes_of word) (key_bytes key)) words

-- `key` has this name and is one of the arguments
pub record IsKey (words : List Word) (name : Text) (key : Key) : Type 0 where
  pub named : name_of key ≡ name
  pub word : IsTrue (is_word words key)

-- the form that the options ask for
abbrev pub form_said : List (Text × Text) → Option Form
form_said line =
    if is_given (codes "--json") line then Some Json
    else if is_given (codes "--openmetrics") line then Some OpenMetrics
    else None

-- the positional arguments are KEY, which is one of `words`, and ROUNDS, which is a number of 32 bits
pub record SaysTables (words : List Word) (line : List (Text × Text)) (key : Key) (rounds : ℕ) : Type 0 where
  pub text : Text
  pub names : said [] line ≡ name_of key ∷ text ∷ []
  pub word : IsTrue (is_word words key)
  pub number : IsNumberOf 0 (2 ^ 32 - 1) text rounds

-- the arguments specify the task: tables of one key, or the figures of all keys in a form
abbrev pub Says : List Word → List (Text × Text) → Task → Type 0
Says words line (tasks.Tables key rounds) = (form_said line ≡ None) × SaysTables words line key rounds
Says words line (tasks.Text keys form) =
    (form_said line ≡ Some form) × AllZip (IsKey words) (said [] line) keys.items

-- `task` is the task that the arguments `words` specify. They are shown as `texts`.
abbrev pub IsTaskOf : List Word → List Text → Task → Type 0
IsTaskOf words texts task = Says words (values_in number_of_values [] 0 texts) task
