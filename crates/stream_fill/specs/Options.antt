-- The options of the program, in terms of the arguments that clap found and of the arguments themselves.
use Rattle.std.specs.Prelude.{◌≡◌, ◌∷◌, ◌||◌, ◌-◌, ◌^◌, [], ℕ, Bool, List, None, Option, Some, codes, false, if◌then◌else◌, length, option_map, slice_get, string_bytes, true}
use Rattle.std.specs.Str.{bytes_eq}
use Rattle.clap.specs.Words.{first_value, one_text}
use Rattle.clap.specs.declared.parser.matches.Found.{Found}
use Rattle.command_lines.specs.Numbers.{number_of}
use Rattle.command_lines.specs.Said.{IsNumberOf, two_numbers}
use Rattle.command_lines.specs.WorkerSettings.{IsFlag, IsNumber, IsWord, Waits, wait_parts, word_in}
use Rattle.command_lines.specs.Words.{Text, is_given, last_pair, last_said, said, values_in}
use Rattle.stream_options.specs.Trim.{Mode, Strategy, max_len, min_id, unlimited}
use Rattle.stream_options.specs.Trim as trimming
use Rattle.stream_options.specs.View.{mode_of, strategy_of}
use Rattle.stream_options.specs.declared.options.trim.StreamTrimmingMode.{StreamTrimmingMode}
use Rattle.stream_options.specs.declared.options.trim.StreamTrimmingMode.TheVariants.{Approx, Exact}
use Rattle.stream_options.specs.declared.options.trim.StreamTrimStrategy.{StreamTrimStrategy}
use Rattle.worker_producer.specs.declared.settings.Settings.{Settings}
use Rattle.stream_fill.specs.declared.lines.Form.{Form}
use Rattle.stream_fill.specs.declared.lines.Form.TheVariants as forms
use Rattle.stream_fill.specs.declared.options.Options.{Options}

-- the lines are values of the field `name`, and not JSON
abbrev pub NamesField : List ℕ → Form → Type 0
NamesField name forms.Json = ⊥
NamesField name (forms.Text field) = field.items ≡ name

-- the lines are JSON with `--json`, and else values of the field that `--field` names
pub record HasForm (found : Found) (form : Form) : Type 0 where
  pub json : one_text found (codes "json") ≡ Some (codes "true") → form ≡ forms.Json
  pub text : one_text found (codes "json") ≡ Some (codes "false") → NamesField (word_in found (codes "field")) form

-- the trimming is approximate with `--approximate`, and else exact
pub record HasMode (found : Found) (mode : StreamTrimmingMode) : Type 0 where
  pub about : one_text found (codes "approximate") ≡ Some (codes "true") → mode ≡ Approx
  pub exact : one_text found (codes "approximate") ≡ Some (codes "false") → mode ≡ Exact

-- In this mode each XADD keeps as many entries as `--maxlen` says. Without `--maxlen`, it keeps the entries
-- from the id of `--minid` on.
pub record TrimsBy (found : Found) (mode : StreamTrimmingMode) (trim : Option StreamTrimStrategy) : Type 0 where
  pub len : (word : List ℕ) → first_value found (codes "maxlen") ≡ Some word
      → option_map strategy_of trim ≡ Some (unlimited (max_len (mode_of mode) (number_of word)))
  pub id : (word : List ℕ) → first_value found (codes "maxlen") ≡ None → first_value found (codes "minid") ≡ Some word
      → option_map strategy_of trim ≡ Some (unlimited (min_id (mode_of mode) word))
  pub none : first_value found (codes "maxlen") ≡ None → first_value found (codes "minid") ≡ None → trim ≡ None

-- `trim` is the trimming that the arguments specify
pub record Trims (found : Found) (trim : Option StreamTrimStrategy) : Type 0 where
  pub mode : StreamTrimmingMode
  pub is_mode : HasMode found mode
  pub trims : TrimsBy found mode trim

-- The stream is KEY. The ids of the records come after `--base`, and a batch has at most `--batch` records.
-- These settings do not trim the stream.
pub record AreSettings (found : Found) (s : Settings) : Type 0 where
  pub key : IsWord found (codes "KEY") s.key
  pub base : IsNumber found (codes "base") 0 (2 ^ 64 - 2) s.base
  pub batch : IsNumber found (codes "batch") 1 10000 s.batch
  pub untrimmed : s.trim ≡ None

-- `o` has the values of the arguments that clap found. With `--onto` the records are added after the stream's
-- entries. With `--wait` replicas confirm each batch.
pub record AreOptions (found : Found) (o : Options) : Type 0 where
  pub settings : AreSettings found o.settings
  pub trim : Trims found o.trim
  pub path : IsWord found (codes "FILE") o.path
  pub form : HasForm found o.form
  pub is_onto : IsFlag found (codes "onto") o.is_onto
  pub wait : Waits found o.wait

-- the number of arguments after `option` that are its values
abbrev pub number_of_values : Text → ℕ
number_of_values option =
    if bytes_eq option (codes "--json") || bytes_eq option (codes "--onto") || bytes_eq option (codes "--approximate") then 0
    else if bytes_eq option (codes "--wait") then 2
    else 1

-- the last value, or `None` if there are no values
abbrev pub last_value : List Text → Option Text
last_value values = slice_get values (length values - 1)

-- the name of the field for the lines, or `None` if the lines are JSON
abbrev pub name_in : Form → Option Text
name_in forms.Json = None
name_in (forms.Text name) = Some name.items

-- `None` with `--json`, and else the name that `--field` gives, by default `line`
abbrev pub name_said : List (Text × Text) → Option Text
name_said line =
    if is_given (codes "--json") line then None else Some (last_said (codes "line") (said (codes "--field") line))

-- approximate or exact
abbrev pub mode_if : Bool → Mode
mode_if true = trimming.approx
mode_if false = trimming.exact

-- In this mode, the newest entries are kept, as many as the first argument says. Without it, the entries from
-- the id of the second argument on are kept.
abbrev pub trim_by : Mode → Option Text → Option Text → Option Strategy
trim_by mode (Some word) from = Some (unlimited (max_len mode (number_of word)))
trim_by mode None (Some word) = Some (unlimited (min_id mode word))
trim_by mode None None = None

-- The trimming of `--maxlen`, or else of `--minid`. It is approximate with `--approximate`.
abbrev pub trim_said : List (Text × Text) → Option Strategy
trim_said line = trim_by (mode_if (is_given (codes "--approximate") line)) (last_value (said (codes "--maxlen") line))
    (last_value (said (codes "--minid") line))

-- `o` has the values of the command line. The positional arguments are KEY and FILE, in this order. The last
-- value of each option counts, or its default if it is absent.
pub record Says (line : List (Text × Text)) (o : Options) : Type 0 where
  pub names : said [] line ≡ string_bytes o.settings.key ∷ string_bytes o.path ∷ []
  pub batch : IsNumberOf 1 10000 (last_said (codes "1000") (said (codes "--batch") line)) o.settings.batch
  pub base : IsNumberOf 0 (2 ^ 64 - 2) (last_said (codes "0") (said (codes "--base") line)) o.settings.base
  pub untrimmed : o.settings.trim ≡ None
  pub trim : option_map strategy_of o.trim ≡ trim_said line
  pub form : name_in o.form ≡ name_said line
  pub is_onto : o.is_onto ≡ is_given (codes "--onto") line
  pub wait : option_map wait_parts o.wait ≡ option_map two_numbers (last_pair (said (codes "--wait") line))

-- `o` are the options that the arguments `words` specify
abbrev pub AreOptionsOf : List Text → Options → Type 0
AreOptionsOf words o = Says (values_in number_of_values [] 0 words) o
