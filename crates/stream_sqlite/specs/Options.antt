-- The options of the program, in terms of the arguments that clap found and of the arguments themselves.
use Rattle.std.specs.Prelude.{◌≡◌, ◌≢◌, ◌∷◌, ◌-◌, [], ℕ, IfSome, List, None, Option, Some, String, codes, if◌then◌else◌, length, map, option_map, slice_get, string_bytes}
use Rattle.std.specs.Str.{bytes_eq}
use Rattle.std.specs.declared.alloc.Global.{Global}
use Rattle.clap.specs.Words.{first_value}
use Rattle.clap.specs.declared.parser.matches.Found.{Found}
use Rattle.command_lines.specs.Said.{SaysSettings, number_and_text}
use Rattle.command_lines.specs.WorkerSettings.{AreSettings, GivesUp, IsFlag, IsWord, parts_of, word_in}
use Rattle.command_lines.specs.Words.{Text, is_given, last_pair, last_said, said, values_in}
use Rattle.worker.specs.declared.dead_letters.search.GiveUp.{GiveUp}
use Rattle.stream_sqlite.specs.Columns.{columns_of, shape_of}
use Rattle.stream_sqlite.specs.declared.options.Options.{Options}

-- `target` is the value of `--forward TARGET`, the stream that entries are forwarded to. It is not KEY.
pub record ForwardsTo (found : Found) (target : Option (String Global)) : Type 0 where
  pub given : option_map string_bytes target ≡ first_value found (codes "forward")
  pub other : IfSome target (λ t. string_bytes t ≢ word_in found (codes "KEY"))

-- the stream of dead letters is not TARGET
abbrev pub IsOtherThan : Found → Option GiveUp → Type 0
IsOtherThan found to = IfSome to (λ g. string_bytes g.stream ≢ word_in found (codes "forward"))

-- `o` has the values of the arguments that clap found. Without `--columns` the table has no columns of its own
-- besides those of the id.
pub record AreOptions (found : Found) (o : Options) : Type 0 where
  pub settings : AreSettings (codes "count") 1 10000 found o.settings
  pub path : IsWord found (codes "FILE") o.path
  pub table : IsWord found (codes "table") o.table
  pub columns : first_value found (codes "columns") ≡ None → o.columns.items ≡ []
  pub until_empty : IsFlag found (codes "until-empty") o.until_empty
  pub forward : ForwardsTo found o.forward
  pub dead : GivesUp found o.dead
  pub other : IsOtherThan found o.dead

-- the number of arguments after `option` that are its values
abbrev pub number_of_values : Text → ℕ
number_of_values option =
    if bytes_eq option (codes "--until-empty") then 0
    else if bytes_eq option (codes "--dead") then 2
    else 1

-- the last value, or `None` if there are no values
abbrev pub last_given : List Text → Option Text
last_given values = slice_get values (length values - 1)

-- `o` has the table, the columns and the target stream that the command line specifies
pub record SaysTable (line : List (Text × Text)) (o : Options) : Type 0 where
  pub table : string_bytes o.table ≡ last_said (codes "entries") (said (codes "--table") line)
  pub columns : Some (map shape_of o.columns.items) ≡ columns_of (last_given (said (codes "--columns") line))
  pub forward : option_map string_bytes o.forward ≡ last_given (said (codes "--forward") line)

-- the target stream is neither KEY nor the stream of dead letters
pub record IsApart (o : Options) : Type 0 where
  pub key : IfSome o.forward (λ t. string_bytes t ≢ string_bytes o.settings.key)
  pub dead : IfSome o.forward (λ t. IfSome o.dead (λ g. string_bytes g.stream ≢ string_bytes t))

-- `o` has the values of the command line. The positional arguments are KEY, GROUP, CONSUMER and FILE, in this
-- order.
pub record Says (line : List (Text × Text)) (o : Options) : Type 0 where
  pub names : said [] line ≡ string_bytes o.settings.key ∷ string_bytes o.settings.group
      ∷ string_bytes o.settings.consumer ∷ string_bytes o.path ∷ []
  pub settings : SaysSettings (codes "1000") 1 10000 line o.settings
  pub table : SaysTable line o
  pub until_empty : o.until_empty ≡ is_given (codes "--until-empty") line
  pub dead : option_map parts_of o.dead ≡ option_map number_and_text (last_pair (said (codes "--dead") line))
  pub apart : IsApart o

-- `o` are the options that the arguments `words` specify
abbrev pub AreOptionsOf : List Text → Options → Type 0
AreOptionsOf words o = Says (values_in number_of_values [] 0 words) o
