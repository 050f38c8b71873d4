-- The options of the program, in terms of the arguments that clap found and of the arguments themselves.
use Rattle.std.specs.Prelude.{◌≡◌, ◌∷◌, [], ℕ, List, codes, if◌then◌else◌, option_map, string_bytes}
use Rattle.std.specs.Str.{bytes_eq}
use Rattle.clap.specs.declared.parser.matches.Found.{Found}
use Rattle.command_lines.specs.Said.{SaysSettings, number_and_text}
use Rattle.command_lines.specs.WorkerSettings.{AreSettings, GivesUp, IsFlag, IsWord, parts_of}
use Rattle.command_lines.specs.Words.{Text, is_given, last_pair, last_said, said, values_in}
use Rattle.stream_run.specs.declared.options.Options.{Options}

-- `o` has the settings and the values of `--until-empty` and `--dead` that clap found. The child reads from the
-- pipe `--lines` and writes to the pipe `--replies`.
pub record AreOptions (found : Found) (o : Options) : Type 0 where
  pub settings : AreSettings (codes "count") 1 10000 found o.settings
  pub until_empty : IsFlag found (codes "until-empty") o.until_empty
  pub dead : GivesUp found o.dead
  pub lines : IsWord found (codes "lines") o.lines
  pub replies : IsWord found (codes "replies") o.replies

-- the number of arguments after `option` that are its values
abbrev pub number_of_values : Text → ℕ
number_of_values option =
    if bytes_eq option (codes "--until-empty") then 0
    else if bytes_eq option (codes "--dead") then 2
    else 1

-- `o` has the paths of the pipes that the command line specifies
pub record SaysPipes (line : List (Text × Text)) (o : Options) : Type 0 where
  pub lines : string_bytes o.lines ≡ last_said (codes "/dev/fd/4") (said (codes "--lines") line)
  pub replies : string_bytes o.replies ≡ last_said (codes "/dev/fd/3") (said (codes "--replies") line)

-- `o` has the values of the command line. The positional arguments are only KEY, GROUP and CONSUMER, in this
-- order.
pub record Says (line : List (Text × Text)) (o : Options) : Type 0 where
  pub names : said [] line ≡ string_bytes o.settings.key ∷ string_bytes o.settings.group
      ∷ string_bytes o.settings.consumer ∷ []
  pub settings : SaysSettings (codes "10") 1 10000 line o.settings
  pub until_empty : o.until_empty ≡ is_given (codes "--until-empty") line
  pub dead : option_map parts_of o.dead ≡ option_map number_and_text (last_pair (said (codes "--dead") line))
  pub pipes : SaysPipes line o

-- `o` are the options that the arguments `words` specify
abbrev pub AreOptionsOf : List Text → Options → Type 0
AreOptionsOf words o = Says (values_in number_of_values [] 0 words) o
