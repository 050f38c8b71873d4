-- The options of the program, in terms of the arguments that clap found and of the arguments themselves.
use Rattle.std.specs.Prelude.{◌≡◌, ◌≢◌, ◌∷◌, ◌||◌, [], ℕ, List, None, codes, if◌then◌else◌, option_map, string_bytes}
use Rattle.std.specs.Str.{bytes_eq}
use Rattle.clap.specs.declared.parser.matches.Found.{Found}
use Rattle.command_lines.specs.Said.{SaysSettings, number_and_text, two_numbers}
use Rattle.command_lines.specs.WorkerSettings.{AreSettings, GivesUp, IsFlag, IsWord, Waits, parts_of, wait_parts}
use Rattle.command_lines.specs.Words.{Text, is_given, last_pair, said, values_in}
use Rattle.stream_drain.specs.declared.options.Options.{Options}

-- `o` has the settings, the file and the flags of the arguments that clap found. Either entries are given up
-- because of `--dead`, or rounds are confirmed because of `--wait`, but not both.
pub record AreOptions (found : Found) (o : Options) : Type 0 where
  pub settings : AreSettings (codes "count") 1 10000 found o.settings
  pub path : IsWord found (codes "FILE") o.path
  pub until_empty : IsFlag found (codes "until-empty") o.until_empty
  pub json : IsFlag found (codes "json") o.json
  pub look_up : IsFlag found (codes "look-up") o.look_up
  pub quiet : IsFlag found (codes "quiet") o.quiet
  pub dead : GivesUp found o.dead
  pub wait : Waits found o.wait
  pub either : o.dead ≢ None → o.wait ≡ None

-- the number of arguments after `option` that are its values
abbrev pub number_of_values : Text → ℕ
number_of_values option =
    if bytes_eq option (codes "--json") || bytes_eq option (codes "--look-up") || bytes_eq option (codes "--quiet")
    || bytes_eq option (codes "--until-empty") then 0
    else if bytes_eq option (codes "--dead") || bytes_eq option (codes "--wait") then 2
    else 1

-- `o` has the flags of the command line
pub record SaysFlags (line : List (Text × Text)) (o : Options) : Type 0 where
  pub until_empty : o.until_empty ≡ is_given (codes "--until-empty") line
  pub json : o.json ≡ is_given (codes "--json") line
  pub look_up : o.look_up ≡ is_given (codes "--look-up") line
  pub quiet : o.quiet ≡ is_given (codes "--quiet") line

-- `o` has the values of the command line. The positional arguments are KEY, GROUP, CONSUMER and FILE, in this
-- order.
pub record Says (line : List (Text × Text)) (o : Options) : Type 0 where
  pub names : said [] line ≡ string_bytes o.settings.key ∷ string_bytes o.settings.group
      ∷ string_bytes o.settings.consumer ∷ string_bytes o.path ∷ []
  pub settings : SaysSettings (codes "1000") 1 10000 line o.settings
  pub flags : SaysFlags line o
  pub dead : option_map parts_of o.dead ≡ option_map number_and_text (last_pair (said (codes "--dead") line))
  pub wait : option_map wait_parts o.wait ≡ option_map two_numbers (last_pair (said (codes "--wait") line))

-- `o` are the options that the arguments `words` specify
abbrev pub AreOptionsOf : List Text → Options → Type 0
AreOptionsOf words o = Says (values_in number_of_values [] 0 words) o
