-- Accepted calls on a configuration, and the settings after a list of them.
use Rattle.std.specs.Prelude.{ℕ, List, Option, Some, None}
use Rattle.std.specs.Option.{option_or}
use Rattle.stream_options.specs.Calls.{last_said}
use Rattle.stream_options.specs.Config.{Config}

-- the settings that calls name
pub data ConfigSetting : Type 0 where
  seconds : ConfigSetting
  maxsize : ConfigSetting

-- a call: the setting that it names, and its value
abbrev pub ConfigCall : Type 0
ConfigCall = (setting : ConfigSetting) × ℕ

-- the value that a call gives the setting, if it names that setting
abbrev pub config_said : ConfigSetting → ConfigCall → Option ℕ
config_said seconds (seconds, n) = Some n
config_said maxsize (maxsize, n) = Some n
config_said _ _ = None

-- the settings after the calls: each has the value of the last call that names it, or else its old value
abbrev pub final_config : Config → List ConfigCall → Config
final_config start calls = record {
  seconds = option_or (last_said (config_said seconds) calls) start.seconds;
  maxsize = option_or (last_said (config_said maxsize) calls) start.maxsize;
}
