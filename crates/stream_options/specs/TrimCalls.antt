-- Calls on the options of a trimming, and the settings after a list of them.
use Rattle.std.specs.Prelude.{ℕ, List, Option, Some, None}
use Rattle.std.specs.Option.{option_or}
use Rattle.stream_options.specs.Calls.{last_said}
use Rattle.stream_options.specs.Policy.{Policy}
use Rattle.stream_options.specs.Trim.{Trim}

-- the settings that calls name; the bound is that of the constructor
pub data TrimSetting : Type 0 where
  limit : TrimSetting
  policy : TrimSetting

-- their values
abbrev pub TrimValue : TrimSetting → Type 0
TrimValue limit = ℕ
TrimValue policy = Policy

-- a call: the setting that it names, and its value
abbrev pub TrimCall : Type 0
TrimCall = (setting : TrimSetting) × TrimValue setting

-- the value that a call gives the setting, if it names that setting
abbrev pub trim_said : (setting : TrimSetting) → TrimCall → Option (TrimValue setting)
trim_said limit (limit, n) = Some n
trim_said policy (policy, p) = Some p
trim_said _ _ = None

-- the settings after the calls: each has the value of the last call that names it, or else its old value
abbrev pub final_trim : Trim → List TrimCall → Trim
final_trim start calls = record {
  strategy = record start.strategy { limit = option_or (last_said (trim_said limit) calls) start.strategy.limit };
  policy = option_or (last_said (trim_said policy) calls) start.policy;
}
