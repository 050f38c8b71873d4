-- Calls on the options of an addition, and the settings after a list of them.
use Rattle.std.specs.Prelude.{Bool, List, Option, Some, None}
use Rattle.std.specs.Option.{option_or, unwrap_or}
use Rattle.stream_options.specs.Add.{Add}
use Rattle.stream_options.specs.Calls.{last_said}
use Rattle.stream_options.specs.Idempotency.{Idempotency}
use Rattle.stream_options.specs.Policy.{Policy}
use Rattle.stream_options.specs.Trim.{Strategy}

-- the settings that calls name; a strategy with its limit is one setting, and both ways to detect a
-- duplicate are one setting
pub data AddSetting : Type 0 where
  nomkstream : AddSetting
  policy : AddSetting
  idempotency : AddSetting
  trim : AddSetting

-- their values
abbrev pub AddValue : AddSetting → Type 0
AddValue nomkstream = Bool
AddValue policy = Policy
AddValue idempotency = Idempotency
AddValue trim = Strategy

-- a call: the setting that it names, and its value
abbrev pub AddCall : Type 0
AddCall = (setting : AddSetting) × AddValue setting

-- the value that a call gives the setting, if it names that setting
abbrev pub add_said : (setting : AddSetting) → AddCall → Option (AddValue setting)
add_said nomkstream (nomkstream, wanted) = Some wanted
add_said policy (policy, p) = Some p
add_said idempotency (idempotency, i) = Some i
add_said trim (trim, s) = Some s
add_said _ _ = None

-- the settings after the calls: each has the value of the last call that names it, or else its old value
abbrev pub final_add : Add → List AddCall → Add
final_add start calls = record {
  nomkstream = unwrap_or (last_said (add_said nomkstream) calls) start.nomkstream;
  policy = option_or (last_said (add_said policy) calls) start.policy;
  idempotency = option_or (last_said (add_said idempotency) calls) start.idempotency;
  trim = option_or (last_said (add_said trim) calls) start.trim;
}

-- one more call: the setting that it names has its value
abbrev pub after_add : Add → AddCall → Add
after_add settings (nomkstream, wanted) = record settings { nomkstream = wanted }
after_add settings (policy, p) = record settings { policy = Some p }
after_add settings (idempotency, i) = record settings { idempotency = Some i }
after_add settings (trim, s) = record settings { trim = Some s }
