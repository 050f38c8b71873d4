-- Calls on the options of a read, and the settings after a list of them.
use Rattle.std.specs.Prelude.{ℕ, Bool, List, Option, Some, None}
use Rattle.std.specs.Option.{option_or, unwrap_or}
use Rattle.stream_options.specs.Calls.{last_said}
use Rattle.stream_options.specs.Read.{Group, Read}

-- the settings that calls name; the argument lists of both names are one setting
pub data ReadSetting : Type 0 where
  group : ReadSetting
  block : ReadSetting
  count : ReadSetting
  noack : ReadSetting
  claim : ReadSetting

-- their values
abbrev pub ReadValue : ReadSetting → Type 0
ReadValue group = Group
ReadValue block = ℕ
ReadValue count = ℕ
ReadValue noack = Bool
ReadValue claim = ℕ

-- a call: the setting that it names, and its value
abbrev pub ReadCall : Type 0
ReadCall = (setting : ReadSetting) × ReadValue setting

-- the value that a call gives the setting, if it names that setting
abbrev pub read_said : (setting : ReadSetting) → ReadCall → Option (ReadValue setting)
read_said group (group, g) = Some g
read_said block (block, n) = Some n
read_said count (count, n) = Some n
read_said noack (noack, wanted) = Some wanted
read_said claim (claim, n) = Some n
read_said _ _ = None

-- the settings after the calls: each has the value of the last call that names it, or else its old value
abbrev pub final_read : Read → List ReadCall → Read
final_read start calls = record {
  group = option_or (last_said (read_said group) calls) start.group;
  block = option_or (last_said (read_said block) calls) start.block;
  count = option_or (last_said (read_said count) calls) start.count;
  noack = unwrap_or (last_said (read_said noack) calls) start.noack;
  claim = option_or (last_said (read_said claim) calls) start.claim;
}

-- one more call: the setting that it names has its value
abbrev pub after_read : Read → ReadCall → Read
after_read settings (group, g) = record settings { group = Some g }
after_read settings (block, n) = record settings { block = Some n }
after_read settings (count, n) = record settings { count = Some n }
after_read settings (noack, wanted) = record settings { noack = wanted }
after_read settings (claim, n) = record settings { claim = Some n }
