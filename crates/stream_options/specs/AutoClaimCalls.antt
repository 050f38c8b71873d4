-- Calls on the options of an automatic claim, and the settings after a list of them.
use Rattle.std.specs.Prelude.{ℕ, Bool, List, Option, Some, None}
use Rattle.std.specs.Option.{option_or, unwrap_or}
use Rattle.stream_options.specs.AutoClaim.{AutoClaim}
use Rattle.stream_options.specs.Calls.{last_said}

-- the settings that calls name
pub data AutoClaimSetting : Type 0 where
  count : AutoClaimSetting
  justid : AutoClaimSetting

-- their values
abbrev pub AutoClaimValue : AutoClaimSetting → Type 0
AutoClaimValue count = ℕ
AutoClaimValue justid = Bool

-- a call: the setting that it names, and its value
abbrev pub AutoClaimCall : Type 0
AutoClaimCall = (setting : AutoClaimSetting) × AutoClaimValue setting

-- the value that a call gives the setting, if it names that setting
abbrev pub autoclaim_said : (setting : AutoClaimSetting) → AutoClaimCall → Option (AutoClaimValue setting)
autoclaim_said count (count, n) = Some n
autoclaim_said justid (justid, wanted) = Some wanted
autoclaim_said _ _ = None

-- the settings after the calls: each has the value of the last call that names it, or else its old value
abbrev pub final_autoclaim : AutoClaim → List AutoClaimCall → AutoClaim
final_autoclaim start calls = record {
  count = option_or (last_said (autoclaim_said count) calls) start.count;
  justid = unwrap_or (last_said (autoclaim_said justid) calls) start.justid;
}
