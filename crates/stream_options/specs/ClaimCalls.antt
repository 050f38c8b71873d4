-- Calls on the options of a claim, and the settings after a list of them.
use Rattle.std.specs.Prelude.{ℕ, Bool, List, Option, Some, None}
use Rattle.std.specs.Option.{option_or, unwrap_or}
use Rattle.stream_options.specs.Calls.{last_said}
use Rattle.stream_options.specs.Claim.{Claim}

-- the settings that calls name
pub data ClaimSetting : Type 0 where
  idle : ClaimSetting
  time : ClaimSetting
  retry : ClaimSetting
  force : ClaimSetting
  justid : ClaimSetting
  lastid : ClaimSetting

-- their values
abbrev pub ClaimValue : ClaimSetting → Type 0
ClaimValue idle = ℕ
ClaimValue time = ℕ
ClaimValue retry = ℕ
ClaimValue force = Bool
ClaimValue justid = Bool
ClaimValue lastid = List ℕ

-- a call: the setting that it names, and its value
abbrev pub ClaimCall : Type 0
ClaimCall = (setting : ClaimSetting) × ClaimValue setting

-- the value that a call gives the setting, if it names that setting
abbrev pub claim_said : (setting : ClaimSetting) → ClaimCall → Option (ClaimValue setting)
claim_said idle (idle, n) = Some n
claim_said time (time, n) = Some n
claim_said retry (retry, n) = Some n
claim_said force (force, wanted) = Some wanted
claim_said justid (justid, wanted) = Some wanted
claim_said lastid (lastid, id) = Some id
claim_said _ _ = None

-- the settings after the calls: each has the value of the last call that names it, or else its old value
abbrev pub final_claim : Claim → List ClaimCall → Claim
final_claim start calls = record {
  idle = option_or (last_said (claim_said idle) calls) start.idle;
  time = option_or (last_said (claim_said time) calls) start.time;
  retry = option_or (last_said (claim_said retry) calls) start.retry;
  force = unwrap_or (last_said (claim_said force) calls) start.force;
  justid = unwrap_or (last_said (claim_said justid) calls) start.justid;
  lastid = option_or (last_said (claim_said lastid) calls) start.lastid;
}
