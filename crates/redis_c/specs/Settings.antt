-- The meaning of the settings that C passes: numbers, flags, and texts at places in bytes.
use Rattle.std.specs.Prelude.{◌≡◌, ℕ, Bool, List, Option, Some, None, Result, Ok, Err, option_map, option_and_then}
use Rattle.std.specs.Prelude.{nat_eq, if◌then◌else◌}
use Rattle.std.specs.Str.{is_utf8}
use Rattle.redis_resp.specs.Reading.{both_read}
use Rattle.redis_wire.specs.declared.place.Span.{Span}
use Rattle.stream_options.specs.Add.{Add}
use Rattle.stream_options.specs.AutoClaim.{AutoClaim}
use Rattle.stream_options.specs.Claim.{Claim}
use Rattle.stream_options.specs.Idempotency.{Idempotency, manual, automatic}
use Rattle.stream_options.specs.Policy.{Policy, keep_ref, del_ref, acked}
use Rattle.stream_options.specs.Trim.{Mode, exact, approx, Bound, max_len, min_id, Strategy, Trim}
use Rattle.redis_c.specs.declared.settings.TrimSettings.{TrimSettings}
use Rattle.redis_c.specs.declared.settings.AddSettings.{AddSettings}
use Rattle.redis_c.specs.declared.settings.ClaimSettings.{ClaimSettings}
use Rattle.redis_c.specs.declared.settings.AutoClaimSettings.{AutoClaimSettings}
use Rattle.redis_c.specs.declared.settings.Unset.{Unset}
use Rattle.redis_c.specs.declared.settings.Unset.TheVariants.{Memory, Refused}
use Rattle.redis_c.specs.Placed.{text_at}

-- the number, if it is set
abbrev pub if_set : Bool → ℕ → Option ℕ
if_set is_set n = if is_set then Some n else None

-- the bytes, if they are UTF-8
abbrev pub if_utf8 : List ℕ → Option (List ℕ)
if_utf8 bytes = if is_utf8 bytes then Some bytes else None

-- the text at a place, if it is within the bytes and UTF-8
abbrev pub utf8_at : List ℕ → Span → Option (List ℕ)
utf8_at bytes place = option_and_then if_utf8 (text_at bytes place)

-- ---- trimming

-- the policy of the number for deleted entries in the pending lists of groups; `None` if there is no such policy
abbrev pub policy_by : ℕ → Option (Option Policy)
policy_by n = if nat_eq n 0 then Some None else if nat_eq n 1 then Some (Some keep_ref)
    else if nat_eq n 2 then Some (Some del_ref) else if nat_eq n 3 then Some (Some acked) else None

-- `~` if more entries may remain, and otherwise `=`
abbrev pub mode_by : Bool → Mode
mode_by approximate = if approximate then approx else exact

-- the bound; `None` if the number names none, or the id is not a text within the bytes
abbrev pub bound_in : List ℕ → TrimSettings → Option Bound
bound_in bytes s = if nat_eq s.bound 1 then Some (max_len (mode_by s.approximate) s.maxlen)
    else if nat_eq s.bound 2 then option_map (min_id (mode_by s.approximate)) (utf8_at bytes s.minid) else None

-- the bound and the limit
abbrev pub strategy_with : TrimSettings → Bound → Strategy
strategy_with s bound = record { bound = bound; limit = if_set s.has_limit s.limit }

-- the strategy
abbrev pub strategy_in : List ℕ → TrimSettings → Option Strategy
strategy_in bytes s = option_map (strategy_with s) (bound_in bytes s)

-- the strategy, if anything is trimmed
abbrev pub any_strategy_in : List ℕ → TrimSettings → Option (Option Strategy)
any_strategy_in bytes s = if nat_eq s.bound 0 then Some None else option_map Some (strategy_in bytes s)

-- a strategy and a policy
abbrev pub trim_with : Strategy × Option Policy → Trim
trim_with x = record { strategy = x.0; policy = x.1 }

-- the settings of `XTRIM`
abbrev pub trim_in : List ℕ → TrimSettings → Option Trim
trim_in bytes s = option_map trim_with (both_read (strategy_in bytes s) (policy_by s.policy))

-- ---- adding

-- a producer and an id of its own
abbrev pub manual_by : List ℕ × List ℕ → Option Idempotency
manual_by x = Some (manual x.0 x.1)

-- a producer
abbrev pub automatic_by : List ℕ → Option Idempotency
automatic_by producer = Some (automatic producer)

-- how the server detects duplicates, by the number and the texts at these places, if it does
abbrev pub idempotency_by : List ℕ → ℕ → Span → Span → Option (Option Idempotency)
idempotency_by bytes way producer item = if nat_eq way 0 then Some None
    else if nat_eq way 1 then option_map manual_by (both_read (utf8_at bytes producer) (utf8_at bytes item))
    else if nat_eq way 2 then option_map automatic_by (utf8_at bytes producer) else None

-- how the server detects duplicates, if it does
abbrev pub idempotency_in : List ℕ → AddSettings → Option (Option Idempotency)
idempotency_in bytes s = idempotency_by bytes s.idempotency s.producer s.idempotent_id

-- the settings in their order
abbrev pub add_with : Bool → Option Policy × (Option Idempotency × Option Strategy) → Add
add_with nomkstream x = record { nomkstream = nomkstream; policy = x.0; idempotency = x.1.0; trim = x.1.1 }

-- the settings of `XADD`
abbrev pub add_in : List ℕ → AddSettings → Option Add
add_in bytes s =
    option_map (add_with s.nomkstream)
    (both_read (policy_by s.trim.policy) (both_read (idempotency_in bytes s) (any_strategy_in bytes s.trim)))

-- ---- claiming

-- the id at a place, if LASTID is set
abbrev pub lastid_by : List ℕ → Bool → Span → Option (Option (List ℕ))
lastid_by bytes is_noted place = if is_noted then option_map Some (utf8_at bytes place) else Some None

-- the id of LASTID, if it is set
abbrev pub lastid_in : List ℕ → ClaimSettings → Option (Option (List ℕ))
lastid_in bytes s = lastid_by bytes s.has_lastid s.lastid

-- the settings with that id
abbrev pub claim_with : ClaimSettings → Option (List ℕ) → Claim
claim_with s lastid = record {
  idle = if_set s.has_idle s.idle;
  time = if_set s.has_time s.time;
  retry = if_set s.has_retry s.retry;
  force = s.force;
  justid = s.justid;
  lastid = lastid;
}

-- the settings of `XCLAIM`
abbrev pub claim_in : List ℕ → ClaimSettings → Option Claim
claim_in bytes s = option_map (claim_with s) (lastid_in bytes s)

-- the settings of `XAUTOCLAIM`
abbrev pub autoclaim_of : AutoClaimSettings → AutoClaim
autoclaim_of s = record { count = if_set s.has_count s.count; justid = s.justid }

-- ---- for the functions within

-- an error means that the settings are invalid, or that memory ran out
abbrev pub Fails : {Y : Type 0} → Unset → Option Y → Type 0
Fails Memory meant = Unit {0}
Fails Refused meant = meant ≡ None

-- the result of a function, seen by view, is what is meant, unless memory ran out
abbrev pub Makes : {X Y : Type 0} → (X → Y) → Result X Unset → Option Y → Type 0
Makes view (Ok x) meant = meant ≡ Some (view x)
Makes view (Err e) meant = Fails e meant
