-- The checks of settings.
use Rattle.std.specs.Prelude.{ℕ, ◌-◌, ◌^◌, nat_eq, nat_lt, length, Result, Ok, Err, None, String, string_bytes}
use Rattle.std.specs.Prelude.{if◌then◌else◌}
use Rattle.std.specs.declared.alloc.Global.{Global}
use Rattle.worker_producer.specs.declared.settings.Settings.{Settings}
use Rattle.worker_producer.specs.declared.settings.SettingsError.{SettingsError}
use Rattle.worker_producer.specs.declared.settings.SettingsError.TheVariants.{NoKey, NoBatch, LargeBatch, LargeBase}

-- the settings, or the first error
abbrev pub checked : String Global → ℕ → ℕ → Result Settings SettingsError
checked key base batch =
    if nat_eq (length (string_bytes key)) 0 then Err NoKey
    else if nat_eq batch 0 then Err NoBatch
    else if nat_lt 10000 batch then Err LargeBatch
    else if nat_eq base (2 ^ 64 - 1) then Err LargeBase
    else Ok (record { key = key; base = base; batch = batch; trim = None })

-- the same settings with another base, or the error
abbrev pub based : Settings → ℕ → Result Settings SettingsError
based s base = if nat_eq base (2 ^ 64 - 1) then Err LargeBase else Ok (record s { base = base })
