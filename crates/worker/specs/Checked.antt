-- The checks of the settings of a worker.
use Rattle.std.specs.Prelude.{ℕ, nat_eq, nat_lt, false, length, Result, Ok, Err, String, string_bytes, if◌then◌else◌}
use Rattle.std.specs.declared.alloc.Global.{Global}
use Rattle.worker.specs.declared.state.MakeGroup.TheVariants.{Never}
use Rattle.worker.specs.declared.state.Settings.{Settings}
use Rattle.worker.specs.declared.state.SettingsError.{SettingsError}
use Rattle.worker.specs.declared.state.SettingsError.TheVariants.{NoKey, NoGroup, NoConsumer, NoCount, LargeCount}

-- the default settings for this stream, group and consumer, or the error of the first empty name
abbrev pub checked : String Global → String Global → String Global → Result Settings SettingsError
checked key group consumer =
    if nat_eq (length (string_bytes key)) 0 then Err NoKey
    else if nat_eq (length (string_bytes group)) 0 then Err NoGroup
    else if nat_eq (length (string_bytes consumer)) 0 then Err NoConsumer
    else Ok (record {
      key = key;
      group = group;
      consumer = consumer;
      count = 1000;
      one_at_a_time = false;
      block = 5000;
      min_idle = 60000;
      every = 10;
      make_group = Never;
    })

-- `Ok` if `count` is from 1 to 10,000, and else the error
abbrev pub counted : ℕ → Result (Unit {0}) SettingsError
counted count = if nat_eq count 0 then Err NoCount else if nat_lt 10000 count then Err LargeCount else Ok tt
