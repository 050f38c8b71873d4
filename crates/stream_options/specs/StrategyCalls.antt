-- Calls on a strategy of trimming, and the settings after a list of them.
use Rattle.std.specs.Prelude.{ℕ, List, Option, Some}
use Rattle.std.specs.Option.{option_or}
use Rattle.stream_options.specs.Calls.{last_said}
use Rattle.stream_options.specs.Trim.{Strategy}

-- the one setting that calls name; the bound is that of the constructor
pub data StrategySetting : Type 0 where
  limit : StrategySetting

-- its value
abbrev pub StrategyValue : StrategySetting → Type 0
StrategyValue limit = ℕ

-- a call: the setting that it names, and its value
abbrev pub StrategyCall : Type 0
StrategyCall = (setting : StrategySetting) × StrategyValue setting

-- the value that a call gives the setting
abbrev pub strategy_said : (setting : StrategySetting) → StrategyCall → Option (StrategyValue setting)
strategy_said limit (limit, n) = Some n

-- the settings after the calls: the limit is that of the last call, or else its old value
abbrev pub final_strategy : Strategy → List StrategyCall → Strategy
final_strategy start calls = record start { limit = option_or (last_said (strategy_said limit) calls) start.limit }
