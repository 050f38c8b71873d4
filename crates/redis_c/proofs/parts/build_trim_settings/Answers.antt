use Rattle.stream_option_parsing.specs.Parts.{trim_of}
use Rattle.redis_c.specs.declared.settings.TrimSettings.{TrimSettings}
use Rattle.redis_c.proofs.PartLemmas.{trim_told}
use Rattle.redis_c.proofs.parts.build_trim_settings.Goals as goal

pub returns-clause-is : goal.returns-clause-is
returns-clause-is c =
    let s : TrimSettings = record c.build_strategy_settings-settings.result { policy = c.get_policy_number.result } in
    trim_told s (trim_of c.args.parts.now) c.args.places.now c.get_policy_number.ensures
    c.build_strategy_settings-settings.ensures.is
