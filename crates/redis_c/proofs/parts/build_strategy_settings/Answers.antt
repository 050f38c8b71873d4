use Rattle.std.proofs.Common.{refl, string_bytes}
use Rattle.stream_options.specs.View.{mode_of}
use Rattle.redis_c.specs.declared.settings.TrimSettings.{TrimSettings}
use Rattle.redis_c.proofs.PartLemmas.{minid_told}
use Rattle.redis_c.proofs.parts.build_strategy_settings.Goals as goal

pub returns-in-MinId-clause-is : goal.returns-in-MinId-clause-is
returns-in-MinId-clause-is c =
    let m = c.in-MinId in
    let s : TrimSettings = record c.build_untrimmed-settings.result {
      bound = 2;
      approximate = c.is_approximate-in-MinId.result;
      has_limit = c.set_number-in-MinId.result.0;
      minid = c.get_place-settings.result;
      limit = c.set_number-in-MinId.result.1;
    } in
    rw m.is
    (minid_told s (mode_of m.mode) (string_bytes m.field-1) m.limit c.args.places.now refl
    c.is_approximate-in-MinId.ensures c.get_place-settings.ensures c.set_number-in-MinId.ensures.is)
