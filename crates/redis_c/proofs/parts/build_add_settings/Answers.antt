use Rattle.std.proofs.Common.{codes, refl}
use Rattle.stream_option_parsing.specs.Parts.{add_of}
use Rattle.redis_c.specs.declared.settings.AddSettings.{AddSettings}
use Rattle.redis_c.specs.declared.settings.TrimSettings.{TrimSettings}
use Rattle.redis_c.proofs.PartLemmas.{add_told}
use Rattle.redis_c.proofs.parts.build_add_settings.Goals as goal

pub returns-clause-is : goal.returns-clause-is
returns-clause-is c =
    let mode = c.build_any_idempotency_settings-idempotency in
    let trim : TrimSettings = record c.build_any_strategy_settings-trim.result { policy = c.get_policy_number.result } in
    let s : AddSettings = record {
      nomkstream = c.args.parts.now.nomkstream;
      idempotency = mode.result.0;
      producer = mode.result.1;
      idempotent_id = mode.result.2;
      trim = trim;
    } in
    add_told s (add_of c.args.parts.now) c.args.places.now c.skip_flag.result.now c.skip_policy-rest.result.now
    c.skip_idempotency-rest.result.now refl c.get_policy_number.ensures (c.skip_flag.ensures (codes "NOMKSTREAM"))
    c.skip_policy-rest.ensures mode.ensures.is c.skip_idempotency-rest.ensures c.build_any_strategy_settings-trim.ensures.is
