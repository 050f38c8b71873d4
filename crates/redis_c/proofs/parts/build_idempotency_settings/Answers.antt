use Rattle.std.proofs.Common.{string_bytes}
use Rattle.redis_c.proofs.PartLemmas.{manual_told, automatic_told}
use Rattle.redis_c.proofs.parts.build_idempotency_settings.Goals as goal

pub returns-in-Manual-clause-is : goal.returns-in-Manual-clause-is
returns-in-Manual-clause-is c =
    let m = c.in-Manual in
    rw m.is
    (manual_told c.get_place.result c.get_place-in-Manual.result (string_bytes m.producer_id) (string_bytes m.idempotent_id)
    c.args.places.now c.get_place.ensures c.get_place-in-Manual.ensures)

pub returns-in-Automatic-clause-is : goal.returns-in-Automatic-clause-is
returns-in-Automatic-clause-is c =
    let m = c.in-Automatic in
    rw m.is
    (automatic_told c.get_place-in-Automatic.result c.build_empty_place.result (string_bytes m.producer_id) c.args.places.now
    c.get_place-in-Automatic.ensures)
