use Rattle.std.proofs.Common.{string_bytes}
use Rattle.redis_c.proofs.PartLemmas.{lastid_told}
use Rattle.redis_c.proofs.parts.build_lastid_settings.Goals as goal

pub returns-in-Some-clause-is : goal.returns-in-Some-clause-is
returns-in-Some-clause-is c =
    rw c.in-Some.is
    (lastid_told c.get_place.result (string_bytes c.in-Some.field-0) c.args.places.now c.get_place.ensures)
