use Rattle.redis_wire.proofs.PlaceLemmas.{nil_same}
use Rattle.redis_wire.proofs.place.nil_at.Goals as goal

pub returns-in-Some-clause-found : goal.returns-in-Some-clause-found
returns-in-Some-clause-found c =
    nil_same c.args.limits c.args.bytes.now c.args.at c.in-Some.after c.in-Some.ensures.is

pub returns-in-Some-read_null_bulk_string-clause-found : goal.returns-in-Some-read_null_bulk_string-clause-found
returns-in-Some-read_null_bulk_string-clause-found c =
    nil_same c.args.limits c.args.bytes.now c.args.at c.in-Some-read_null_bulk_string.after
    c.in-Some-read_null_bulk_string.ensures.is
