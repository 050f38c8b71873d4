use Rattle.std.proofs.Common.{[], ◌+◌, length}
use Rattle.redis_c.specs.Claimed.{JustIdIn}
use Rattle.redis_c.proofs.FindLemmas.{finding_told, justid_whole}
use Rattle.redis_c.proofs.RoomLemmas.{told_places}
use Rattle.redis_c.proofs.claims.redis_find_justid.Goals as goal

pub returns-clause-tells : goal.returns-clause-tells
returns-clause-tells c =
    let o = c.locate_justid in
    let place = o.new.claim in
    finding_told (JustIdIn place) c.args.bytes.now (λ len held. justid_whole c.args.bytes.now len held place) _ [] _ []
    o.result c.tell.result c.tell.ensures.number o.ensures.is

pub returns-clause-rows : goal.returns-clause-rows
returns-clause-rows c = λ r len b.
    let o = c.locate_justid in
    told_places (λ f. f.entries) o.result c.tell.result c.tell.new.beside (length c.args.entries.now)
    (length r.claimed + length r.deleted) len c.tell.ensures.number c.tell.ensures.beside (o.ensures.rows r len b)

pub returns-clause-fields : goal.returns-clause-fields
returns-clause-fields c = λ r len b.
    let o = c.locate_justid in
    told_places (λ f. f.fields) o.result c.tell.result c.tell.new.beside 0 0 len c.tell.ensures.number
    c.tell.ensures.beside (o.ensures.fields r len b)
