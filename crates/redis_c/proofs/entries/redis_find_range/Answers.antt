use Rattle.std.proofs.Common.{[], length}
use Rattle.stream_in_place.specs.Sent.{all_fields}
use Rattle.redis_c.specs.Told.{RangeIn}
use Rattle.redis_c.proofs.FindLemmas.{finding_told, range_whole}
use Rattle.redis_c.proofs.RoomLemmas.{told_places}
use Rattle.redis_c.proofs.entries.redis_find_range.Goals as goal

pub returns-clause-tells : goal.returns-clause-tells
returns-clause-tells c =
    let o = c.locate_range in
    finding_told RangeIn c.args.bytes.now (range_whole c.args.bytes.now) _ [] _ _ o.result c.tell.result c.tell.ensures.number
    o.ensures.is

pub returns-clause-rows : goal.returns-clause-rows
returns-clause-rows c = λ es len b.
    let o = c.locate_range in
    told_places (λ f. f.entries) o.result c.tell.result c.tell.new.beside (length c.args.entries.now) (length es) len
    c.tell.ensures.number c.tell.ensures.beside (o.ensures.rows es len b)

pub returns-clause-fields : goal.returns-clause-fields
returns-clause-fields c = λ es len b.
    let o = c.locate_range in
    told_places (λ f. f.fields) o.result c.tell.result c.tell.new.beside (length c.args.fields.now) (length (all_fields es)) len
    c.tell.ensures.number c.tell.ensures.beside (o.ensures.fields es len b)
