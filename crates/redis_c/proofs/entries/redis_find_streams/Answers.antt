use Rattle.std.proofs.Common.{length}
use Rattle.stream_in_place.specs.Sent.{all_entries, all_stream_fields}
use Rattle.redis_c.specs.Told.{StreamsIn}
use Rattle.redis_c.proofs.FindLemmas.{finding_told, streams_whole}
use Rattle.redis_c.proofs.RoomLemmas.{told_places}
use Rattle.redis_c.proofs.entries.redis_find_streams.Goals as goal

pub returns-clause-tells : goal.returns-clause-tells
returns-clause-tells c =
    let o = c.locate_streams in
    finding_told StreamsIn c.args.bytes.now (streams_whole c.args.bytes.now) _ _ _ _ o.result c.tell.result c.tell.ensures.number
    o.ensures.is

pub returns-clause-rows : goal.returns-clause-rows
returns-clause-rows c = λ ss len b.
    let o = c.locate_streams in
    told_places (λ f. f.streams) o.result c.tell.result c.tell.new.beside (length c.args.streams.now) (length ss) len
    c.tell.ensures.number c.tell.ensures.beside (o.ensures.rows ss len b)

pub returns-clause-entries : goal.returns-clause-entries
returns-clause-entries c = λ ss len b.
    let o = c.locate_streams in
    told_places (λ f. f.entries) o.result c.tell.result c.tell.new.beside (length c.args.entries.now) (length (all_entries ss)) len
    c.tell.ensures.number c.tell.ensures.beside (o.ensures.entries ss len b)

pub returns-clause-fields : goal.returns-clause-fields
returns-clause-fields c = λ ss len b.
    let o = c.locate_streams in
    told_places (λ f. f.fields) o.result c.tell.result c.tell.new.beside (length c.args.fields.now) (length (all_stream_fields ss)) len
    c.tell.ensures.number c.tell.ensures.beside (o.ensures.fields ss len b)
